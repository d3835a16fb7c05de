-- What was written is read back.
use native.Mathlib.Omega.{arith}
use lib.ListN.{replicate}
use Rattle.sheet.proofs.Owned.{owned}
use Rattle.saved.proofs.Lengths.{lawful_file_room}
use Rattle.bench_calls.proofs.Filing.{file_length, file_part, file_back}
use Rattle.bench_calls.proofs.files.back_reply.Goals as goal

pub slice_bounds-out-end : goal.slice_bounds-out-end
slice_bounds-out-end c =
    let z = owned c.args.d _ c.well_formed.0.1.1 in
    let w = c.save_on-w.ensures in
    omega (arith, lawful_file_room c.requires z, file_length c.requires z (replicate 6022 0) (omega arith) w.told w.written)

pub slice_bounds-open-end : goal.slice_bounds-open-end
slice_bounds-open-end c =
    let z = owned c.args.d _ c.well_formed.0.1.1 in
    let w = c.save_on-w in
    file_part c.requires z (replicate 6022 0) (omega arith) w.ensures.told w.ensures.written w.auto.out

pub returns : goal.returns
returns c =
    let w = c.save_on-w.ensures in
    file_back c.requires (owned c.args.d _ c.well_formed.0.1.1) (replicate 6022 0) (omega arith) w.told w.written c.open-o.ensures
