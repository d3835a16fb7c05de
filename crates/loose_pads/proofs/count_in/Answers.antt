-- `loose_pads::count_in` meets its contract: what is left to count are the pads of the components from the index on.
use native.Mathlib.Omega.{arith}
use mathlib.Core.Path.{subst}
use lib.ListN.{drop_of_length-le}
use Rattle.loose_pads.specs.Loose.{kinds_of}
use Rattle.loose_pads.proofs.Occurring.{table_spare}
use Rattle.loose_pads.proofs.Walking.{Walked, walk_start, walk_row, walk_end}
use Rattle.loose_pads.proofs.count_in.Goals as goal

pub loop-c-init : goal.loop-c-init
loop-c-init c = record { pads = omega arith; few = omega arith; walked = walk_start _ _ }

pub is_spare-n-requires : goal.is_spare-n-requires
is_spare-n-requires c = c.requires.low.low _

pub is_spare-a-requires : goal.is_spare-a-requires
is_spare-a-requires c = c.requires.low.low _

pub is_spare-b-requires : goal.is_spare-b-requires
is_spare-b-requires c = c.requires.low.low _

pub loop-c-preserved : goal.loop-c-preserved
loop-c-preserved c =
    let l = c.loop-c in
    let table = c.occurrences-table.ensures in
    record {
      pads = omega (arith, c.pads_of_kind-pad.ensures.1);
      few = omega (arith, c.loose_part-loose.ensures.1);
      walked = walk_row c.args.cs.now l.c-index _ c.loop-c-test.true l.invariant.walked c.pads_of_kind-pad.ensures.0
          (table_spare table c.requires.low l.pad c.is_spare-n.ensures)
          (table_spare table c.requires.low _ c.is_spare-a.ensures)
          (table_spare table c.requires.low _ c.is_spare-b.ensures)
          c.loose_part-loose.ensures.0;
    }

pub returns : goal.returns
returns c =
    let l = c.loop-c in
    walk_end (subst (λ cs. Walked (kinds_of c.args.cs.now) c.args.numbers (kinds_of cs) l.pad l.loose) (drop_of_length-le c.args.cs.now {i = l.c-index} (omega arith)) l.invariant.walked)
