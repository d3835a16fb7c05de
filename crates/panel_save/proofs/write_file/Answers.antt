-- `write_file` meets its contract: there is room for the file, and it is all that is handed over.
use Rattle.std.proofs.Common.{refl, sym, ap, ◌∙◌, length-take-le}
use Rattle.sheet.proofs.Owned.{owned}
use Rattle.streams.specs.Sums.{sum_of}
use Rattle.panel_save.proofs.Ending.{file_inside, file_front}
use Rattle.panel_save.proofs.write_file.Goals as goal

pub slice_bounds-write_block-end : goal.slice_bounds-write_block-end
slice_bounds-write_block-end g c =
    file_inside c.requires.lawful (owned c.args.d _ c.well_formed.1.0.1.1) c.args.out.now c.requires.room c.save_on-w.ensures.told c.save_on-w.ensures.written

pub slice_bounds-write_block-end-2 : goal.slice_bounds-write_block-end-2
slice_bounds-write_block-end-2 g c =
    sym (length-take-le _ _ (file_inside c.requires.lawful (owned c.args.d _ c.well_formed.1.0.1.1) c.args.out.now c.requires.room c.save_on-w.ensures.told c.save_on-w.ensures.written))

pub returns : goal.returns
returns g c =
    let front = file_front c.requires.lawful (owned c.args.d _ c.well_formed.1.0.1.1) c.args.out.now c.requires.room c.save_on-w.ensures.told c.save_on-w.ensures.written in
    record { told = refl; file = c.write_block-o.ensures.sum ∙ ap (sum_of 0) front }
