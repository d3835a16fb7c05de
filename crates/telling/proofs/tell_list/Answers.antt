-- `tell_list` meets its contract: refused; longer than the buffer; or the list, and its answer line behind it.
use mathlib.Core.Path.{refl, ap}
use native.Mathlib.Omega.{arith}
use Rattle.sheet.proofs.Owned.{owned}
use Rattle.listing.proofs.Lengths.{list_room}
use Rattle.telling.specs.Fitting.{told_with}
use Rattle.telling.proofs.Telling.{line_short, told_refused, told_eight, told_list, list_inside}
use Rattle.telling.proofs.tell_list.Goals as goal

pub returns-then-e-ne0 : goal.returns-then-e-ne0
returns-then-e-ne0 c = told_refused c.args.e c.args.out.now c.if-e-ne0.true refl

pub pad_numbers-numbers-requires : goal.pad_numbers-numbers-requires
pad_numbers-numbers-requires c = c.requires c.if-e-ne0.false

pub write_list_by-l-requires : goal.write_list_by-l-requires
write_list_by-l-requires c = record { lawful = c.requires c.if-e-ne0.false; numbered = c.pad_numbers-numbers.ensures }

pub returns-then-l-ne0 : goal.returns-then-l-ne0
returns-then-l-ne0 c =
    let r = list_room (c.requires c.if-e-ne0.false) (owned c.args.e.drawing _ c.well_formed.0.1.1.1.1.0.1.1) in
    told_eight c.args.e c.if-e-ne0.false c.args.out.now c.write_list_by-l.ensures.told c.write_list_by-l.ensures.written r c.if-l-ne0.true (ap (λ e. told_with e 0) c.refused.ensures)

pub count_loose-requires : goal.count_loose-requires
count_loose-requires c =
    record { lawful = c.requires c.if-e-ne0.false; numbered = c.pad_numbers-numbers.ensures }

pub slice_bounds-put_fitting-end : goal.slice_bounds-put_fitting-end
slice_bounds-put_fitting-end c = let p = c.put_numbered-n in (line_short p.ensures.0 p.ensures.1 refl).0

pub put_fitting-length-requires : goal.put_fitting-length-requires
put_fitting-length-requires c =
    let r = list_room (c.requires c.if-e-ne0.false) (owned c.args.e.drawing _ c.well_formed.0.1.1.1.1.0.1.1) in
    let inside = list_inside c.args.e c.if-e-ne0.false c.args.out.now c.write_list_by-l.ensures.told c.write_list_by-l.ensures.written r c.if-l-ne0.false in
    record { at_low = omega (arith, inside.0); at_within = omega (arith, inside.1); line_short = (line_short c.put_numbered-n.ensures.0 c.put_numbered-n.ensures.1 refl).1 }

pub returns : goal.returns
returns c =
    let r = list_room (c.requires c.if-e-ne0.false) (owned c.args.e.drawing _ c.well_formed.0.1.1.1.1.0.1.1) in
    told_list c.args.e c.if-e-ne0.false c.args.out.now c.write_list_by-l.ensures.told c.write_list_by-l.ensures.written r c.if-l-ne0.false
    c.count_loose.ensures c.put_numbered-n.ensures.0 c.put_numbered-n.ensures.1 refl c.put_fitting-length.ensures refl
