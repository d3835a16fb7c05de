-- What is kept, merged.
use Rattle.std.proofs.Common.{refl}
use Rattle.sheet.specs.Edits.{meets_wire, meets_part, delete}
use Rattle.joints.specs.Tables.{sheet_of}
use Rattle.edits.proofs.Steps.{few_of, fits_of, removed_wires, removed_parts}
use Rattle.edits.proofs.delete.delete.Goals as goal

pub settled-wires-requires : goal.settled-wires-requires
settled-wires-requires c =
    (few_of c.keep_unhit-left.ensures c.in_use-3.ensures, (fits_of _ c.requires.0.fits.each (rw c.in_use-2.ensures at c.keep_unmet-parts.ensures) c.in_use-4.ensures, few_of c.keep_unmet-parts.ensures c.in_use-4.ensures))

pub returns : goal.returns
unfolding delete
returns c =
    let s = c.args in
    let f = meets_wire s.p s.size in
    let g = meets_part s.p s.size in
    let a = rw c.in_use.ensures at c.keep_unhit-left.ensures in
    let b = rw c.in_use-2.ensures at c.keep_unmet-parts.ensures in
    let m = rw (c.in_use-3.ensures, c.in_use-4.ensures) at c.settled-wires.ensures in
    c.answer.ensures _ (removed_wires f g (sheet_of s.ws s.cs) a b m) (removed_parts f g (sheet_of s.ws s.cs) a b m) refl refl
