-- A wire drawn over wires that are there changes nothing: of sheets it is proved, and the drawing of an unchanged sheet is the one received.
use mathlib.Core.Bool.{Bool}
use mathlib.Core.Path.{◌≡◌, refl, sym, ap, ◌∙◌}
use lib.IntN.{ℤ}
use Rattle.sheet.specs.declared.Drawing.{Drawing}
use Rattle.sheet.specs.declared.Tally.{Tally}
use Rattle.sheet.specs.Drawings.{Sheet, Sized, lists_of}
use Rattle.sheet.specs.Rules.{Lawful}
use Rattle.sheet.specs.LiesOn.{LiesOn}
use Rattle.sheet.proofs.Rules.{lawful_good}
use Rattle.sheet.proofs.Run.{row_lies}
use Rattle.sheet.proofs.Edits.{wire_traced}
use Rattle.asked.specs.Asked.{asked_wire}
use Rattle.asked.proofs.Within.{wire_drawable}
use Rattle.edits.specs.Making.{quiet}
use Rattle.redraw.specs.Calls.{still, edited, add_wire}
use Rattle.redraw.proofs.Asking.{wire_decides}
use Rattle.redraw.proofs.Idle.{still_is}
use Rattle.schematic.proofs.Checking.{lawful_passes}
use Rattle.promises.specs.ExistingWire.{ExistingWire}

module _ {d : Drawing} (z : Sized d) (l : Lawful d) (v : Bool) (a s e : ℤ) (t : Tally) where
  traced : (asked_wire v a s e).reply ≡ 0 → LiesOn (lists_of d).wires (asked_wire v a s e).wire → add_wire d v a s e t ≡ still d
  traced k o =
      sym ((wire_decides d v a s e t refl).makes k)
      ∙ ap (λ (x : Sheet). edited d t (quiet x)) (wire_traced (asked_wire v a s e).wire (lists_of d) (wire_drawable v a s e refl k) (lawful_good l) o)
      ∙ still_is l t z

pub existing_wire : ExistingWire
existing_wire = record {
  row = λ d l w m. row_lies (lawful_good l).wires m;
  wire_on = λ d z l v a s e t. traced z l v a s e t;
  wire = λ d z l v a s e t k o. sym (lawful_passes l t (add_wire d v a s e t)) ∙ traced z l v a s e t k o;
}
