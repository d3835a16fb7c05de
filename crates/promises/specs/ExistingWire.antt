-- "Users trace an existing wire to be sure of it" (document 02, P14). Beyond what P14 asks to be proved: a wire drawn over wires that are
-- there, whatever was drawn since, changes nothing, if neither of its ends lies on a bare crossing.
use Rattle.std.specs.Prelude.{◌≡◌, Bool, ℤ}
use Rattle.lists.specs.Lists.{◌∈◌}
use Rattle.sheet.specs.declared.Wire.{Wire}
use Rattle.sheet.specs.declared.Drawing.{Drawing}
use Rattle.sheet.specs.declared.Tally.{Tally}
use Rattle.sheet.specs.Drawings.{Sized, lists_of}
use Rattle.sheet.specs.Rules.{Lawful}
use Rattle.sheet.specs.LiesOn.{LiesOn}
use Rattle.asked.specs.Asked.{asked_wire}
use Rattle.redraw.specs.Calls.{still, add_wire}
use Rattle.schematic.specs.Calls.{checked}
use Rattle.promises.specs.Request14.{WireCall}

-- the wire asked for, its coordinates in range and in order, lies on wires of the drawing: the call replies 0 and gives the drawing as it
-- was, with its tally
abbrev pub Traced : WireCall → Type 0
Traced call =
    (d : Drawing) → Sized d → Lawful d → (vertical : Bool) (line start end : ℤ) (t : Tally)
    → let asked = asked_wire vertical line start end in
    asked.reply ≡ 0 → LiesOn (lists_of d).wires asked.wire → call d vertical line start end t ≡ still d

-- each wire of a lawful drawing is such a wire; and this holds of the call below the check and of the public one
pub record ExistingWire : Type 0 where
  pub row : (d : Drawing) → Lawful d → (w : Wire) → w ∈ (lists_of d).wires → LiesOn (lists_of d).wires w
  pub wire_on : Traced add_wire
  pub wire : Traced (λ d vertical line start end t. checked d t (add_wire d vertical line start end t))
