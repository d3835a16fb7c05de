-- A lawful drawing's tables can be edited, and each edit keeps its sheet good.
use Prim.Native.Nat.{ℕ, ◌≤◌, ◌<◌}
use native.Mathlib.Omega.{arith}
use mathlib.Core.Bool.{true, false}
use mathlib.Core.Path.{◌≡◌, sym, subst, ◌∙◌}
use borrow.Author.Tests.{ltb-true}
use lib.Dec.{T, ltb}
use Rattle.std.specs.List.{list_any}
use Rattle.lists.specs.First.{first_row}
use Rattle.lists.proofs.First.{first_below}
use Rattle.lists.proofs.Tests.{passes}
use Rattle.lists.proofs.Tables.{blank_holds}
use Rattle.symbol.specs.declared.Point.{Point}
use Rattle.sheet.specs.declared.Component.{Component}
use Rattle.sheet.specs.declared.Drawing.{Drawing}
use Rattle.sheet.specs.Parts.{PartFits, touches}
use Rattle.sheet.specs.Drawings.{Sheet, Sized, lists_of}
use Rattle.sheet.proofs.Wiring.{Good}
use Rattle.sheet.specs.Rules.{Lawful}
use Rattle.sheet.specs.Edits.{place_one}
use Rattle.sheet.proofs.Edits.{touched_reads, place_good, delete_good}
use Rattle.sheet.proofs.Turn.{turn_right_good, mirror_good}
use Rattle.joints.specs.Tables.{Sound}
use Rattle.asked.specs.Asked.{AskedPointer}
use Rattle.asked.proofs.Within.{Near}
use Rattle.edits.specs.Making.{Pointed}
use Rattle.redraw.specs.declared.pointer.Act.{Act}
use Rattle.redraw.specs.declared.pointer.Act.TheVariants.{Delete, TurnRight, Mirror}
use Rattle.redraw.specs.Acts.{acted}

pub lawful_sound : {d : Drawing} → Lawful d → Sized d → Sound d.wires d.components
lawful_sound l z = record {
  wires = blank_holds z.wires l.rule1.wire_room l.rule1.wires_blank;
  parts = blank_holds z.components l.rule1.component_room l.rule1.components_blank;
  fits = record { room = l.rule1.component_room; each = l.rule1.components_fit };
}

-- the first row that touches c tells whether one does
module _ {d : Drawing} (l : Lawful d) (z : Sized d) (c : Component) {row : ℕ} (q : row ≡ first_row (touches c) (lists_of d).parts) where
  within : ltb row d.components.count ≡ list_any (touches c) (lists_of d).parts
  within = first_below (touches c) d.components.rows d.components.count q (omega (arith, z.components, l.rule1.component_room))

  pub touched_low : list_any (touches c) (lists_of d).parts ≡ true → row < d.components.count
  touched_low t = ltb-true row d.components.count (within ∙ t)

pub placed_good : (c : Component) (s : Sheet) → PartFits c → Good s → list_any (touches c) s.parts ≡ false → Good (place_one c s)
placed_good c s f g e = place_good c s f g (λ b m t. subst T e (passes (touched_reads c s.parts) (b, m, t)))

pub acted_good : (a : Act) (p : Point) (n : ℕ) (s : Sheet) → Good s → Good (acted a p n s).sheet
acted_good Delete p n s g = delete_good p n s g
acted_good TurnRight p n s g = turn_right_good p n s g
acted_good Mirror p n s g = mirror_good p n s g

pub near_pointed : {a : AskedPointer} → Near a → Pointed a.point a.size
near_pointed n = record { x = n.x; y = n.y; size = n.size }
