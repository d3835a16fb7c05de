-- What owning a drawing tells, as each function does that has one by value: its arrays have their declared lengths, labels too.
use mathlib.Core.Path.{◌≡◌}
use mathlib.Core.List.Memᴰ.{not-nil as ∈-nil}
use mathlib.Core.List.{List, [], ◌∷◌}
use lib.ListN.{length}
use mir.Val.{Val}
use denote.Array.{each}
use denote.Shadow.{shadow}
use denote.RattleType.{owns, Valss}
use denote.Struct.Declared.{shape}
use Rattle.lists.specs.Lists.{◌∈◌}
use Rattle.lists.proofs.Lists.{in_cons}
use Rattle.sheet.specs.declared.Component.{Component}
use Rattle.sheet.specs.declared.Drawing.{Drawing}
use Rattle.sheet.specs.Drawings.{Sized}
use Rattle.sheet.specs.contracts.Component as component
use Rattle.sheet.specs.contracts.Drawing as drawing

labels : (rows : List Component) (us : List Val) → shadow (each (component.the_row).Denot (component.the_row).own_val rows us) → (c : Component) → c ∈ rows → length c.label ≡ 16
labels [] us h c m = absurd (∈-nil m)
labels (r ∷ rows) [] h c m = absurd h
labels (r ∷ rows) (u ∷ us) h c m = in_cons (λ (b : Component). length b.label ≡ 16) h.0.1.1.1.1.1.1.0.1.0.1 (labels rows us h.1) m

pub owned : (d : Drawing) (us : Valss (shape drawing.the_type).fields) → shadow (owns (shape drawing.the_type).fields ((drawing.the_type).to d) us) → Sized d
owned d us g = record {
  wires = g.0.1.1.0.1.0.1;
  components = g.1.0.1.1.0.1.0.1;
  joints = g.1.1.0.1.1.0.1.0.1;
  labels = labels d.components.rows g.1.0.1.1.0.0 g.1.0.1.1.0.1.1;
}
