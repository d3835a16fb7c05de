-- There and back: a lawful drawing is the number of its translation, and a lawful one under the four numbers the translation of its number.
use mathlib.Core.Path.{◌≡◌, refl, sym, ap, ◌∙◌}
use lib.ListN.{drop}
use Rattle.lists.specs.Lists.{◌∈◌}
use Rattle.lists.proofs.Mapped.{parted_back}
use Rattle.orientation.proofs.Turns.{number_eighth, eighth_number}
use Rattle.sheet.specs.declared.Drawing.{Drawing}
use Rattle.sheet.specs.Rules.{Lawful}
use Rattle.four.specs.Four
use Rattle.four.specs.Request1.{four, behind, number, number_behind, OneToOne, four_drawing, number_drawing}

forth : (d : Drawing) → Lawful d → number_drawing (four_drawing d) ≡ d
forth d l =
    let t = d.components in
    let rows = parted_back four behind number number_behind t.count t.rows
    (λ c m. λ i. record { kind = c.kind; orientation = number_eighth c.orientation (l.rule1.components_fit c m).orientation i; x = c.x; y = c.y; label = c.label }) (λ c m. refl)
    in
    λ i. record { wires = d.wires; components = record { rows = rows i; count = t.count }; joints = d.joints }

back : (d : Four.Drawing) → Four.Lawful d → four_drawing (number_drawing d) ≡ d
back d l =
    let t = d.components in
    let zero : (p : Four.Part) → p ∈ drop t.count t.rows → behind (number_behind p) ≡ p = λ p m. let z = l.rule1.components_blank p m in ap (λ (p : Four.Part). behind (number_behind p)) z ∙ sym z in
    let rows = parted_back number number_behind four behind t.count t.rows
    (λ p m. λ i. record { kind = p.kind; turn = (eighth_number p.turn (l.rule1.components_fit p m).orientation).1 i; x = p.x; y = p.y; label = p.label }) zero
    in
    λ i. record { wires = d.wires; components = record { rows = rows i; count = t.count }; joints = d.joints }

pub one_to_one : OneToOne
one_to_one = record { forth = forth; back = back }
