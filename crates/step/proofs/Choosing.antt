-- A component's KIND and ORIENT, as the machine reads them.
use mathlib.Core.Path.{◌≡◌, refl, ap, ◌∙◌}
use mathlib.Core.List.{List}
use Prim.Native.Nat.{ℕ, ◌-◌}
use native.Mathlib.Omega.{arith}
use lib.IntN.{ℤ}
use lib.ListN.{length, take, drop, length-drop}
use lib.Seq.{take_all}
use mir.Syntax.{w32}
use mir.Val.{SFits}
use mir.Facts.{to_z-of_z}
use Rattle.asked.proofs.Handed.{bits}
use Rattle.label.specs.declared.Label.{Label}
use Rattle.label.specs.Labels.{label_of}
use Rattle.sheet.specs.declared.Drawing.{Drawing}
use Rattle.redraw.specs.Calls.{add_component}
use Rattle.sheet.specs.declared.Tally.{Tally}
use Rattle.step.specs.Steps.{choice_of}

-- a component asked for by what was chosen is the one that the line's numbers ask for
pub placed_is : (d : Drawing) {k n : ℕ} {b : Label} (kind orient x y : ℤ) (label : List ℕ) (t : Tally)
    → SFits w32 kind → SFits w32 orient → SFits w32 x → SFits w32 y
    → k ≡ choice_of (bits kind) → n ≡ choice_of (bits orient) → b ≡ label_of label
    → add_component d k n (bits x) (bits y) b t ≡ add_component d (choice_of kind) (choice_of orient) x y (label_of label) t
placed_is d {k} {n} {b} kind orient x y label t fk fo fx fy ek en eb =
    let chosen : k ≡ choice_of kind = ek ∙ ap choice_of (to_z-of_z {w = w32} {z = kind} fk) in
    let turned : n ≡ choice_of orient = en ∙ ap choice_of (to_z-of_z {w = w32} {z = orient} fo) in
    λ i. add_component d (chosen i) (turned i) (to_z-of_z {w = w32} {z = x} fx i) (to_z-of_z {w = w32} {z = y} fy i) (eb i) t

-- the same of a line whose label begins at `at`
pub line_placed : (d : Drawing) (kind orient x y : ℤ) (at : ℕ) (line : List ℕ) (t : Tally)
    → SFits w32 kind → SFits w32 orient → SFits w32 x → SFits w32 y
    → add_component d (choice_of (bits kind)) (choice_of (bits orient)) (bits x) (bits y) (label_of (take (length line - at) (drop at line))) t
    ≡ add_component d (choice_of kind) (choice_of orient) x y (label_of (drop at line)) t
line_placed d kind orient x y at line t fk fo fx fy =
    let rest : take (length line - at) (drop at line) ≡ drop at line = take_all (length line - at) (drop at line) (omega (arith, length-drop at line)) in
    placed_is d kind orient x y (drop at line) t fk fo fx fy refl refl (ap label_of rest)
