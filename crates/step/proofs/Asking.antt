-- The edit that a command asks for, on a lawful drawing: what the code makes of its numbers, which it hands on as bits.
use mathlib.Core.Path.{◌≡◌, refl, sym, ap, ◌∙◌}
use mathlib.Core.Bool.{true, false}
use mathlib.Core.List.{List}
use Prim.Native.Nat.{ℕ, ◌-◌, ◌<◌, ◌^◌}
use lib.IntN.{ℤ}
use lib.ListN.{length, take, drop}
use lib.Signed.{mag}
use Rattle.asked.proofs.Handed.{bits, handed_three}
use Rattle.label.specs.Labels.{label_of}
use Rattle.sheet.specs.declared.Drawing.{Drawing}
use Rattle.sheet.specs.declared.Tally.{Tally}
use Rattle.sheet.specs.Rules.{Lawful}
use Rattle.redraw.specs.declared.Edited.{Edited}
use Rattle.redraw.specs.Calls.{add_wire, add_component, delete_at, rotate_at, mirror_at}
use Rattle.schematic.specs.Calls.{checked}
use Rattle.schematic.proofs.Checking.{lawful_passes}
use Rattle.script.specs.Commands.{Command, Horizontal, Vertical, Place, Delete, Turn, Mirror, Nets}
use Rattle.script.specs.Reading.{command_of}
use Rattle.step.specs.Steps.{choice_of, edit_of, unedited, step_of}
use Rattle.telling.specs.Told.{told}
use Rattle.step.proofs.Choosing.{line_placed}

-- what each command of three numbers asks of a drawing
pub data Three (d : Drawing) (t : Tally) : (ℤ → ℤ → ℤ → Command) → (ℤ → ℤ → ℤ → Edited) → Type 0 where
  horizontal : Three d t Horizontal (λ y x1 x2. add_wire d false y x1 x2 t)
  vertical : Three d t Vertical (λ x y1 y2. add_wire d true x y1 y2 t)
  delete : Three d t Delete (λ x y size. delete_at d x y size t)
  turn : Three d t Turn (λ x y size. rotate_at d x y size t)
  mirror : Three d t Mirror (λ x y size. mirror_at d x y size t)

edit_three : {d : Drawing} {t : Tally} {k : ℤ → ℤ → ℤ → Command} {f : ℤ → ℤ → ℤ → Edited} → Three d t k f
    → (line : List ℕ) (x y z : ℤ) → checked d t (f x y z) ≡ edit_of d t line (k x y z)
unfolding edit_of
edit_three horizontal line x y z = refl
edit_three vertical line x y z = refl
edit_three delete line x y z = refl
edit_three turn line x y z = refl
edit_three mirror line x y z = refl

module _ {d : Drawing} (l : Lawful d) (t : Tally) (line : List ℕ) {command : Command} {e : Edited} where
  pub by_three : {k : ℤ → ℤ → ℤ → Command} {f : ℤ → ℤ → ℤ → Edited} → Three d t k f → (x y z : ℤ) → command ≡ k x y z → mag x < 2 ^ 31 → mag y < 2 ^ 31 → mag z < 2 ^ 31
      → e ≡ f (bits x) (bits y) (bits z) → e ≡ edit_of d t line command
  by_three {k} {f} three x y z is-k fx fy fz is_f =
      is_f ∙ handed_three f x y z (record { sfits = fx }) (record { sfits = fy }) (record { sfits = fz })
      ∙ lawful_passes l t (f x y z) ∙ edit_three three line x y z ∙ ap (edit_of d t line) (sym is-k)

  pub by_place : (kind orient x y : ℤ) (at : ℕ) → command ≡ Place kind orient x y at → mag kind < 2 ^ 31 → mag orient < 2 ^ 31 → mag x < 2 ^ 31 → mag y < 2 ^ 31
      → e ≡ add_component d (choice_of (bits kind)) (choice_of (bits orient)) (bits x) (bits y) (label_of (take (length line - at) (drop at line))) t → e ≡ edit_of d t line command
  unfolding edit_of
  by_place kind orient x y at is-k fk fo fx fy is-e =
      is-e ∙ line_placed d kind orient x y at line t (record { sfits = fk }) (record { sfits = fo }) (record { sfits = fx }) (record { sfits = fy })
      ∙ lawful_passes l t (add_component d (choice_of kind) (choice_of orient) x y (label_of (drop at line)) t) ∙ ap (edit_of d t line) (sym is-k)

  pub by_nets : command ≡ Nets → e ≡ unedited d t → e ≡ edit_of d t line command
  unfolding edit_of
  by_nets is-k is-e = is-e ∙ lawful_passes l t (unedited d t) ∙ ap (edit_of d t line) (sym is-k)

-- what is told of a line's command and of the edit that came of it is the line's step
pub stepped : (d : Drawing) (t : Tally) (line : List ℕ) {k : Command} {e : Edited} → k ≡ command_of line → e ≡ edit_of d t line k → told k e ≡ step_of d t line
unfolding step_of
stepped d t line {k} {e} is-k is-e = ap (told k) is-e ∙ ap (λ k. told k (edit_of d t line k)) is-k
