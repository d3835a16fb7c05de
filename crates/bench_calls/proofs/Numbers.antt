-- An edit by its number is the edit of that number, and reply 0 gives a lawful drawing.
use Prim.Native.Nat.{ℕ, ◌≤◌, ◌<◌, ◌/◌, ◌%◌, ◌-◌}
use mathlib.Core.Bool.{true, false}
use mathlib.Core.Path.{◌≡◌, refl}
use borrow.Author.Tests.{lt-ltb, le-ltb, ne_eqb}
use lib.IntN.{ℤ}
use Rattle.lists.proofs.Tests.{choose, eqb_reads, ltb_reads}
use Rattle.label.specs.declared.Label.{Label}
use Rattle.sheet.specs.declared.Drawing.{Drawing}
use Rattle.sheet.specs.declared.Tally.{Tally}
use Rattle.sheet.specs.Rules.{Lawful}
use Rattle.redraw.specs.Calls.{add_wire, add_component, delete_at, rotate_at, mirror_at}
use Rattle.redraw.proofs.Laws.{Accepted, wire_accepted, component_accepted, delete_accepted, rotate_accepted, mirror_accepted}
use Rattle.bench_calls.specs.Numbered.{label, place_by, edit_of}

module _ (what : ℕ) (x y : ℤ) (d : Drawing) (t : Tally) where
  pub placed : {l : Label} → l ≡ label → add_component d (what / 8 - 1) (what % 8) x y l t ≡ place_by what x y d t
  unfolding place_by
  placed q = λ i. add_component d (what / 8 - 1) (what % 8) x y (q i) t

  module _ (z : ℤ) where
    pub is_place : 8 ≤ what → place_by what x y d t ≡ edit_of what x y z d t
    unfolding edit_of
    is_place h = rw (le-ltb what 8 h) refl

    pub is_across : what ≡ 0 → add_wire d false x y z t ≡ edit_of what x y z d t
    unfolding edit_of
    is_across e = rw e refl

    pub is_upright : what ≡ 1 → add_wire d true x y z t ≡ edit_of what x y z d t
    unfolding edit_of
    is_upright e = rw e refl

    pub is_delete : what ≡ 2 → delete_at d x y z t ≡ edit_of what x y z d t
    unfolding edit_of
    is_delete e = rw e refl

    pub is_turn : what ≡ 3 → rotate_at d x y z t ≡ edit_of what x y z d t
    unfolding edit_of
    is_turn e = rw e refl

    pub is_mirror : what < 8 → (what ≡ 0 → ⊥) → (what ≡ 1 → ⊥) → (what ≡ 2 → ⊥) → (what ≡ 3 → ⊥) → mirror_at d x y z t ≡ edit_of what x y z d t
    unfolding edit_of
    is_mirror h a b e f = rw (lt-ltb what 8 h, ne_eqb what 0 a, ne_eqb what 1 b, ne_eqb what 2 e, ne_eqb what 3 f) refl

pub edit_accepted : (what : ℕ) (x y z : ℤ) {d : Drawing} → Lawful d → (t : Tally) → Accepted (edit_of what x y z d t)
unfolding edit_of place_by
edit_accepted what x y z l t =
    choose (ltb_reads what 8) Accepted
    (λ _. choose (eqb_reads what 0) Accepted (λ _. wire_accepted l t false x y z)
    (λ _. choose (eqb_reads what 1) Accepted (λ _. wire_accepted l t true x y z)
    (λ _. choose (eqb_reads what 2) Accepted (λ _. delete_accepted l t x y z)
    (λ _. choose (eqb_reads what 3) Accepted (λ _. rotate_accepted l t x y z) (λ _. mirror_accepted l t x y z)))))
    (λ _. component_accepted l t (what / 8 - 1) (what % 8) x y label)
