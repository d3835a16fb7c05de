-- A shape at its place in a table of the code, and in the list of the definition.
use mathlib.Core.Path.{◌≡◌, refl, sym, ap, ◌∙◌}
use Prim.Native.Nat.{ℕ, zero, suc, ◌<◌}
use native.Mathlib.Omega.{arith}
use mathlib.Core.Bool.{Bool}
use mathlib.Core.List.{List, [], ◌∷◌, ◌++◌}
use lib.ListN.{length}
use Rattle.std.specs.Prelude.{slice_get}
use Rattle.draw.specs.declared.Draw.{Draw}
use Rattle.draw.specs.Answers.{Answer, shape_is, no_shape, chosen, asked}
use Rattle.draw.specs.Symbols.{power_draws, contact_static, contact_draws, coil_static, coil_draws, draws_of}

-- "Power has 3, Contact 7, Coil 7"
pub count_is : (a b : Bool) → (length (draws_of 0 a b) ≡ 3) × ((length (draws_of 1 a b) ≡ 7) × (length (draws_of 2 a b) ≡ 7))
unfolding draws_of power_draws contact_static coil_static
count_is a b = (refl, (refl, refl))

-- what stands at a place of a list
pub at_place : (ds : List Draw) (i : ℕ) → chosen (slice_get ds i) ≡ asked i ds
unfolding asked
at_place [] i = refl
at_place (d ∷ ds) zero = refl
at_place (d ∷ ds) (suc i) = at_place ds i

-- and of one that has one more at its end
pub at_end : (ds : List Draw) (d : Draw) → shape_is d ≡ asked (length ds) (ds ++ (d ∷ []))
unfolding asked
at_end [] d = refl
at_end (x ∷ ds) d = at_end ds d

pub not_at_end : (ds : List Draw) (d : Draw) (i : ℕ) → (i ≡ length ds → ⊥) → chosen (slice_get ds i) ≡ asked i (ds ++ (d ∷ []))
unfolding asked
not_at_end [] d zero f = absurd (f refl)
not_at_end [] d (suc i) f = refl
not_at_end (x ∷ ds) d zero f = refl
not_at_end (x ∷ ds) d (suc i) f = not_at_end ds d i (λ e. f (ap suc e))

-- ---- the shapes of each kind
of_kind : {k n : ℕ} (i : ℕ) (a b : Bool) {r : Answer} → r ≡ asked i (draws_of n a b) → k ≡ n → r ≡ asked i (draws_of k a b)
of_kind i a b e f = e ∙ sym (ap (λ (m : ℕ). asked i (draws_of m a b)) f)

pub of_power : {k : ℕ} (i : ℕ) (a b : Bool) {r : Answer} → r ≡ asked i power_draws → k ≡ 0 → r ≡ asked i (draws_of k a b)
unfolding draws_of
of_power i a b e f = of_kind i a b e f

pub of_contact : {k : ℕ} (i : ℕ) (a b : Bool) {r : Answer} → r ≡ asked i (contact_draws a b) → k ≡ 1 → r ≡ asked i (draws_of k a b)
unfolding draws_of
of_contact i a b e f = of_kind i a b e f

pub of_coil : {k : ℕ} (i : ℕ) (a b : Bool) {r : Answer} → r ≡ asked i (coil_draws a) → k ≡ 2 → r ≡ asked i (draws_of k a b)
unfolding draws_of
of_coil i a b e f = of_kind i a b e f

pub of_none : (k i : ℕ) (a b : Bool) → 2 < k → no_shape ≡ asked i (draws_of k a b)
unfolding draws_of asked
of_none zero i a b h = absurd (let z : ⊥ = omega arith in z)
of_none (suc zero) i a b h = absurd (let z : ⊥ = omega arith in z)
of_none (suc (suc zero)) i a b h = absurd (let z : ⊥ = omega arith in z)
of_none (suc (suc (suc k))) i a b h = refl
