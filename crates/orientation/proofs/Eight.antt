-- One of the eight: what holds of each of the eight, and of each number below 8.
use mathlib.Core.Path.{◌≡◌, sym, ap, subst}
use Prim.Native.Nat.{ℕ, zero, suc, ◌<◌}
use native.Mathlib.Nat.{eq-or-lt_of_le, le_of_suc-le-suc}
use native.Mathlib.Omega.{arith}
use mathlib.Core.Bool.{Bool}
use mathlib.Core.List.Memᴰ.{head as ∈-head}
use mathlib.Core.List.Memᴰ.{tail as ∈-tail}
use mathlib.Core.List.{List, [], ◌∷◌}
use mathlib.Core.Logic.{⊎_elim}
use lib.Dec.{T, eqb→eq, eqb_refl}
use lib.IntN.{ℤ, pos, negsuc}
use Rattle.lists.specs.Lists.{◌∈◌}
use Rattle.std.specs.List.{list_all}
use Rattle.lists.proofs.Tests.{Reads, reads, reads_as, and_reads, test, holds}
use Rattle.lists.proofs.Lists.{any_reads, all_reads}
use Rattle.orientation.specs.Orientations.{eq_z, rot_mirror, eight, same_of, known}
use Rattle.orientation.specs.Rows.{Row, plus_x, minus_x, plus_y, minus_y}
use Rattle.orientation.specs.declared.RotMirror.{RotMirror}

-- ---- P holds of each of a list
abbrev pub Each : {A : Type 0} → (A → Type 0) → List A → Type 0
Each P [] = Unit {0}
Each P (p ∷ ps) = P p × Each P ps

each : {A : Type 0} (P : A → Type 0) {x : A} {xs : List A} → x ∈ xs → Each P xs → P x
each P (∈-head e) h = subst P (sym e) h.0
each P (∈-tail m) h = each P m h.1

-- ---- the numbers below 8
abbrev pub up_to : ℕ → List ℕ
up_to zero = []
up_to (suc n) = n ∷ up_to n

in_up_to : {k : ℕ} (n : ℕ) → k < n → k ∈ up_to n
in_up_to zero h = absurd (let z : ⊥ = omega arith in z)
in_up_to {k} (suc n) h = ⊎_elim (λ (e : k ≡ n). ∈-head e) (λ (l : k < n). ∈-tail (in_up_to n l)) (eq-or-lt_of_le (le_of_suc-le-suc h))

-- what holds of 7, 6, .. 0 holds of each number below 8
pub below_8 : (P : ℕ → Type 0) → Each P (up_to 8) → (n : ℕ) → n < 8 → P n
below_8 P h n l = each P (in_up_to 8 l) h

-- and a test that they pass
pub test_8 : (f : ℕ → Bool) → T (list_all f (up_to 8)) → (n : ℕ) → n < 8 → T (f n)
test_8 f h n l = holds (all_reads (λ n. test (f n)) (up_to 8)) h n (in_up_to 8 l)

-- ---- the same four numbers
eq_z_reads : (z y : ℤ) → Reads (z ≡ y) (eq_z z y)
eq_z_reads z y = reads (eq_z z y) (into z y) (λ e. subst (λ w. T (eq_z z w)) e (self z))
  where
    into : (z y : ℤ) → T (eq_z z y) → z ≡ y
    into (pos m) (pos n) t = ap pos (eqb→eq m n t)
    into (pos m) (negsuc n) t = absurd t
    into (negsuc m) (pos n) t = absurd t
    into (negsuc m) (negsuc n) t = ap negsuc (eqb→eq m n t)

    self : (z : ℤ) → T (eq_z z z)
    self (pos n) = eqb_refl n
    self (negsuc n) = eqb_refl n

same_reads : (o p : RotMirror) → Reads (o ≡ p) (same_of o p)
unfolding same_of
same_reads o p = reads_as (
  λ t. λ i. rot_mirror (t.0 i) (t.1.0 i) (t.1.1.0 i) (t.1.1.1 i),
  λ e. (ap (λ (q : RotMirror). q.0) e, (ap (λ (q : RotMirror). q.1) e, (ap (λ (q : RotMirror). q.2) e, ap (λ (q : RotMirror). q.3) e))),
)
    (and_reads (eq_z_reads o.0 p.0) (and_reads (eq_z_reads o.1 p.1) (and_reads (eq_z_reads o.2 p.2) (eq_z_reads o.3 p.3))))

-- ---- what holds of the eight holds of each orientation that is one of them
known_in : (o : RotMirror) → T (known o) → o ∈ eight
known_in o t = let f = holds (any_reads (same_reads o) eight) t in subst (λ p. p ∈ eight) (sym f.2) f.1

pub of_eight : (P : RotMirror → Type 0) → Each P eight → (o : RotMirror) → T (known o) → P o
of_eight P h o t = each P (known_in o t) h

-- ---- the rows of the eight
abbrev pub Rows : RotMirror → Type 0
Rows o = Row o.0 o.1 × Row o.2 o.3

pub known_rows : (o : RotMirror) → T (known o) → Rows o
known_rows = of_eight Rows ((plus_x, plus_y), ((minus_y, plus_x), ((minus_x, minus_y), ((plus_y, minus_x), ((minus_x, plus_y), ((minus_y, minus_x), ((plus_x, minus_y), ((plus_y, plus_x), tt))))))))
