-- What `add` makes of two values in units: the exact sum, rounded once. It sees only the values. `Has x Z` says that x is finite and is Z units.
use mathlib.Core.Path.{◌≡◌, refl, sym, ap, ◌∙◌, subst}
use Prim.Native.Nat.{ℕ, ◌+◌, ◌-◌, ◌*◌, ◌≤◌, ◌<◌}
use native.Mathlib.Nat.{mul_comm, mul-sub, mul-pos, mul-lt-mul_of_pos_right, lt_of_mul-lt-mul_right}
use native.Mathlib.Omega.{arith}
use mathlib.Core.Bool.{Bool, true, false, not, cond, ◌&&◌, beq}
use lib.IntN.{ℤ, nat_abs, ◌+ℤ◌, +ℤ_comm}
use lib.Dec.{T, ltb, ltb→lt}
use lib.Pow.{pow_pos}
use lib.Ieee.{Float, nan, inf, fin, binary32, up, down, round, sum, add}
use lib.Ieee.Fits.{down_pos, and_r}
use lib.Ieee.Exact.{HasValue}
use lib.Ieee.Scale.{round_same}
use borrow.Author.Tests.{lt-ltb, le-ltb}
use Rattle.lists.proofs.Tests.{ltb_reads, same_test, reads_as, not_not}
use Rattle.edge.proofs.Whole.{by_order}
use Rattle.float.specs.Close.{unit, signed}
use Rattle.float.proofs.Signed.{signed_size, signed_add, signed_less}

pub record Has (x : Float) (Z : ℤ) : Type 0 where
  pub sign : Bool
  pub size : ℕ
  pub value : HasValue x sign size unit
  pub is : signed sign size ≡ Z

-- rounding leaves Z units alone, at either sign
abbrev pub Held : ℤ → Type 0
Held Z = (s : Bool) → HasValue (round binary32 s (nat_abs Z) unit) s (nat_abs Z) unit

-- what is rounded from Z units that the format holds has that value
pub held : {x : Float} {Z : ℤ} (s : Bool) (N : ℕ) → x ≡ round binary32 s N unit → signed s N ≡ Z → Held Z → Has x Z
held {x} {Z} s N e f h = record {
  sign = s;
  size = N;
  value = subst (λ (v : Float). HasValue v s N unit) (sym e) (subst (λ (n : ℕ). HasValue (round binary32 s n unit) s n unit) (ap nat_abs (sym f) ∙ signed_size s N) (h s));
  is = f;
}

-- ---- `add` sees only the values: a / c and b / c are A and B units

module _ (a b c A B : ℕ) (C : 0 < c) (p : a * unit ≡ A * c) (q : b * unit ≡ B * c) where
  lt_same : (a b A B : ℕ) → a * unit ≡ A * c → b * unit ≡ B * c → ltb a b ≡ ltb A B
  lt_same a b A B p q = same_test (reads_as (over, back) (ltb_reads a b)) (ltb_reads A B)
    where
      over : a < b → A < B
      over h = lt_of_mul-lt-mul_right c (omega arith)

      back : A < B → a < b
      back h = let k = mul-lt-mul_of_pos_right h C in omega arith

  sub_same : (a b A B : ℕ) → a * unit ≡ A * c → b * unit ≡ B * c → (a - b) * unit ≡ (A - B) * c
  sub_same a b A B p q = right a b unit ∙ (λ i. p i - q i) ∙ sym (right A B c)
    where
      right : (x y k : ℕ) → (x - y) * k ≡ x * k - y * k
      right x y k = mul_comm (x - y) k ∙ mul-sub k x y ∙ (λ i. mul_comm k x i - mul_comm k y i)

  pub sum_same : (s t : Bool) → sum binary32 s a t b c ≡ sum binary32 s A t B unit
  unfolding sum
  sum_same s t = λ i. cond (beq s t) (plus i) (cond (lt_same a b A B p q i) (less i) (more i))
    where
      plus : round binary32 s (a + b) c ≡ round binary32 s (A + B) unit
      plus = round_same binary32 s (a + b) c (A + B) unit C (pow_pos 24) (omega arith)

      less : round binary32 t (b - a) c ≡ round binary32 t (B - A) unit
      less = round_same binary32 t (b - a) c (B - A) unit C (pow_pos 24) (sub_same b a B A q p)

      more : round binary32 (s && ltb b a) (a - b) c ≡ round binary32 (s && ltb B A) (A - B) unit
      more = (λ i. round binary32 (s && lt_same b a B A q p i) (a - b) c) ∙ round_same binary32 (s && ltb B A) (a - b) c (A - B) unit C (pow_pos 24) (sub_same a b A B p q)

pub add_value : (x y : Float) (s t : Bool) (A B : ℕ) → HasValue x s A unit → HasValue y t B unit → add binary32 x y ≡ sum binary32 s A t B unit
unfolding add
add_value nan y s t A B p q = absurd p
add_value (inf r) y s t A B p q = absurd p
add_value (fin r m e) nan s t A B p q = absurd q
add_value (fin r m e) (inf r') s t A B p q = absurd q
add_value (fin r m e) (fin r' n d) s t A B p q =
    (λ i. sum binary32 (p.0 i) (m * up e * down d) (q.0 i) (n * up d * down e) (down e * down d))
    ∙ sum_same (m * up e * down d) (n * up d * down e) (down e * down d) A B (mul-pos (down_pos e) (down_pos d))
    (cross (m * up e) (down d) (down e) A p.1) (cross (n * up d) (down e) (down d) B q.1 ∙ ap (λ (z : ℕ). B * z) (mul_comm (down d) (down e))) s t
  where
    cross : (x d e A : ℕ) → x * unit ≡ A * e → x * d * unit ≡ A * (e * d)
    cross x d e A h = omega (arith, ap (λ (z : ℕ). z * d) h)

-- ---- the exact sum. It is -0 only where the second is -0

pub record Sum (s : Bool) (A : ℕ) (t : Bool) (B : ℕ) : Type 0 where
  pub sign : Bool
  pub size : ℕ
  pub rounds : sum binary32 s A t B unit ≡ round binary32 sign size unit
  pub is : signed sign size ≡ signed s A +ℤ signed t B
  pub plain : (T t → 0 < B) → T sign → 0 < size

like : (s : Bool) (A B : ℕ) → Sum s A s B
unfolding sum
like s A B = record { sign = s; size = A + B; rounds = simp (same s); is = signed_add s A B; plain = λ h t. let k = h t in omega arith }
  where
    same : (s : Bool) → beq s s ≡ true
    same false = refl
    same true = refl

opposed : (s : Bool) (A B : ℕ) → Sum s A (not s) B
unfolding sum
opposed s A B = by_order (Sum s A (not s) B) A B
    (λ h. record {
      sign = not s;
      size = B - A;
      rounds = simp (other s, lt-ltb A B h);
      is = signed_less (not s) B A (omega arith) ∙ (λ i. signed (not s) B +ℤ signed (not_not s i) A) ∙ +ℤ_comm (signed (not s) B) (signed s A);
      plain = λ k t. omega arith;
    })
    (λ h. record {
      sign = s && ltb B A;
      size = A - B;
      rounds = simp (other s, le-ltb A B h);
      is = level s h ∙ signed_less s A B h;
      plain = λ k t. let l = ltb→lt B A (and_r s (ltb B A) t) in omega arith;
    })
  where
    other : (s : Bool) → beq s (not s) ≡ false
    other false = refl
    other true = refl

    none : A ≤ B → A - B ≡ 0
    none l = omega arith

    -- 0 has one value, whatever its sign
    level : (s : Bool) → B ≤ A → signed (s && ltb B A) (A - B) ≡ signed s (A - B)
    level false h = refl
    level true h = by_order (signed (ltb B A) (A - B) ≡ signed true (A - B)) B A
        (λ l. ap (λ (b : Bool). signed b (A - B)) (lt-ltb B A l))
        (λ l. (λ i. signed (le-ltb B A l i) (none l i)) ∙ (λ i. signed true (sym (none l) i)))

pub sum_is : (s t : Bool) (A B : ℕ) → Sum s A t B
sum_is false false A B = like false A B
sum_is false true A B = opposed false A B
sum_is true false A B = opposed true A B
sum_is true true A B = like true A B

-- a sum that the format holds is exact
pub add_has : {x y : Float} {X Y : ℤ} → Has x X → Has y Y → Held (X +ℤ Y) → Has (add binary32 x y) (X +ℤ Y)
add_has {x} {y} h k f =
    let S = sum_is h.sign k.sign h.size k.size in
    held S.sign S.size (add_value x y h.sign k.sign h.size k.size h.value k.value ∙ S.rounds) (S.is ∙ (λ i. h.is i +ℤ k.is i)) f
