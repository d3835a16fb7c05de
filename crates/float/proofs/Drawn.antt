-- A drawn coordinate is the exact sum, rounded once: the products by 0, 1 and -1 and their sum are exact. So it is close.
use mathlib.Core.Path.{◌≡◌, refl, sym, ap, ◌∙◌, subst}
use Prim.Native.Nat.{ℕ, suc, ◌+◌, ◌-◌, ◌*◌, ◌^◌, ◌≤◌, ◌<◌}
use native.Mathlib.Nat.{le_trans, le_of_eq, lt_of_le_of_lt, mul_assoc, mul_comm, mul-one, mul-le-mul_right}
use native.Mathlib.Omega.{arith}
use mathlib.Core.Bool.{Bool, not, ◌&&◌}
use lib.IntN.{ℤ, pos, negsuc, neg_ℤ, nat_abs, ◌+ℤ◌, ◌*ℤ◌, zero-*ℤ}
use lib.Dec.{T, ltb, ltb→lt, leb→le, lit≤, lit<}
use lib.Pow.{pow-add, pow_pos}
use lib.Ieee.{Float, nan, inf, fin, binary32, add, up, down, round, of_int}
use lib.Ieee.Exact.{round_exact}
use Rattle.lists.proofs.Tests.{both_l, both_r}
use Rattle.edge.proofs.Whole.{one_times, minus_times, row_plus_left, row_minus_left, row_plus_right, row_minus_right, size_neg}
use Rattle.orientation.specs.Rows.{Row, plus_x, minus_x, plus_y, minus_y}
use Rattle.float.specs.Drawn.{turned}
use Rattle.float.specs.Close.{unit, signed, scale, whole_units, tame, exact, sum_of, near, IsWhole, negative_zero, Close, ClosePosition}
use Rattle.float.proofs.Signed.{signed_size}
use Rattle.float.proofs.Rounded.{rounded, rounded_near, rounded_whole}
use Rattle.float.proofs.Sums.{Has, Held, add_has}
use Rattle.float.proofs.Products.{whole_is, mul_has, add_position}
use Rattle.float.proofs.Units.{units, units_add, units_row, size_units, sum_small}

-- a drawn coordinate: turned, then "+ the position"
abbrev pub drawn_of : ℤ → ℤ → Float → Float → ℤ → Float
drawn_of a b x y p = add binary32 (turned a b x y) (of_int binary32 p)

-- ---- the format holds Z units, of which there are at most 256

pub record Good (Z : ℤ) : Type 0 where
  pub held : Held Z
  pub small : nat_abs Z ≤ 256 * unit

good_zero : Good (pos 0)
unfolding round
good_zero = record { held = λ s. (refl, refl); small = lit≤ tt }

good_neg : (Z : ℤ) → Good Z → Good (neg_ℤ Z)
good_neg Z g = record {
  held = λ s. rw (size_neg Z) (g.held s);
  small = rw (size_neg Z) g.small;
}

-- m · 2 ^ j units, with m of 24 digits
good_at : (s : Bool) (m j : ℕ) → m < 2 ^ 24 → m * 2 ^ j ≤ 256 * unit → Good (signed s (m * 2 ^ j))
good_at s m j h l = record {
  held = λ t. rw (signed_size s (m * 2 ^ j))
      (round_exact binary32 t (m * 2 ^ j) unit m (j + 125) (pow_pos 24) h
      (lt_of_le_of_lt (le_trans (le_of_eq shift) (mul-le-mul_right (2 ^ 125) l)) (lit< tt))
      (sym (mul_assoc (m * 2 ^ j) (2 ^ 125) unit) ∙ ap (λ (x : ℕ). x * unit) (sym shift)));
  small = rw (signed_size s (m * 2 ^ j)) l;
}
  where
    shift : m * 2 ^ (j + 125) ≡ m * 2 ^ j * 2 ^ 125
    shift = ap (λ (x : ℕ). m * x) (pow-add 2 j 125) ∙ sym (mul_assoc m (2 ^ j) (2 ^ 125))

-- a number of a symbol
pub record Number (x : Float) : Type 0 where
  pub has : Has x (exact x)
  pub good : Good (exact x)

in_units : (m : ℕ) (e : ℤ) → T (whole_units e) → m * up e * unit ≡ m * 2 ^ scale e * down e
in_units m (pos k) h = mul_assoc m (2 ^ k) unit ∙ ap (λ (x : ℕ). m * x) (mul_comm (2 ^ k) unit ∙ sym (pow-add 2 24 k)) ∙ sym (mul-one (m * 2 ^ (24 + k)))
in_units m (negsuc k) h =
    ap (λ (x : ℕ). x * unit) (mul-one m)
    ∙ ap (λ (x : ℕ). m * x) (ap (λ (x : ℕ). 2 ^ x) (sym (split (ltb→lt k 24 h))) ∙ pow-add 2 (23 - k) (suc k))
    ∙ sym (mul_assoc m (2 ^ (23 - k)) (2 ^ suc k))
  where
    split : k < 24 → 23 - k + suc k ≡ 24
    split h = omega arith

pub number : (x : Float) → T (tame x) → Number x
unfolding tame exact
number nan h = absurd h
number (inf r) h = absurd h
number (fin r m e) h =
    let a = both_l (ltb m (2 ^ 24) && whole_units e) _ h in
    let w = both_r (ltb m (2 ^ 24)) (whole_units e) a in
    record {
      has = record { sign = r; size = m * 2 ^ scale e; value = (refl, in_units m e w); is = refl };
      good = good_at r m (scale e) (ltb→lt m (2 ^ 24) (both_l (ltb m (2 ^ 24)) (whole_units e) a))
          (leb→le (m * 2 ^ scale e) (256 * unit) (both_r (ltb m (2 ^ 24) && whole_units e) _ h));
    }

-- ---- a row: both products and their sum

pub record Products (a b X Y : ℤ) : Type 0 where
  pub a_small : nat_abs a ≤ 2 ^ 24
  pub b_small : nat_abs b ≤ 2 ^ 24
  pub left : Good (a *ℤ X)
  pub right : Good (b *ℤ Y)
  pub both : Good (a *ℤ X +ℤ b *ℤ Y)

products : {a b : ℤ} (X Y : ℤ) → Row a b → Good X → Good Y → Products a b X Y
products X Y plus_x g h = record { a_small = lit≤ tt; b_small = lit≤ tt; left = rw (one_times X) g; right = rw (zero-*ℤ Y) good_zero; both = rw (row_plus_left X Y) g }
products X Y minus_x g h = record { a_small = lit≤ tt; b_small = lit≤ tt; left = rw (minus_times X) (good_neg X g); right = rw (zero-*ℤ Y) good_zero; both = rw (row_minus_left X Y) (good_neg X g) }
products X Y plus_y g h = record { a_small = lit≤ tt; b_small = lit≤ tt; left = rw (zero-*ℤ X) good_zero; right = rw (one_times Y) h; both = rw (row_plus_right X Y) h }
products X Y minus_y g h = record { a_small = lit≤ tt; b_small = lit≤ tt; left = rw (zero-*ℤ X) good_zero; right = rw (minus_times Y) (good_neg Y h); both = rw (row_minus_right X Y) (good_neg Y h) }

-- ---- the law

module _ {a b : ℤ} (x y : Float) (p : ℤ) (r : Row a b) (hx : T (tame x)) (hy : T (tame y)) (hp : nat_abs p ≤ 6000) where
  X : Number x
  X = number x hx

  Y : Number y
  Y = number y hy

  P : Products a b (exact x) (exact y)
  P = products (exact x) (exact y) r X.good Y.good

  wide : nat_abs p ≤ 2 ^ 24
  wide = omega arith

  -- the exact sum, rounded once
  pub drawn_rounded : drawn_of a b x y p ≡ rounded (sum_of a b x y p)
  drawn_rounded = add_position p wide (add_has (mul_has a P.a_small X.has P.left.held) (mul_has b P.b_small Y.has P.right.held) P.both.held)

  below : nat_abs (sum_of a b x y p) < 2 ^ 37
  below = sum_small (a *ℤ exact x +ℤ b *ℤ exact y) p P.both.small hp

  -- "whole inputs give the whole number": the exact sum is below 2 ^ 13, so the format holds it
  drawn_whole : (m n : ℤ) → exact x ≡ units m → exact y ≡ units n → IsWhole (drawn_of a b x y p) (a *ℤ m +ℤ b *ℤ n +ℤ p)
  drawn_whole m n e f =
      let z = a *ℤ m +ℤ b *ℤ n +ℤ p in
      let u : sum_of a b x y p ≡ units z = (λ i. a *ℤ e i +ℤ b *ℤ f i +ℤ units p) ∙ (λ i. units_row m n r i +ℤ units p) ∙ units_add (a *ℤ m +ℤ b *ℤ n) p in
      let h : nat_abs (units z) < 2 ^ 37 = subst (λ (k : ℤ). nat_abs k < 2 ^ 37) u below in
      subst (λ (v : Float). IsWhole v z) (sym (drawn_rounded ∙ ap rounded u ∙ rounded_whole z)) (whole_is z (omega (arith, size_units z)))

  pub drawn_close : Close a b x y p (drawn_of a b x y p)
  drawn_close =
      let n = rounded_near (sum_of a b x y p) below in
      record {
        x_tame = hx;
        y_tame = hy;
        at_most = rw drawn_rounded n.0;
        whole = drawn_whole;
        no_negative_zero = rw drawn_rounded n.1;
      }

-- a coordinate that is a position alone: the whole number itself
pub whole_close : (z : ℤ) → nat_abs z ≤ 6000 → ClosePosition z (of_int binary32 z)
whole_close z h =
    let n = subst (λ (f : Float). T (near f (units z)) × T (not (negative_zero f))) (rounded_whole z) (rounded_near (units z) (omega (arith, size_units z))) in
    record { at_most = n.0; whole = whole_is z (omega arith); no_negative_zero = n.1 }
