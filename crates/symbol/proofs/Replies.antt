-- The answer by each of the replies to what is asked, as a choice by its tests, one in the other.
use Prim.Native.Nat.{ℕ, ◌≤◌}
use native.Mathlib.Omega.{arith}
use mathlib.Core.Bool.{Bool, true, false, ◌&&◌, cond}
use mathlib.Core.Path.{◌≡◌, refl, sym, subst, ◌∙◌}
use lib.Dec.{leb, eqb}
use lib.IntN.{ℤ, pos, negsuc}
use lib.Signed.{le_z}
use Rattle.std.specs.List.{list_all}
use Rattle.edge.specs.Coordinates.{ranged, size_is, no_size, size_of}
use Rattle.label.specs.declared.Label.{Label}
use Rattle.label.specs.Labels.{graphic, given, judged, held_label}
use Rattle.symbol.specs.Symbols.{known_symbol}
use Rattle.symbol.specs.Replies.{or_else, unless, granted, point_reply, wire_reply, pointer_reply, symbol_reply, component_reply}

-- ---- a size gets 3 or 0, a label 5 or 0

size_reply : (z : ℤ) → (size_of z).reply ≡ unless (eqb (size_of z).reply 0) 3
unfolding size_of
size_reply (negsuc n) = refl
size_reply (pos n) = go (leb n 1000)
  where
    go : (b : Bool) → (cond b (size_is n) no_size).reply ≡ unless (eqb (cond b (size_is n) no_size).reply 0) 3
    go true = refl
    go false = refl

label_reply : (l : Label) → (held_label l).reply ≡ unless (eqb (held_label l).reply 0) 5
unfolding held_label
label_reply l = go (leb l.length 16 && list_all graphic (given l))
  where
    go : (b : Bool) → (judged b (given l)).reply ≡ unless (eqb (judged b (given l)).reply 0) 5
    go true = refl
    go false = refl

pub three : (z : ℤ) → eqb (size_of z).reply 0 ≡ false → (size_of z).reply ≡ 3
three z e = size_reply z ∙ (λ i. unless (e i) 3)

pub five : (l : Label) → eqb (held_label l).reply 0 ≡ false → (held_label l).reply ≡ 5
five l e = label_reply l ∙ (λ i. unless (e i) 5)

-- ---- none of the replies to what is asked is above 5

first_small : (r s : ℕ) → r ≤ 5 → s ≤ 5 → or_else r s ≤ 5
first_small r s h k = go (eqb r 0)
  where
    go : (b : Bool) → cond b s r ≤ 5
    go true = k
    go false = h

test_small : (b : Bool) (n : ℕ) → n ≤ 5 → unless b n ≤ 5
test_small true n h = omega arith
test_small false n h = h

pub wire_small : (l s e : ℤ) → wire_reply l s e ≤ 5
unfolding wire_reply
wire_small l s e = first_small _ _ (test_small (ranged 6000 l && (ranged 6000 s && ranged 6000 e)) 1 (omega arith)) (test_small (le_z s e) 2 (omega arith))

pub pointer_small : (x y z : ℤ) → pointer_reply x y z ≤ 5
unfolding pointer_reply point_reply
pointer_small x y z =
    let size : (size_of z).reply ≤ 5 = subst (λ r. r ≤ 5) (sym (size_reply z)) (test_small (eqb (size_of z).reply 0) 3 (omega arith)) in
    first_small _ _ (test_small (ranged 6000 x && ranged 6000 y) 1 (omega arith)) size

pub component_small : (k n : ℕ) (x y : ℤ) (l : Label) → component_reply k n x y l ≤ 5
unfolding component_reply symbol_reply
component_small k n x y l =
    let label : (held_label l).reply ≤ 5 = subst (λ r. r ≤ 5) (sym (label_reply l)) (test_small (eqb (held_label l).reply 0) 5 (omega arith)) in
    first_small _ _ (first_small _ _ (test_small (known_symbol k n) 4 (omega arith)) (test_small (ranged 5800 x && ranged 5800 y) 1 (omega arith))) label

-- ---- the tests one in the other

-- by two tests
pub two_nested : {A : Type 0} (f : ℕ → A) (a : A) (b c : Bool) (m n : ℕ) → (eqb m 0 ≡ false) → (eqb n 0 ≡ false) → granted (or_else (unless b m) (unless c n)) f a ≡ cond b (cond c a (f n)) (f m)
two_nested f a true true m n p q = refl
two_nested f a true false m n p q = rw q
two_nested f a false c m n p q = rw (p, p)

module _ {A : Type 0} (f : ℕ → A) (a : A) where
  pub point_nested : (m : ℕ) (x y : ℤ) → granted (point_reply m x y) f a ≡ cond (ranged m x && ranged m y) a (f 1)
  unfolding point_reply
  point_nested m x y = go (ranged m x && ranged m y)
    where
      go : (b : Bool) → granted (unless b 1) f a ≡ cond b a (f 1)
      go true = refl
      go false = refl

  pub wire_nested : (l s e : ℤ) → granted (wire_reply l s e) f a ≡ cond (ranged 6000 l && (ranged 6000 s && ranged 6000 e)) (cond (le_z s e) a (f 2)) (f 1)
  unfolding wire_reply
  wire_nested l s e = two_nested f a (ranged 6000 l && (ranged 6000 s && ranged 6000 e)) (le_z s e) 1 2 refl refl

  pub pointer_nested : (x y n : ℤ) → granted (pointer_reply x y n) f a ≡ cond (ranged 6000 x && ranged 6000 y) (cond (eqb (size_of n).reply 0) a (f 3)) (f 1)
  unfolding pointer_reply point_reply
  pointer_nested x y n = (λ i. granted (or_else (unless (ranged 6000 x && ranged 6000 y) 1) (size_reply n i)) f a) ∙ two_nested f a (ranged 6000 x && ranged 6000 y) (eqb (size_of n).reply 0) 1 3 refl refl

  pub symbol_nested : (k n : ℕ) (x y : ℤ) → granted (symbol_reply k n x y) f a ≡ cond (known_symbol k n) (cond (ranged 5800 x && ranged 5800 y) a (f 1)) (f 4)
  unfolding symbol_reply
  symbol_nested k n x y = two_nested f a (known_symbol k n) (ranged 5800 x && ranged 5800 y) 4 1 refl refl

  pub component_nested : (k n : ℕ) (x y : ℤ) (l : Label) → granted (component_reply k n x y l) f a ≡ cond (known_symbol k n) (cond (ranged 5800 x && ranged 5800 y) (cond (eqb (held_label l).reply 0) a (f 5)) (f 1)) (f 4)
  unfolding component_reply symbol_reply
  component_nested k n x y l = (λ i. granted (or_else (or_else (unless (known_symbol k n) 4) (unless (ranged 5800 x && ranged 5800 y) 1)) (label_reply l i)) f a) ∙ go (known_symbol k n) (ranged 5800 x && ranged 5800 y) (eqb (held_label l).reply 0)
    where
      go : (b c d : Bool) → granted (or_else (or_else (unless b 4) (unless c 1)) (unless d 5)) f a ≡ cond b (cond c (cond d a (f 5)) (f 1)) (f 4)
      go true true true = refl
      go true true false = refl
      go true false d = refl
      go false c d = refl
