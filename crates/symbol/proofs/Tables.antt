-- The code's tables are the document's: each of the three kinds has its pads and its box, 200 more in each number, and the map takes 200 off.
use mathlib.Core.Path.{◌≡◌, refl, sym, ap, ◌∙◌}
use Prim.Native.Nat.{ℕ, zero, suc, ◌+◌, ◌%◌, ◌≤◌, ◌<◌}
use native.Mathlib.Omega.{arith}
use native.Mathlib.Nat.{le_of_suc-le-suc}
use native.Mathlib.Numerals.{add-one}
use mathlib.Core.List.{List, [], ◌∷◌, ◌++◌}
use lib.Dec.{T, leb, leb→le}
use lib.ListN.{length, get_or, set, take, drop}
use Rattle.orientation.specs.Orientations.{eighth}
use Rattle.orientation.specs.declared.RotMirror.{RotMirror}
use Rattle.orientation.proofs.Eight.{below_8}
use Rattle.symbol.specs.Symbols.{moved_of, unused, pad_block, bounds_at, Positioned, Placeable}
use Rattle.symbol.specs.Steps.{offset_of, map_first, reaching_of, Near, Mapping, Reaching}
use Rattle.symbol.specs.declared.Point.{Point}
use Rattle.symbol.specs.declared.PadBlock.{PadBlock}
use Rattle.symbol.specs.declared.Bounds.{Bounds}
use Rattle.symbol.proofs.Boxes.{reached, box_reaches}

abbrev at : ℕ → ℕ → Point
at x y = record { x = x; y = y }

abbrev pad_table : List PadBlock
pad_table =
    record { points = at 200 200 ∷ unused ∷ unused ∷ []; count = 1 }
    ∷ record { points = at 200 100 ∷ at 150 300 ∷ at 250 300 ∷ []; count = 3 }
    ∷ record { points = at 200 100 ∷ unused ∷ unused ∷ []; count = 1 }
    ∷ []

abbrev pub stored_pads : ℕ → PadBlock
stored_pads k = get_or pad_table k (record { points = []; count = 0 })

-- how far the box of a kind reaches below its position in orientation 0
abbrev pub depth : ℕ → ℕ
depth k = get_or (0 ∷ 100 ∷ 150 ∷ []) k 0

-- what holds of the three kinds
of_kinds : (P : ℕ → Type 0) → P 0 → P 1 → P 2 → (k : ℕ) → k ≤ 2 → P k
of_kinds P p q r zero h = p
of_kinds P p q r (suc zero) h = q
of_kinds P p q r (suc (suc zero)) h = r
of_kinds P p q r (suc (suc (suc k))) h = absurd (let z : ⊥ = omega arith in z)

-- ---- the stored numbers are at most 400
near : (a b : ℕ) → T (leb a 400) → T (leb b 400) → Near (at a b)
near a b s t = record { in_x = leb→le a 400 s; in_y = leb→le b 400 t }

none : Near unused
none = near 0 0 tt tt

near_three : (p q r : Point) → Near p → Near q → Near r → (k : ℕ) → Near (get_or (p ∷ q ∷ r ∷ []) k unused)
near_three p q r u v w zero = u
near_three p q r u v w (suc zero) = v
near_three p q r u v w (suc (suc zero)) = w
near_three p q r u v w (suc (suc (suc k))) = none

pub mapping : (k n x y : ℕ) → k ≤ 2 → Positioned n x y → Mapping (stored_pads k).points (stored_pads k).count n x y
mapping k n x y h s =
    of_kinds (λ (k : ℕ). Mapping (stored_pads k).points (stored_pads k).count n x y)
    (record { few = omega arith; sound = s; near = near_three (at 200 200) unused unused (near 200 200 tt tt) none none })
    (record { few = omega arith; sound = s; near = near_three (at 200 100) (at 150 300) (at 250 300) (near 200 100 tt tt) (near 150 300 tt tt) (near 250 300 tt tt) })
    (record { few = omega arith; sound = s; near = near_three (at 200 100) unused unused (near 200 100 tt tt) none none })
    k h

-- ---- the first n of a list, mapped
module _ (f : Point → Point) (d : Point) where
  next : (i : ℕ) (l : List Point) → set (map_first f i l) i (f (get_or l i d)) ≡ map_first f (suc i) l
  next zero [] = refl
  next zero (p ∷ l) = refl
  next (suc i) [] = refl
  next (suc i) (p ∷ l) = ap {B = List Point} (λ r. f p ∷ r) (next i l)

  pub again : (i : ℕ) (l : List Point) {out : List Point} {r : Point} → out ≡ map_first f i l → r ≡ f (get_or l i d) → set out i r ≡ map_first f (i + 1) l
  again i l e q = (λ j. set (e j) i (q j)) ∙ next i l ∙ (λ j. map_first f (sym (add-one i) j) l)

  -- the next one is as it was
  pub still : (i : ℕ) (l : List Point) → get_or (map_first f i l) i d ≡ get_or l i d
  still zero l = refl
  still (suc i) [] = refl
  still (suc i) (p ∷ l) = still i l

  -- mapped to the end, and further
  pub all_mapped : (i n : ℕ) (l : List Point) → length (take n l) ≤ i → map_first f i (take n l) ≡ map_first f n (take n l)
  all_mapped zero zero l h = refl
  all_mapped (suc i) zero l h = refl
  all_mapped zero (suc n) [] h = refl
  all_mapped (suc i) (suc n) [] h = refl
  all_mapped zero (suc n) (p ∷ l) h = absurd (let z : ⊥ = omega arith in z)
  all_mapped (suc i) (suc n) (p ∷ l) h = ap {B = List Point} (λ r. f p ∷ r) (all_mapped i n l (le_of_suc-le-suc h))

  -- those behind stay
  pub joined : (n : ℕ) (l : List Point) → map_first f n (take n l) ++ drop n l ≡ map_first f n l
  joined zero l = refl
  joined (suc n) [] = refl
  joined (suc n) (p ∷ l) = ap {B = List Point} (λ r. f p ∷ r) (joined n l)

-- ---- the tables, mapped
module _ (o : RotMirror) (x y : ℕ) where
  -- a stored point, where it comes to lie
  abbrev put : Point → Point
  put q = moved_of o x y (offset_of q)

  pub pads_made : (k : ℕ) → k ≤ 2 → {l : List Point} → l ≡ map_first put (stored_pads k).count (stored_pads k).points → ◌≡◌ {A = PadBlock} (record { points = l; count = (stored_pads k).count }) (pad_block k o x y)
  pads_made k h e =
      (λ i. record { points = e i; count = (stored_pads k).count })
      ∙ of_kinds (λ (k : ℕ). ◌≡◌ {A = PadBlock} (record { points = map_first put (stored_pads k).count (stored_pads k).points; count = (stored_pads k).count }) (pad_block k o x y)) refl refl refl k h

-- ---- the box of a kind, by the number: a turn to the right takes each side to the next, and 4 to 7 have the boxes of 0 to 3

-- after that many turns to the right
abbrev pub turned_box : ℕ → ℕ → ℕ → ℕ → Bounds
turned_box d zero x y = reaching_of x y 50 100 50 d
turned_box d (suc zero) x y = reaching_of x y d 50 100 50
turned_box d (suc (suc zero)) x y = reaching_of x y 50 d 50 100
turned_box d (suc (suc (suc n))) x y = reaching_of x y 100 50 d 50

abbrev Boxed : ℕ → ℕ → ℕ → ℕ → Type 0
Boxed k x y n = reached k n x y ≡ turned_box (depth k) (n % 4) x y

bounds_number : (k n x y : ℕ) → k ≤ 2 → n < 8 → bounds_at k (eighth n) x y ≡ turned_box (depth k) (n % 4) x y
bounds_number k n x y h l =
    box_reaches k n x y l
    ∙ of_kinds (λ (k : ℕ). Boxed k x y n)
    (below_8 (Boxed 0 x y) (refl, (refl, (refl, (refl, (refl, (refl, (refl, (refl, tt)))))))) n l)
    (below_8 (Boxed 1 x y) (refl, (refl, (refl, (refl, (refl, (refl, (refl, (refl, tt)))))))) n l)
    (below_8 (Boxed 2 x y) (refl, (refl, (refl, (refl, (refl, (refl, (refl, (refl, tt)))))))) n l)
    k h

module _ {k n x y : ℕ} (p : Placeable k n x y) where
  pub reaches : {l u r d : ℕ} → l ≤ 150 → u ≤ 150 → r ≤ 150 → d ≤ 150 → Reaching x y l u r d
  reaches f g h i = let s = p.sound in record { from_x = (s.left, s.right); from_y = (s.top, s.bottom); low = (f, g); high = (h, i) }

  pub box_made : (t : ℕ) {b : Bounds} → n % 4 ≡ t → b ≡ turned_box (depth k) t x y → b ≡ bounds_at k (eighth n) x y
  box_made t e q = q ∙ sym (bounds_number k n x y p.of_kind p.sound.turned ∙ ap (λ (t : ℕ). turned_box (depth k) t x y) e)
