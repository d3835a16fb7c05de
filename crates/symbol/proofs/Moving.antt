-- Where a point of a symbol comes to lie, by the number of its orientation: the odd ones take y to x and x to y, and the code's two tables
-- tell which way each goes.
use mathlib.Core.Path.{◌≡◌, sym, ◌∙◌}
use Prim.Native.Nat.{ℕ, ◌+◌, ◌-◌, ◌%◌, ◌<◌}
use mathlib.Core.Bool.{Bool, true, false, cond}
use mathlib.Core.List.{[], ◌∷◌}
use lib.Dec.{eqb}
use lib.IntN.{ℤ, pos, negsuc, sub_ℕ, ◌+ℤ◌, ◌*ℤ◌}
use lib.ListN.{get_or}
use borrow.Author.Tests.{eq-eqb, ne_eqb}
use Rattle.orientation.specs.Orientations.{eighth}
use Rattle.orientation.proofs.Eight.{below_8}
use Rattle.edge.specs.Coordinates.{coord_of, biased}
use Rattle.edge.proofs.Whole.{row_plus_left, row_minus_left, row_plus_right, row_minus_right, neg_sub, added}
use Rattle.symbol.specs.Symbols.{moved_of}
use Rattle.symbol.specs.Steps.{offset_of, along_of}
use Rattle.symbol.specs.declared.Point.{Point}

-- ---- one coordinate: position p, offsets dx and dy stored as 200 more, by each row of an orientation
module _ (dx dy p : ℕ) where
  abbrev sum : ℤ → ℤ → ℕ
  sum a b = biased (coord_of p +ℤ (a *ℤ sub_ℕ dx 200 +ℤ b *ℤ sub_ℕ dy 200))

  plus_x : p + dx - 200 ≡ sum (pos 1) (pos 0)
  plus_x = sym (added p dx 200 (pos 1 *ℤ sub_ℕ dx 200 +ℤ pos 0 *ℤ sub_ℕ dy 200) (row_plus_left (sub_ℕ dx 200) (sub_ℕ dy 200)))

  minus_x : p + 200 - dx ≡ sum (negsuc 0) (pos 0)
  minus_x = sym (added p 200 dx (negsuc 0 *ℤ sub_ℕ dx 200 +ℤ pos 0 *ℤ sub_ℕ dy 200) (row_minus_left (sub_ℕ dx 200) (sub_ℕ dy 200) ∙ neg_sub dx 200))

  plus_y : p + dy - 200 ≡ sum (pos 0) (pos 1)
  plus_y = sym (added p dy 200 (pos 0 *ℤ sub_ℕ dx 200 +ℤ pos 1 *ℤ sub_ℕ dy 200) (row_plus_right (sub_ℕ dx 200) (sub_ℕ dy 200)))

  minus_y : p + 200 - dy ≡ sum (pos 0) (negsuc 0)
  minus_y = sym (added p 200 dy (pos 0 *ℤ sub_ℕ dx 200 +ℤ negsuc 0 *ℤ sub_ℕ dy 200) (row_minus_right (sub_ℕ dx 200) (sub_ℕ dy 200) ∙ neg_sub dy 200))

-- ---- both coordinates, by the code's tables

-- number n takes x back, and y
abbrev pub back_x : ℕ → Bool
back_x n = get_or (false ∷ true ∷ true ∷ false ∷ true ∷ true ∷ false ∷ false ∷ []) n false

abbrev pub back_y : ℕ → Bool
back_y n = get_or (false ∷ false ∷ true ∷ true ∷ false ∷ true ∷ true ∷ false ∷ []) n false

module _ (q : Point) (x y : ℕ) where
  abbrev straight : ℕ → Point
  straight n = record { x = along_of (back_x n) q.x x; y = along_of (back_y n) q.y y }

  abbrev crossed : ℕ → Point
  crossed n = record { x = along_of (back_x n) q.y x; y = along_of (back_y n) q.x y }

  by_number : (n : ℕ) → n < 8 → cond (eqb (n % 2) 0) (straight n) (crossed n) ≡ moved_of (eighth n) x y (offset_of q)
  by_number =
      let u = q.x in
      let v = q.y in
      let put : (a b : ℕ) → Point = λ a b. record { x = a; y = b } in
      below_8 (λ n. cond (eqb (n % 2) 0) (straight n) (crossed n) ≡ moved_of (eighth n) x y (offset_of q)) (
        λ i. put (plus_y u v x i) (plus_x u v y i),
        (
          λ i. put (plus_x u v x i) (minus_y u v y i),
          (
            λ i. put (minus_y u v x i) (minus_x u v y i),
            (
              λ i. put (minus_x u v x i) (plus_y u v y i),
              (λ i. put (plus_y u v x i) (minus_x u v y i), (λ i. put (minus_x u v x i) (minus_y u v y i), (λ i. put (minus_y u v x i) (plus_x u v y i), (λ i. put (plus_x u v x i) (plus_y u v y i), tt)))),
            ),
          ),
        ),
      )

  module _ {n a b : ℕ} (h : n < 8) where
    pub moved_straight : n % 2 ≡ 0 → a ≡ along_of (back_x n) q.x x → b ≡ along_of (back_y n) q.y y → ◌≡◌ {A = Point} (record { x = a; y = b }) (moved_of (eighth n) x y (offset_of q))
    moved_straight t e f = (λ i. record { x = e i; y = f i }) ∙ sym (λ i. cond (eq-eqb (n % 2) 0 t i) (straight n) (crossed n)) ∙ by_number n h

    pub moved_crossed : (n % 2 ≡ 0 → ⊥) → a ≡ along_of (back_x n) q.y x → b ≡ along_of (back_y n) q.x y → ◌≡◌ {A = Point} (record { x = a; y = b }) (moved_of (eighth n) x y (offset_of q))
    moved_crossed t e f = (λ i. record { x = e i; y = f i }) ∙ sym (λ i. cond (ne_eqb (n % 2) 0 t i) (straight n) (crossed n)) ∙ by_number n h
