-- The nested walk over component rows: what the rest of the rows answers is what the whole answers.
use Prim.Native.Nat.{ℕ, ◌+◌, ◌≤◌, ◌<◌}
use native.Mathlib.Numerals.{add-one}
use mathlib.Core.Path.{◌≡◌, refl, sym, ap, ◌∙◌}
use mathlib.Core.List.{List, ◌∷◌}
use mathlib.Core.Bool.{Bool, true, false}
use lib.ListN.{length, get_or, take, drop}
use Rattle.lists.proofs.Walks.{rows_from_lem, rows_past}
use Rattle.symbol.specs.declared.Bounds.{Bounds}
use Rattle.symbol.specs.Symbols.{touches_of}
use Rattle.sheet.specs.declared.Component.{Component}
use Rattle.sheet.specs.Parts.{box, touches}
use Rattle.rules.specs.Touching.{Touching, none}
use Rattle.rules.specs.Check.{touching_one, touching_from}

-- the outer walk is at row i
pub record Outer (l : List Component) (n i : ℕ) (whole : Touching) : Type 0 where
  pub same : whole ≡ touching_from i (drop i (take n l))

-- the inner walk is at row j, for row i, whose box is p
pub record Inner (p : Bounds) (l : List Component) (n i j : ℕ) (whole : Touching) : Type 0 where
  pub row : Component
  pub box_is : p ≡ box row
  pub same : whole ≡ touching_one i row j (drop j (take n l)) (touching_from (i + 1) (drop (i + 1) (take n l)))

pub outer_in : {p : Bounds} {l : List Component} {n i : ℕ} {w : Touching} (d : Component) → Outer l n i w → p ≡ box (get_or l i d) → i < n → n ≤ length l → Inner p l n i (i + 1) w
unfolding touching_from
outer_in {p} {l} {n} {i} d s e h k =
    let f : touching_from i (get_or l i d ∷ drop (i + 1) (take n l)) ≡ touching_one i (get_or l i d) (i + 1) (drop (i + 1) (take n l)) (touching_from (i + 1) (drop (i + 1) (take n l)))
    = ap (λ (m : ℕ). touching_one i (get_or l i d) m (drop (i + 1) (take n l)) (touching_from m (drop (i + 1) (take n l)))) (sym (add-one i)) in
    record { row = get_or l i d; box_is = e; same = s.same ∙ ap (touching_from i) (rows_from_lem l n i d h k) ∙ f }

touch_by_boxes : (p q : Bounds) (a b : Component) (t : Bool) → p ≡ box a → q ≡ box b → touches_of p q ≡ t → touches a b ≡ t
unfolding touches
touch_by_boxes p q a b t e f g = ap (λ (x : Bounds). touches_of x (box b)) (sym e) ∙ ap (λ (x : Bounds). touches_of p x) (sym f) ∙ g

pub inner_next : {p : Bounds} {l : List Component} {n i j : ℕ} {w : Touching} (d : Component) (q : Bounds) → Inner p l n i j w → q ≡ box (get_or l j d) → touches_of p q ≡ false → j < n → n ≤ length l → Inner p l n i (j + 1) w
unfolding touching_one
inner_next {p} {l} {n} {i} {j} d q s e t h k =
    let rest = touching_from (i + 1) (drop (i + 1) (take n l)) in
    let u = touch_by_boxes p q s.row (get_or l j d) false s.box_is e t in
    record { row = s.row; box_is = s.box_is; same = s.same ∙ ap (λ (r : List Component). touching_one i s.row j r rest) (rows_from_lem l n j d h k) ∙ rw (u, add-one) }

pub inner_stop : {p : Bounds} {l : List Component} {n i j : ℕ} {w : Touching} (d : Component) (q : Bounds) → Inner p l n i j w → q ≡ box (get_or l j d) → touches_of p q ≡ true → j < n → n ≤ length l → record { found = true; first = i; second = j } ≡ w
unfolding touching_one
inner_stop {p} {l} {n} {i} {j} d q s e t h k =
    let rest = touching_from (i + 1) (drop (i + 1) (take n l)) in
    let u = touch_by_boxes p q s.row (get_or l j d) true s.box_is e t in
    sym (s.same ∙ ap (λ (r : List Component). touching_one i s.row j r rest) (rows_from_lem l n j d h k) ∙ rw u)

pub inner_end : {p : Bounds} {l : List Component} {n i j : ℕ} {w : Touching} → Inner p l n i j w → n ≤ j → n ≤ length l → Outer l n (i + 1) w
unfolding touching_one
inner_end {p} {l} {n} {i} {j} s h k = record { same = s.same ∙ ap (λ (r : List Component). touching_one i s.row j r (touching_from (i + 1) (drop (i + 1) (take n l)))) (rows_past l n j h k) }

pub outer_end : {l : List Component} {n i : ℕ} {w : Touching} → Outer l n i w → n ≤ i → n ≤ length l → none ≡ w
unfolding touching_from
outer_end {l} {n} {i} s h k = sym (s.same ∙ ap (touching_from i) (rows_past l n i h k))
