-- From the numbers of rows back to coordinates: the pads and the box of a component over the whole numbers alone.
use mathlib.Core.Path.{◌≡◌, refl, sym, ap, ◌∙◌, subst}
use Prim.Native.Nat.{ℕ, zero, suc, ◌<◌}
use native.Mathlib.Omega.{arith}
use mathlib.Core.Bool.{Bool, true, false, ◌&&◌, cond}
use mathlib.Core.List.{[], ◌∷◌, map}
use lib.Dec.{T, ltb}
use lib.IntN.{ℤ, pos, nat_abs, ◌+ℤ◌}
use lib.ListN.{get_or}
use mir.Syntax.{w32}
use mir.Val.{SFits, to_z, of_z}
use mir.Facts.{to_z-of_z}
use borrow.Author.Tests.{leb-true, ne_eqb}
use Rattle.lists.proofs.Tests.{agree, both_l, both_r}
use Rattle.std.specs.Prelude.{Option, Some, None}
use Rattle.std.specs.Option.{unwrap_or}
use Rattle.refusal.specs.Numbers.{number_of}
use Rattle.refusal.specs.declared.Refusal.{Refusal}
use Rattle.refusal.proofs.Numbers.{refuses}
use Rattle.orientation.specs.Orientations.{eighth}
use Rattle.edge.specs.Coordinates.{coord_of, biased, ranged, found_in, biased_within, is_position}
use Rattle.edge.proofs.Coordinates.{back, narrow_test}
use Rattle.symbol.specs.Symbols.{Offset, known_symbol, off, minus, applied, moved_of, unused, pads_at, pad_block, low_at, high_at, bounds_at, Positioned}
use Rattle.symbol.specs.Replies.{granted, known_then_placed, symbol_reply, held_reply}
use Rattle.symbol.specs.declared.Point.{Point}
use Rattle.symbol.specs.declared.PadBlock.{PadBlock}
use Rattle.symbol.specs.declared.PadsReply.{PadsReply}
use Rattle.symbol.specs.declared.Bounds.{Bounds}
use Rattle.symbol.specs.declared.BoundsReply.{BoundsReply}
use Rattle.symbol.specs.Answers.{pads_for, pads_reply_of, bounds_for, aabb_of}
use Rattle.symbol.proofs.Symbols.{refuse, tests_placeable}
use Rattle.symbol.proofs.Exact.{near, high_near, exact}
use Rattle.component.specs.Answers.{origin, position_of, PadsAnswer, BoxAnswer, answer, component_pads_of, spanned, no_box, component_box_of, held_of, shown_of, granted_reply}
use Rattle.component.specs.declared.Position.{Position}
use Rattle.component.proofs.Order.{coord_min, coord_max}

-- ---- a component's coordinate, as rows hold it; z comes out of its bits as it was
pub held_at : (z : ℤ) → SFits w32 z → (r : Option ℕ) → found_in r ≡ biased_within 5800 (to_z w32 (of_z w32 z)) → unwrap_or r 0 ≡ held_of z
unfolding biased_within held_of
held_at z f r e = told r ∙ ap (λ p. p.at) (e ∙ ap (biased_within 5800) (to_z-of_z {w = w32} {z = z} f))
  where
    told : (r : Option ℕ) → unwrap_or r 0 ≡ (found_in r).at
    told (Some n) = refl
    told None = refl

held_test : (z : ℤ) → is_position (held_of z) ≡ ranged 5800 z
unfolding held_of
held_test z = go (ranged 5800 z) refl
  where
    go : (b : Bool) → ranged 5800 z ≡ b → is_position (cond b (biased z) 0) ≡ b
    go true e = let h = leb-true (nat_abs z) 5800 e in sym (narrow_test z (omega arith)) ∙ e
    go false e = refl

held_back : (z : ℤ) → T (ranged 5800 z) → coord_of (held_of z) ≡ z
unfolding held_of
held_back z t =
    let e : ranged 5800 z ≡ true = agree (ranged 5800 z) true (λ u. tt) (λ u. t) in
    let h = leb-true (nat_abs z) 5800 e in
    (λ i. coord_of (cond (e i) (biased z) 0)) ∙ back z (omega arith)

-- ---- the answer of a call: what is right where nothing is refused, else zeros
refused_as : {A : Type 0} (f : ℕ → A) (a : A) (n : ℕ) → 0 < n → f n ≡ granted n f a
refused_as f a n h = sym (λ i. cond (ne_eqb n 0 (λ e. let z : ⊥ = omega arith in z) i) a (f n))

module _ (kind : ℕ) (o : ℕ) (x y : ℤ) where
  reply : symbol_reply kind o x y ≡ held_reply kind o (held_of x) (held_of y)
  unfolding symbol_reply
  reply = refuse kind o (held_of x) (held_of y) (known_symbol kind o) (ranged 5800 x && ranged 5800 y) refl (λ i. held_test x i && held_test y i)

  -- where nothing is refused, kind and position are right
  granted_tests : 0 ≡ symbol_reply kind o x y → T (known_symbol kind o) × T (ranged 5800 x && ranged 5800 y)
  unfolding symbol_reply
  granted_tests = go (known_symbol kind o) (ranged 5800 x && ranged 5800 y)
    where
      go : (k p : Bool) → ◌≡◌ {A = ℕ} 0 (known_then_placed k p) → T k × T p
      go true true e = (tt, tt)
      go true false e = absurd (let z : ⊥ = omega arith in z)
      go false p e = absurd (let z : ⊥ = omega arith in z)

  -- what is right where kind, orientation and position are
  module _ (k : T (known_symbol kind o)) (p : T (ranged 5800 x && ranged 5800 y)) where
    sound : Positioned o (held_of x) (held_of y)
    sound = (tests_placeable kind o (held_of x) (held_of y) k (subst T (sym (λ i. held_test x i && held_test y i)) p)).sound

    point : (q : Offset) → T (near q) → shown_of (moved_of (eighth o) (held_of x) (held_of y) q) true ≡ position_of (eighth o) x y q
    point q t =
        let h = exact o (held_of x) (held_of y) sound q t in
        λ i. record {
          x = (h.in_x ∙ (λ j. held_back x (both_l (ranged 5800 x) (ranged 5800 y) p) j +ℤ (applied (eighth o) q).dx)) i;
          y = (h.in_y ∙ (λ j. held_back y (both_r (ranged 5800 x) (ranged 5800 y) p) j +ℤ (applied (eighth o) q).dy)) i;
        }

-- ---- what the calls for pads and box of `symbol` tell of numbers of rows
kept : (known placed : Bool) → granted_reply (known_then_placed known placed) ≡ known_then_placed known placed
kept true true = refl
kept true false = refl
kept false true = refl
kept false false = refl

pads_reply : (n : ℕ) (p : PadBlock) → (pads_for n p).reply ≡ n
pads_reply zero p = refl
pads_reply (suc n) p = refl

pads_told : (n : ℕ) (p : PadBlock) → 0 ≡ n → (pads_for n p).pads ≡ p
pads_told zero p e = refl
pads_told (suc n) p e = absurd (let z : ⊥ = omega arith in z)

box_reply : (n : ℕ) (b : Bounds) → (bounds_for n b).reply ≡ n
box_reply zero b = refl
box_reply (suc n) b = refl

box_told : (n : ℕ) (b : Bounds) → 0 ≡ n → (bounds_for n b).bounds ≡ b
box_told zero b e = refl
box_told (suc n) b e = absurd (let z : ⊥ = omega arith in z)

module _ (kind o m n : ℕ) where
  held_kept : granted_reply (held_reply kind o m n) ≡ held_reply kind o m n
  unfolding held_reply
  held_kept = kept (known_symbol kind o) (is_position m && is_position n)

  module _ (a : PadsReply) (e : a ≡ pads_reply_of kind o m n) where
    pub pads_granted : granted_reply a.reply ≡ held_reply kind o m n
    unfolding pads_reply_of
    pads_granted = ap granted_reply (ap (λ (r : PadsReply). r.reply) e ∙ pads_reply (held_reply kind o m n) (pad_block kind (eighth o) m n)) ∙ held_kept

    pub pads_are : 0 ≡ held_reply kind o m n → a.pads ≡ pad_block kind (eighth o) m n
    unfolding pads_reply_of
    pads_are z = ap (λ (r : PadsReply). r.pads) e ∙ pads_told (held_reply kind o m n) (pad_block kind (eighth o) m n) z

  module _ (a : BoundsReply) (e : a ≡ aabb_of kind o m n) where
    pub box_granted : granted_reply a.reply ≡ held_reply kind o m n
    unfolding aabb_of
    box_granted = ap granted_reply (ap (λ (r : BoundsReply). r.reply) e ∙ box_reply (held_reply kind o m n) (bounds_at kind (eighth o) m n)) ∙ held_kept

    pub box_is : 0 ≡ held_reply kind o m n → a.bounds ≡ bounds_at kind (eighth o) m n
    unfolding aabb_of
    box_is z = ap (λ (r : BoundsReply). r.bounds) e ∙ box_told (held_reply kind o m n) (bounds_at kind (eighth o) m n) z

-- ---- the pads
abbrev shown_pads : PadBlock → PadsAnswer
shown_pads b = record {
  reply = 0;
  points = shown_of (get_or b.points 0 unused) (ltb 0 b.count) ∷ shown_of (get_or b.points 1 unused) (ltb 1 b.count) ∷ shown_of (get_or b.points 2 unused) (ltb 2 b.count) ∷ [];
  count = b.count;
}

pads_right : (kind : ℕ) (o : ℕ) (x y : ℤ) → T (known_symbol kind o) → T (ranged 5800 x && ranged 5800 y)
    → shown_pads (pad_block kind (eighth o) (held_of x) (held_of y)) ≡ answer 0 (map (position_of (eighth o) x y) (pads_at kind))
pads_right zero o x y k p = let at = point 0 o x y k p in λ i. record { reply = 0; points = at (off (pos 0) (pos 0)) tt i ∷ origin ∷ origin ∷ []; count = 1 }
pads_right (suc zero) o x y k p = let at = point 1 o x y k p in λ i. record { reply = 0; points = at (off (pos 0) (minus 100)) tt i ∷ at (off (minus 50) (pos 100)) tt i ∷ at (off (pos 50) (pos 100)) tt i ∷ []; count = 3 }
pads_right (suc (suc n)) o x y k p = let at = point (suc (suc n)) o x y k p in λ i. record { reply = 0; points = at (off (pos 0) (minus 100)) tt i ∷ origin ∷ origin ∷ []; count = 1 }

-- ---- the box
abbrev shown_box : Bounds → BoxAnswer
shown_box b = record { reply = 0; low = shown_of b.low true; high = shown_of b.high true }

module _ (kind : ℕ) (o : ℕ) (x y : ℤ) where
  abbrev at : Offset → Point
  at q = moved_of (eighth o) (held_of x) (held_of y) q

  box_right : T (known_symbol kind o) → T (ranged 5800 x && ranged 5800 y) → shown_box (bounds_at kind (eighth o) (held_of x) (held_of y)) ≡ spanned (position_of (eighth o) x y (low_at kind)) (position_of (eighth o) x y (high_at kind))
  box_right k p =
      (λ i. record {
        reply = 0;
        low = record { x = coord_min (at (low_at kind)).x (at (high_at kind)).x i; y = coord_min (at (low_at kind)).y (at (high_at kind)).y i };
        high = record { x = coord_max (at (low_at kind)).x (at (high_at kind)).x i; y = coord_max (at (low_at kind)).y (at (high_at kind)).y i };
      })
      ∙ (λ i. spanned (point kind o x y k p (low_at kind) tt i) (point kind o x y k p (high_at kind) (high_near kind) i))

  -- ---- what `component_pads` and `component_box` answer, by what their calls ensure: m and n are x and y as rows hold them
  module _ (f : SFits w32 x) (g : SFits w32 y) (m n : ℕ) (em : m ≡ held_of (to_z w32 (of_z w32 x))) (en : n ≡ held_of (to_z w32 (of_z w32 y))) where
    is_x : m ≡ held_of x
    is_x = em ∙ ap held_of (to_z-of_z {w = w32} {z = x} f)

    is_y : n ≡ held_of y
    is_y = en ∙ ap held_of (to_z-of_z {w = w32} {z = y} g)

    same_reply : {r : ℕ} → r ≡ held_reply kind o m n → r ≡ symbol_reply kind o x y
    same_reply e = e ∙ (λ i. held_reply kind o (is_x i) (is_y i)) ∙ sym (reply kind o x y)

    answered_as : {A : Type 0} (f : ℕ → A) (a b : A) → (T (known_symbol kind o) → T (ranged 5800 x && ranged 5800 y) → b ≡ a) → 0 ≡ held_reply kind o m n → b ≡ granted (symbol_reply kind o x y) f a
    answered_as f a b h e = let t = granted_tests kind o x y (same_reply e) in h t.0 t.1 ∙ (λ i. granted (same_reply e i) f a)

    refused_pads : (r : Refusal) → number_of r ≡ held_reply kind o m n → answer (number_of r) [] ≡ component_pads_of kind o x y
    unfolding component_pads_of
    refused_pads r e =
        let a : PadsAnswer = answer 0 (map (position_of (eighth o) x y) (pads_at kind)) in
        refused_as (λ k. answer k []) a (number_of r) (refuses r) ∙ (λ i. granted (same_reply e i) (λ k. answer k []) a)

    pub pads_refused : (r : Refusal) (a : PadsReply) → a ≡ pads_reply_of kind o m n → number_of r ≡ granted_reply a.reply → answer (number_of r) [] ≡ component_pads_of kind o x y
    pads_refused r a ea e = refused_pads r (e ∙ pads_granted kind o m n a ea)

    pub pads_answered : (b : PadBlock) (p q s : Position) → 0 ≡ held_reply kind o m n → b ≡ pad_block kind (eighth o) m n
        → p ≡ shown_of (get_or b.points 0 unused) (ltb 0 b.count) → q ≡ shown_of (get_or b.points 1 unused) (ltb 1 b.count) → s ≡ shown_of (get_or b.points 2 unused) (ltb 2 b.count)
        → ◌≡◌ {A = PadsAnswer} (record { reply = 0; points = p ∷ q ∷ s ∷ []; count = b.count }) (component_pads_of kind o x y)
    unfolding component_pads_of
    pads_answered b p q s e eb ep eq es =
        let block : ℕ → ℕ → PadBlock = λ u v. pad_block kind (eighth o) u v in
        answered_as (λ k. answer k []) (answer 0 (map (position_of (eighth o) x y) (pads_at kind))) (record { reply = 0; points = p ∷ q ∷ s ∷ []; count = b.count })
        (λ k t. (λ i. record { reply = 0; points = ep i ∷ eq i ∷ es i ∷ []; count = b.count }) ∙ ap shown_pads (eb ∙ (λ i. block (is_x i) (is_y i))) ∙ pads_right kind o x y k t)
        e

    refused_box : (r : Refusal) → number_of r ≡ held_reply kind o m n → no_box (number_of r) ≡ component_box_of kind o x y
    unfolding component_box_of
    refused_box r e =
        let a : BoxAnswer = spanned (position_of (eighth o) x y (low_at kind)) (position_of (eighth o) x y (high_at kind)) in
        refused_as no_box a (number_of r) (refuses r) ∙ (λ i. granted (same_reply e i) no_box a)

    pub box_refused : (r : Refusal) (a : BoundsReply) → a ≡ aabb_of kind o m n → number_of r ≡ granted_reply a.reply → no_box (number_of r) ≡ component_box_of kind o x y
    box_refused r a ea e = refused_box r (e ∙ box_granted kind o m n a ea)

    pub box_answered : (b : Bounds) (p q : Position) → 0 ≡ held_reply kind o m n → b ≡ bounds_at kind (eighth o) m n → p ≡ shown_of b.low true → q ≡ shown_of b.high true
        → ◌≡◌ {A = BoxAnswer} (record { reply = 0; low = p; high = q }) (component_box_of kind o x y)
    unfolding component_box_of
    box_answered b p q e eb ep eq =
        answered_as no_box (spanned (position_of (eighth o) x y (low_at kind)) (position_of (eighth o) x y (high_at kind))) (record { reply = 0; low = p; high = q })
        (λ k t. (λ i. record { reply = 0; low = ep i; high = eq i }) ∙ ap shown_box (eb ∙ (λ i. bounds_at kind (eighth o) (is_x i) (is_y i))) ∙ box_right k t)
        e
