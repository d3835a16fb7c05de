-- Each way out of `wire` and `junction`: the tests that led there decide the definition.
use mathlib.Core.Path.{◌≡◌, sym, ap, ◌∙◌}
use Prim.Native.Nat.{ℕ, ◌≤◌, ◌<◌}
use mathlib.Core.Bool.{Bool, true, false, not, ◌&&◌}
use lib.Dec.{T, lit≤}
use lib.IntN.{ℤ}
use lib.Signed.{le_z, lt_z, ◌≤ℤ◌, ◌<ℤ◌, le_z_yes, lt_z_yes, lt_z_no, clash_ℤ}
use borrow.Author.Tests.{le-leb, lt-leb, eq-eqb, ne_eqb}
use Rattle.draw.specs.Symbols.{whole}
use Rattle.draw.specs.Transforms.{float_position}
use Rattle.draw.specs.declared.Vector2.{Vector2}
use Rattle.draw.specs.declared.Draw.TheVariants.{Line, Circle}
use Rattle.lists.proofs.Tests.{agree, both}
use Rattle.edge.specs.Coordinates.{ranged}
use Rattle.symbol.specs.Replies.{point_reply, wire_reply}
use Rattle.draw.specs.Answers.{Answer, shape_is, no_shape}
use Rattle.cad.specs.Answers.{refused_shape}
use Rattle.cad.specs.Shapes.{wire_shape, junction_shape}
use Rattle.cad.proofs.Positions.{Tested, Small, small, small_two}

-- the code tests whether the end is before the start
order : (s e : ℤ) → le_z s e ≡ not (lt_z e s)
order s e = go (lt_z e s) (λ t. lt_z_yes t) (λ t. lt_z_no t)
  where
    go : (b : Bool) → (T b → e <ℤ s) → (T (not b) → s ≤ℤ e) → le_z s e ≡ not b
    go true f g = agree (le_z s e) false (λ t. clash_ℤ (f tt) (le_z_yes t)) (λ t. absurd t)
    go false f g = agree (le_z s e) true (λ t. tt) (λ t. (g tt).le)

module _ (vertical : Bool) {line start end : ℤ} {l s e : Bool} (L : Tested 6000 line l) (S : Tested 6000 start s) (E : Tested 6000 end e) where
  abbrev Wire : Answer → Type 0
  Wire r = r ≡ wire_shape vertical line start end

  range : {b : Bool} → (l && (s && e)) ≡ b → (ranged 6000 line && (ranged 6000 start && ranged 6000 end)) ≡ b
  range t = sym (λ j. L.is j && (S.is j && E.is j)) ∙ t

  pub wire_outside : (l && (s && e)) ≡ false → Wire (refused_shape 1)
  unfolding wire_shape wire_reply
  wire_outside t = simp (range t)

  module _ (t : (l && (s && e)) ≡ true) where
    pub small_three : Small line × (Small start × Small end)
    small_three = let k = both l (s && e) t in (small L (lit≤ tt) k.0, small_two S E (lit≤ tt) k.1)

    pub reversed : lt_z end start ≡ true → Wire (refused_shape 2)
    unfolding wire_shape wire_reply
    reversed u = simp (range t, order start end ∙ ap not u)

    module _ {p q : Vector2} (u : lt_z end start ≡ false) where
      pub downward : vertical ≡ true → p ≡ float_position line start → q ≡ float_position line end → Wire (shape_is (Line p q (whole 6)))
      unfolding wire_shape wire_reply
      downward v f g = simp (range t, order start end ∙ ap not u, v, f, g)

      pub across : vertical ≡ false → p ≡ float_position start line → q ≡ float_position end line → Wire (shape_is (Line p q (whole 6)))
      unfolding wire_shape wire_reply
      across v f g = simp (range t, order start end ∙ ap not u, v, f, g)

module _ {x y : ℤ} (count : ℕ) {a b : Bool} (X : Tested 6000 x a) (Y : Tested 6000 y b) where
  abbrev Mark : Answer → Type 0
  Mark r = r ≡ junction_shape x y count

  at_point : {t : Bool} → (a && b) ≡ t → (ranged 6000 x && ranged 6000 y) ≡ t
  at_point t = sym (λ j. X.is j && Y.is j) ∙ t

  pub mark_outside : (a && b) ≡ false → Mark (refused_shape 1)
  unfolding junction_shape point_reply
  mark_outside t = simp (at_point t)

  module _ {p : Vector2} (t : (a && b) ≡ true) (f : p ≡ float_position x y) where
    pub dot : 3 ≤ count → Mark (shape_is (Line p p (whole 40)))
    unfolding junction_shape point_reply
    dot h = simp (at_point t, le-leb 3 count h, f)

    module _ (h : count < 3) where
      pub loose : count ≡ 1 → Mark (shape_is (Circle p (whole 10) (whole 1)))
      unfolding junction_shape point_reply
      loose k = simp (at_point t, lt-leb 3 count h, eq-eqb count 1 k, f)

      pub bare : (count ≡ 1 → ⊥) → Mark no_shape
      unfolding junction_shape point_reply
      bare k = simp (at_point t, lt-leb 3 count h, ne_eqb count 1 k)
