-- Each shape that a component, a wire or a joint answers has its coordinates within 1/4,096 of the exact sums, whole where those are whole, and never -0;
-- radius and width of a component's shape are the symbol's.
use mathlib.Core.Path.{◌≡◌, refl, sym, subst, ◌∙◌}
use Prim.Native.Nat.{ℕ, zero, suc, ◌≤◌}
use mathlib.Core.Bool.{Bool, true, false, ◌&&◌, cond}
use mathlib.Core.List.Memᴰ.{head as ∈-head}
use mathlib.Core.List.Memᴰ.{tail as ∈-tail}
use mathlib.Core.List.{List, [], ◌∷◌, map}
use lib.Dec.{T, leb, ltb, eqb, leb→le, ltb→lt}
use lib.Signed.{le_z}
use lib.IntN.{ℤ, nat_abs}
use Rattle.lists.specs.Lists.{◌∈◌}
use Rattle.lists.proofs.Tests.{Reads, pass, fail, test, both_l, both_r}
use Rattle.orientation.specs.Orientations.{eighth}
use Rattle.orientation.proofs.Turns.{eighth_known}
use Rattle.orientation.specs.declared.RotMirror.{RotMirror}
use Rattle.label.specs.Labels.{held_label}
use Rattle.draw.specs.Symbols.{whole, draws_of}
use Rattle.draw.specs.Transforms.{float_position, transform_of}
use Rattle.draw.specs.Bound.{CloseDraw, MarkPoint, CloseMark, stroke, ring}
use Rattle.draw.specs.declared.Draw.{Draw}
use Rattle.draw.specs.declared.Draw.TheVariants.{Line, Circle}
use Rattle.draw.proofs.Bound.{transform_close, mark_point}
use Rattle.edge.specs.Coordinates.{ranged}
use Rattle.symbol.specs.Symbols.{known_symbol}
use Rattle.symbol.proofs.Replies.{point_nested, wire_nested, component_nested}
use Rattle.draw.specs.Answers.{shape_is, no_shape, asked}
use Rattle.draw.proofs.Answers.{one_draw, no_draw}
use Rattle.cad.specs.Answers.{refused_shape}
use Rattle.cad.specs.Bound.{Shown, ComponentClose, WireMark, WireClose, JunctionClose}
use Rattle.cad.specs.Shapes.{component_shape, wire_shape, junction_shape}
use Rattle.cad.proofs.Answers.{no_refusal}

found : (o : RotMirror) (x y : ℤ) (ds : List Draw) (i : ℕ) (r : Draw) → ((d : Draw) → d ∈ ds → CloseDraw o x y d (transform_of o (float_position x y) d)) → asked i (map (transform_of o (float_position x y)) ds) ≡ shape_is r → Shown o x y i ds r
unfolding asked
found o x y [] i r h e = absurd (no_draw r e)
found o x y (d ∷ ds) zero r h e = record { d = d; at = refl; close = subst (CloseDraw o x y d) (one_draw (transform_of o (float_position x y) d) r e) (h d (∈-head refl)) }
found o x y (d ∷ ds) (suc i) r h e = let s = found o x y ds i r (λ d m. h d (∈-tail m)) e in record { d = s.d; at = s.at; close = s.close }

pub component_close : ComponentClose
unfolding component_shape
component_close kind n x y label i a b r e =
    go (test (known_symbol kind n)) (test (ranged 5800 x && ranged 5800 y)) (test (eqb (held_label label).reply 0))
    (sym (component_nested refused_shape (asked i (map (transform_of (eighth n) (float_position x y)) (draws_of kind a b))) kind n x y label) ∙ e)
  where
    go : {t u v : Bool} → Reads (T (known_symbol kind n)) t → Reads (T (ranged 5800 x && ranged 5800 y)) u → Reads (T (eqb (held_label label).reply 0)) v
        → cond t (cond u (cond v (asked i (map (transform_of (eighth n) (float_position x y)) (draws_of kind a b))) (refused_shape 5)) (refused_shape 1)) (refused_shape 4) ≡ shape_is r → Shown (eighth n) x y i (draws_of kind a b) r
    go (pass k) (pass p) (pass l) e =
        found (eighth n) x y (draws_of kind a b) i r
        (transform_close (eighth n) x y (eighth_known n (ltb→lt n 8 (both_r (leb kind 2) (ltb n 8) k))) (leb→le (nat_abs x) 5800 (both_l (ranged 5800 x) (ranged 5800 y) p)) (leb→le (nat_abs y) 5800 (both_r (ranged 5800 x) (ranged 5800 y) p)) kind a b) e
    go (pass k) (pass p) (fail l) e = absurd (no_refusal 4 r e)
    go (pass k) (fail p) l e = absurd (no_refusal 0 r e)
    go (fail k) p l e = absurd (no_refusal 3 r e)

-- ---- the marks: each point is a position

wire_ends : (line start end : ℤ) → T (ranged 6000 line && (ranged 6000 start && ranged 6000 end)) → (nat_abs line ≤ 6000) × ((nat_abs start ≤ 6000) × (nat_abs end ≤ 6000))
wire_ends line start end t =
    let u = both_r (ranged 6000 line) (ranged 6000 start && ranged 6000 end) t in (
      leb→le (nat_abs line) 6000 (both_l (ranged 6000 line) (ranged 6000 start && ranged 6000 end) t),
      (leb→le (nat_abs start) 6000 (both_l (ranged 6000 start) (ranged 6000 end) u), leb→le (nat_abs end) 6000 (both_r (ranged 6000 start) (ranged 6000 end) u)),
    )

pub wire_close : WireClose
unfolding wire_shape
wire_close vertical line start end r e = go vertical (test (ranged 6000 line && (ranged 6000 start && ranged 6000 end))) (test (le_z start end)) (sym (wire_nested refused_shape _ line start end) ∙ e)
  where
    go : (v : Bool) {t u : Bool} → Reads (T (ranged 6000 line && (ranged 6000 start && ranged 6000 end))) t → Reads (T (le_z start end)) u
        → cond t (cond u (cond v (shape_is (Line (float_position line start) (float_position line end) (whole 6))) (shape_is (Line (float_position start line) (float_position end line) (whole 6)))) (refused_shape 2)) (refused_shape 1) ≡ shape_is r → WireMark v line start end r
    go true (pass p) (pass l) e =
        let h = wire_ends line start end p in
        subst (CloseMark line start line end) (one_draw (Line (float_position line start) (float_position line end) (whole 6)) r e) (stroke (mark_point line start h.0 h.1.0) (mark_point line end h.0 h.1.1))
    go false (pass p) (pass l) e =
        let h = wire_ends line start end p in
        subst (CloseMark start line end line) (one_draw (Line (float_position start line) (float_position end line) (whole 6)) r e) (stroke (mark_point start line h.1.0 h.0) (mark_point end line h.1.1 h.0))
    go v (pass p) (fail l) e = absurd (no_refusal 1 r e)
    go v (fail p) l e = absurd (no_refusal 0 r e)

pub junction_close : JunctionClose
unfolding junction_shape
junction_close x y count r e = go (test (ranged 6000 x && ranged 6000 y)) (test (leb 3 count)) (test (eqb count 1)) (sym (point_nested refused_shape _ 6000 x y) ∙ e)
  where
    go : {t u v : Bool} → Reads (T (ranged 6000 x && ranged 6000 y)) t → Reads (T (leb 3 count)) u → Reads (T (eqb count 1)) v
        → cond t (cond u (shape_is (Line (float_position x y) (float_position x y) (whole 40))) (cond v (shape_is (Circle (float_position x y) (whole 10) (whole 1))) no_shape)) (refused_shape 1) ≡ shape_is r → CloseMark x y x y r
    go (pass p) u v e = marked (mark_point x y (leb→le (nat_abs x) 6000 (both_l (ranged 6000 x) (ranged 6000 y) p)) (leb→le (nat_abs y) 6000 (both_r (ranged 6000 x) (ranged 6000 y) p))) u v e
      where
        marked : MarkPoint x y (float_position x y) → {u v : Bool} → Reads (T (leb 3 count)) u → Reads (T (eqb count 1)) v
            → cond u (shape_is (Line (float_position x y) (float_position x y) (whole 40))) (cond v (shape_is (Circle (float_position x y) (whole 10) (whole 1))) no_shape) ≡ shape_is r → CloseMark x y x y r
        marked m (pass u) v e = subst (CloseMark x y x y) (one_draw (Line (float_position x y) (float_position x y) (whole 40)) r e) (stroke m m)
        marked m (fail u) (pass v) e = subst (CloseMark x y x y) (one_draw (Circle (float_position x y) (whole 10) (whole 1)) r e) (ring m)
        marked m (fail u) (fail v) e = absurd (no_draw r e)
    go (fail p) u v e = absurd (no_refusal 0 r e)
