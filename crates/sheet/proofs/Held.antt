-- What holds wires in line apart, and which join: the tests, read as the statements that they decide.
use mathlib.Core.Bool.{Bool, ◌&&◌, ◌||◌, not, beq}
use mathlib.Core.List.{List, [], ◌∷◌}
use mathlib.Core.Path.{◌≡◌, refl, subst, ap, ◌∙◌}
use mathlib.Core.Logic.{◌⊎◌, inl, inr}
use lib.Dec.{T, eqb}
use Rattle.lists.specs.Lists.{◌∈◌}
use Rattle.lists.proofs.Adjacent.{Adjacent, empty, single, link}
use Rattle.lists.proofs.Tests.{test, holds, passes, stable, choose, reads_as, not_reads, and_reads, or_reads, eqb_reads, beq_reads, Reads}
use Rattle.lists.proofs.Lists.{any_reads}
use Rattle.symbol.specs.declared.Point.{Point}
use Rattle.sheet.specs.declared.Wire.{Wire}
use Rattle.sheet.specs.Points.{same}
use Rattle.sheet.specs.Geometry.{point, tip, EndAt, Ends, Follows, Side, low, high}
use Rattle.sheet.specs.Merge.{held_apart, joins, join, glue, merge_by}
use Rattle.sheet.specs.Wiring.{HeldApart}
use Rattle.sheet.proofs.Points.{same_reads, member_reads}
use Rattle.sheet.proofs.Geometry.{ends_is, is_ends}

end_reads : (p : Point) (w : Wire) → Reads (EndAt p w) (same p (tip low w) || same p (tip high w))
end_reads p w = reads_as (into, λ e. out e.0 e.1) (or_reads (same_reads p (tip low w)) (same_reads p (tip high w)))
  where
    into : (p ≡ tip low w) ⊎ (p ≡ tip high w) → EndAt p w
    into (inl e) = (low, is_ends low e)
    into (inr e) = (high, is_ends high e)

    out : (s : Side) → Ends s p w → (p ≡ tip low w) ⊎ (p ≡ tip high w)
    out low e = inl (ends_is e)
    out high e = inr (ends_is e)

pub held_reads : (ws : List Wire) (ps : List Point) (d : Bool) (p : Point) → Reads (HeldApart ws ps d p) (held_apart ws ps d p)
unfolding held_apart
held_reads ws ps d p = reads_as (into, out) (or_reads (any_reads (λ w. and_reads (beq_reads w.vertical (not d)) (end_reads p w)) ws) (member_reads p ps))
  where
    into : ((w : Wire) × w ∈ ws × ((w.vertical ≡ not d) × EndAt p w)) ⊎ (p ∈ ps) → HeldApart ws ps d p
    into (inl t) = inl (record { wire = t.0; among = t.1; dir = t.2.0; here = t.2.1 })
    into (inr m) = inr m

    out : HeldApart ws ps d p → ((w : Wire) × w ∈ ws × ((w.vertical ≡ not d) × EndAt p w)) ⊎ (p ∈ ps)
    out (inl r) = inl (r.wire, r.among, (r.dir, r.here))
    out (inr m) = inr m

-- H is what holds wires of a direction apart at a point, and h the test for it
module _ {H : Bool → Point → Type 0} {h : Bool → Point → Bool} (r : (d : Bool) (p : Point) → Reads (H d p) (h d p)) where
  pub joins_reads : (a b : Wire) → Reads (Follows a b × (H a.vertical (tip high a) → ⊥)) (joins h a b)
  unfolding joins
  joins_reads a b = reads_as (λ t. (record { dir = t.0; line = t.1.0; end = t.1.1.0 }, t.1.1.1), λ t. (t.0.dir, (t.0.line, (t.0.end, t.1))))
      (and_reads (beq_reads a.vertical b.vertical) (and_reads (eqb_reads a.line b.line) (and_reads (eqb_reads a.end b.start) (not_reads (r a.vertical (tip high a))))))

  -- wires that go on in line and do not join are held apart
  pub not_joined : {a b : Wire} → (T (joins h a b) → ⊥) → Follows a b → H a.vertical (tip high a)
  not_joined {a} {b} f e = stable (r a.vertical (tip high a)) (λ n. f (passes (joins_reads a b) (e, n)))

-- wires that join go on in line
pub joins_follow : (h : Bool → Point → Bool) {a b : Wire} → T (joins h a b) → Follows a b
joins_follow h {a} {b} t = (holds (joins_reads (λ d p. test (h d p)) a b) t).0

-- of the first wire only the direction, the line and the end count
pub joins_join : (h : Bool → Point → Bool) {a b : Wire} (c : Wire) → Follows a b → joins h (join a b) c ≡ joins h b c
unfolding joins
joins_join h {a} {b} c e = λ i. beq (e.dir i) c.vertical && (eqb (e.line i) c.line && (eqb b.end c.start && not (h (e.dir i) (point (e.dir i) (e.line i) b.end))))

-- ---- a wire joined to the first of the rows behind it, or not

module _ (h : Bool → Point → Bool) (a b : Wire) (bs : List Wire) where
  pub glue_joined : T (joins h a b) → glue h a (b ∷ bs) ≡ join a b ∷ bs
  unfolding glue
  glue_joined t = choose (test (joins h a b)) (λ l. l ≡ join a b ∷ bs) (λ s. refl) (λ n. absurd (n t))

  pub glue_apart : (T (joins h a b) → ⊥) → glue h a (b ∷ bs) ≡ a ∷ b ∷ bs
  unfolding glue
  glue_apart f = choose (test (joins h a b)) (λ l. l ≡ a ∷ b ∷ bs) (λ s. absurd (f s)) (λ n. refl)

-- no row joins the next
abbrev pub Unjoined : (Bool → Point → Bool) → List Wire → Type 0
Unjoined h ws = Adjacent (λ a b. T (joins h a b) → ⊥) ws

pub merge_unjoined : (h : Bool → Point → Bool) (ws : List Wire) → Unjoined h (merge_by h ws)
unfolding merge_by
merge_unjoined h [] = empty
merge_unjoined h (w ∷ ws) = glued w (merge_unjoined h ws)
  where
    -- the first row becomes longer at its start
    longer : {a b : Wire} {bs : List Wire} → Follows a b → Unjoined h (b ∷ bs) → Unjoined h (join a b ∷ bs)
    longer e single = single
    longer e (link {y = c} f s) = link (λ t. f (subst T (joins_join h c e) t)) s

    glued : (a : Wire) {ms : List Wire} → Unjoined h ms → Unjoined h (glue h a ms)
    glued a empty = unfold glue in single
    glued a (single {x = b}) = unfold glue in choose (test (joins h a b)) (Unjoined h) (λ t. single) (λ n. link n single)
    glued a (link {x = b} f s) = unfold glue in choose (test (joins h a b)) (Unjoined h) (λ t. longer (joins_follow h t) (link f s)) (λ n. link n (link f s))

-- where no row joins the next, merging changes nothing
pub merge_idle : (h : Bool → Point → Bool) {ws : List Wire} → Unjoined h ws → merge_by h ws ≡ ws
unfolding merge_by
merge_idle h empty = refl
merge_idle h single = unfold glue in refl
merge_idle h (link {x} {y} {xs} f s) = ap (glue h x) (merge_idle h s) ∙ glue_apart h x y xs f
