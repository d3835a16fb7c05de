-- Rule 4 by counting: a point holds two wire ends in line and nothing else just where nothing keeps the two wires apart.
use Prim.Native.Nat.{ℕ, suc, ◌+◌, ◌≤◌, ◌<◌}
use mathlib.Core.Bool.{Bool, true, false, cond, not, beq}
use mathlib.Core.List.Memᴰ.{eq_of_singleton as ∈-one}
use mathlib.Core.List.Memᴰ.{head as ∈-head}
use mathlib.Core.List.{List, [], ◌∷◌}
use mathlib.Core.Path.{◌≡◌, refl, sym, subst, ap, ◌∙◌}
use mathlib.Core.Logic.{⊎_elim, inl, inr, ◌↔◌}
use native.Mathlib.Omega.{arith}
use Rattle.lists.specs.Lists.{◌∈◌, Rows, none, more}
use Rattle.std.specs.List.{filter, flat_map}
use Rattle.lists.proofs.Tests.{decide, choose, ltb_reads, beq_reads}
use Rattle.lists.proofs.Lists.{keep_in, in_keep, gather_in, in_gather}
use Rattle.lists.proofs.Order.{rows_keep, rows_all}
use Rattle.symbol.specs.declared.Point.{Point}
use Rattle.sheet.specs.declared.Wire.{Wire}
use Rattle.sheet.specs.Points.{same}
use Rattle.sheet.specs.Geometry.{tip, tips, ends, marks, Ends, Follows, Side, low, high}
use Rattle.sheet.specs.Joints.{number}
use Rattle.sheet.specs.Wiring.{HeldApart, AllFit, Ended}
use Rattle.sheet.specs.Rules.{ends_at, Rule2, Rule4, Share}
use Rattle.sheet.proofs.Points.{same_reads}
use Rattle.sheet.proofs.Geometry.{same_dir, ends_at_lem, ends_is, is_ends, ends_in, in_ends}
use Rattle.sheet.proofs.Wiring.{ends_follow, follows_end}
use Rattle.sheet.proofs.Held.{held_reads}
use Rattle.sheet.proofs.Numbers.{number_in, in_number, number_append, number_parts}

-- the ends of one side
side_ends : Side → List Wire → List Point
side_ends s ws = flat_map (λ w. tip s w ∷ []) ws

side_in : (s : Side) (p : Point) (ws : List Wire) → 0 < number p (side_ends s ws) → (w : Wire) × w ∈ ws × Ends s p w
unfolding side_ends
side_in s p ws l = let r = gather_in (λ w. tip s w ∷ []) ws (number_in p (side_ends s ws) l) in (r.0, r.1, is_ends s (∈-one r.2))

in_side : {s : Side} {p : Point} {w : Wire} {ws : List Wire} → w ∈ ws → Ends s p w → 0 < number p (side_ends s ws)
unfolding side_ends
in_side {s} m e = in_number (in_gather (λ w. tip s w ∷ []) m (∈-head (ends_is e)))

no_pos : (n : ℕ) → (0 < n → ⊥) → n ≡ 0
no_pos n f = ⊎_elim (λ (l : 0 < n). absurd (f l)) (λ (g : 0 < n → ⊥). omega arith) (decide (ltb_reads 0 n))

at_most_one : (s : Side) (p : Point) {ws : List Wire} → Rows (λ a b. Ends s p a → Ends s p b → ⊥) ws → number p (side_ends s ws) ≤ 1
unfolding side_ends number
at_most_one s p none = omega arith
at_most_one s p (more {x = w} {xs = ws} h r) = let ih = at_most_one s p r in choose (same_reads p (tip s w)) (λ n. n ≤ 1) {x = suc (number p (side_ends s ws))} {y = number p (side_ends s ws)}
    (λ e. omega (arith, no_pos (number p (side_ends s ws)) (λ l. let k = side_in s p ws l in h k.0 k.1 (is_ends s e) k.2)))
    (λ n. ih)

-- a wire has two ends
number_ends : (p : Point) (ws : List Wire) → number p (ends ws) ≡ number p (side_ends low ws) + number p (side_ends high ws)
unfolding ends side_ends number
number_ends p [] = refl
number_ends p (w ∷ ws) = step (same p (tip low w)) (same p (tip high w)) (number p (side_ends low ws)) (number p (side_ends high ws)) (number_ends p ws)
  where
    step : (b c : Bool) {n : ℕ} (l m : ℕ) → n ≡ l + m → cond b (suc (cond c (suc n) n)) (cond c (suc n) n) ≡ cond b (suc l) l + cond c (suc m) m
    step true true l m e = omega arith
    step true false l m e = omega arith
    step false true l m e = omega arith
    step false false l m e = omega arith

-- two wires of one direction with one end of a side share a length
share : (s : Side) {p : Point} {a b : Wire} → a.start < a.end → b.start < b.end → a.vertical ≡ b.vertical → Ends s p a → Ends s p b → Share a b
share low {p} k l d e f = let t = same_dir d p in record { dir = d; line = omega (arith, e.line, f.line); from = omega (arith, e.end, f.end); to = omega (arith, e.end, f.end) }
share high {p} k l d e f = let t = same_dir d p in record { dir = d; line = omega (arith, e.line, f.line); from = omega (arith, e.end, f.end); to = omega (arith, e.end, f.end) }

beq_not : (a b : Bool) → not (beq a b) ≡ beq a (not b)
beq_not true true = refl
beq_not true false = refl
beq_not false true = refl
beq_not false false = refl

-- the ends of both directions
number_both : (d : Bool) (p : Point) (ws : List Wire) → number p (ends ws) ≡ ends_at d ws p + ends_at (not d) ws p
unfolding ends_at ends
number_both d p ws = number_parts (λ w. beq w.vertical d) tips p ws ∙ ap (λ (f : Wire → Bool). ends_at d ws p + number p (ends (filter f ws))) (λ i w. beq_not w.vertical d i)

module _ {ws : List Wire} (ps : List Point) (fits : AllFit ws) (r : Rule2 ws) where
  -- the wires of one direction
  abbrev of : Bool → List Wire
  of d = filter (λ w. beq w.vertical d) ws

  of_in : (d : Bool) {w : Wire} → w ∈ of d → w ∈ ws × (w.vertical ≡ d)
  of_in d m = keep_in (λ w. beq_reads w.vertical d) ws m

  in_of : (d : Bool) {w : Wire} → w ∈ ws → w.vertical ≡ d → w ∈ of d
  in_of d m e = in_keep (λ w. beq_reads w.vertical d) m e

  one_side : (s : Side) (d : Bool) (p : Point) → number p (side_ends s (of d)) ≤ 1
  one_side s d p = at_most_one s p (rows_all (rows_keep (λ w. beq w.vertical d) r) (λ a b m n f e e'.
      let i = of_in d m in let j = of_in d n in f (share s (fits a i.0).long (fits b j.0).long (i.1 ∙ sym j.1) e e')))

  both_sides : (d : Bool) (p : Point) → ends_at d ws p ≡ number p (side_ends low (of d)) + number p (side_ends high (of d))
  unfolding ends_at
  both_sides d p = number_ends p (of d)

  some_end : (d : Bool) (p : Point) → Ended ws d p → 0 < ends_at d ws p
  unfolding ends_at
  some_end d p t = in_number (in_ends (t.wire, in_of d t.among t.dir, t.here))

  none_other : (d : Bool) (p : Point) → (Ended ws d p → ⊥) → ends_at d ws p ≡ 0
  unfolding ends_at
  none_other d p f = no_pos (number p (ends (of d))) (λ l. let k = ends_in (of d) (number_in p (ends (of d)) l) in let i = of_in d k.1 in f (record { wire = k.0; among = i.0; dir = i.1; here = k.2 }))

  -- where a wire goes on in line, two of the direction end
  follow_two : (a b : Wire) → a ∈ ws → b ∈ ws → Follows a b → ends_at a.vertical ws (tip high a) ≡ 2
  follow_two a b m n e =
      omega (arith, both_sides a.vertical (tip high a), one_side low a.vertical (tip high a), one_side high a.vertical (tip high a), in_side (in_of a.vertical n (sym e.dir)) (follows_end e), in_side (in_of a.vertical m refl) (ends_at_lem high a))

  pub rule_4 : Rule4 ws ps ↔ ((a b : Wire) → a ∈ ws → b ∈ ws → Follows a b → HeldApart ws ps a.vertical (tip high a))
  rule_4 = (into, out)
    where
      into : Rule4 ws ps → (a b : Wire) → a ∈ ws → b ∈ ws → Follows a b → HeldApart ws ps a.vertical (tip high a)
      into f a b m n e = ⊎_elim
          (λ (t : HeldApart ws ps a.vertical (tip high a)). t)
          (λ (t : HeldApart ws ps a.vertical (tip high a) → ⊥). absurd (f (tip high a) a.vertical (follow_two a b m n e) (none_other (not a.vertical) (tip high a) (λ x. t (inl x))) (λ k. t (inr k))))
          (decide (held_reads ws ps a.vertical (tip high a)))

      out : ((a b : Wire) → a ∈ ws → b ∈ ws → Follows a b → HeldApart ws ps a.vertical (tip high a)) → Rule4 ws ps
      out f p d two no_other free =
          let h = side_in high p (of d) (omega (arith, both_sides d p, one_side low d p)) in
          let l = side_in low p (of d) (omega (arith, both_sides d p, one_side high d p)) in
          let i = of_in d h.1 in let j = of_in d l.1 in
          clear (subst (λ q. HeldApart ws ps d q) (sym (ends_is h.2)) (subst (λ c. HeldApart ws ps c (tip high h.0)) i.1 (f h.0 l.0 i.0 j.0 (ends_follow (i.1 ∙ sym j.1) h.2 l.2))))
        where
          clear : HeldApart ws ps d p → ⊥
          clear (inl s) = omega (arith, some_end (not d) p s)
          clear (inr m) = free m

  -- ---- where wires go on in line, two are counted if nothing holds them apart, and else more

  module _ (a b : Wire) (m : a ∈ ws) (n : b ∈ ws) (e : Follows a b) where
    counted : number (tip high a) (marks ws ps) ≡ 2 + ends_at (not a.vertical) ws (tip high a) + number (tip high a) ps
    counted = omega (arith, number_append (tip high a) (ends ws) ps, number_both a.vertical (tip high a) ws, follow_two a b m n e)

    pub count_two : (HeldApart ws ps a.vertical (tip high a) → ⊥) → number (tip high a) (marks ws ps) ≡ 2
    count_two f = omega (arith, counted, none_other (not a.vertical) (tip high a) (λ x. f (inl x)), no_pos (number (tip high a) ps) (λ l. f (inr (number_in (tip high a) ps l))))

    pub count_above : HeldApart ws ps a.vertical (tip high a) → 3 ≤ number (tip high a) (marks ws ps)
    count_above (inl s) = omega (arith, counted, some_end (not a.vertical) (tip high a) s)
    count_above (inr s) = omega (arith, counted, in_number s)
