-- A wire that the new one does not meet is split at its standing joints only where the two cross at one of them.
use Prim.Native.Nat.{◌≤◌}
use native.Mathlib.Omega.{arith}
use mathlib.Core.Path.{◌≡◌, refl, sym, ap, ◌∙◌, subst}
use mathlib.Core.List.Memᴰ.{cast as ∈-cast}
use mathlib.Core.List.Memᴰ.{head as ∈-head}
use mathlib.Core.List.Memᴰ.{not-nil as ∈-nil}
use mathlib.Core.List.Memᴰ.{tail as ∈-tail}
use mathlib.Core.List.{List, [], ◌∷◌, ◌++◌}
use mathlib.Core.Logic.{⊎_elim}
use mathlib.Core.Bool.{Bool, true, false, ◌&&◌, cond, not, beq}
use lib.ListN.{get_or}
use Rattle.symbol.specs.declared.Point.{Point}
use Rattle.lists.specs.Lists.{◌∈◌}
use Rattle.std.specs.List.{flat_map}
use Rattle.lists.proofs.Tests.{Reads, pass, fail, decide, choose, reads_as, and_reads, eqb_reads, same_or_turned}
use Rattle.lists.proofs.Lists.{any_reads, in_cons, in_one}
use Rattle.sheet.specs.declared.Wire.{Wire}
use Rattle.sheet.specs.Geometry.{along, across, Inside, inside, on, Meets}
use Rattle.sheet.specs.Split.{left, right, split_one, split_at, split_all}
use Rattle.sheet.proofs.Geometry.{On, inside_reads, on_reads, along_point, across_point, point_is}
use Rattle.sheet.proofs.Pieces.{one_none}
use Rattle.sheet.proofs.Split.{all_none}
use Rattle.sheet.proofs.Reach.{on_meets}
use Rattle.add_wire.specs.Marks.{Marked, crossing, is_crossed, cut_across}

turned_across : (d : Bool) (p : Point) → across (not d) p ≡ along d p
turned_across true p = refl
turned_across false p = refl

inside_on : {p : Point} {w : Wire} → Inside p w → On p w
inside_on i = record { line = i.line; from = omega (arith, i.from); to = omega (arith, i.to) }

not_same : (d : Bool) → beq d d ≡ true
not_same true = refl
not_same false = refl

not_turned : (d : Bool) → beq (not d) d ≡ false
not_turned true = refl
not_turned false = refl

module _ (n w : Wire) where
  -- the one point on n that can lie in a wire across it
  pub only_crossing : {q : Point} → w.vertical ≡ not n.vertical → On q n → Inside q w → q ≡ crossing n w
  only_crossing {q} t o i = point_is n.vertical q (crossing n w)
      (sym o.line ∙ sym (across_point n.vertical n.line w.line))
      (sym (turned_across n.vertical q) ∙ sym (i.line ∙ ap (λ (d : Bool). across d q) t) ∙ sym (along_point n.vertical n.line w.line))

  -- once split there, it is split no further
  no_more : (qs : List Point) → w.vertical ≡ not n.vertical → ((q : Point) → q ∈ qs → On q n) → Inside (crossing n w) w
      → split_all qs (left (crossing n w) w ∷ right (crossing n w) w ∷ []) ≡ left (crossing n w) w ∷ right (crossing n w) w ∷ []
  no_more qs t h x = all_none qs _ (λ q v m k i. in_cons (λ v. Inside q v → ⊥) (λ j. front q m j) (λ v k j. in_one (λ v. Inside q v → ⊥) (λ j. back q m j) k j) k i)
    where
      same_place : (q : Point) → q ∈ qs → Inside q w → along w.vertical q ≡ along w.vertical (crossing n w)
      same_place q m i = ap (along w.vertical) (only_crossing t (h q m) i)

      front : (q : Point) → q ∈ qs → Inside q (left (crossing n w) w) → ⊥
      front q m i = let e = same_place q m (record { line = i.line; from = i.from; to = omega (arith, i.to, x.to) }) in omega (arith, i.to)

      back : (q : Point) → q ∈ qs → Inside q (right (crossing n w) w) → ⊥
      back q m i = let e = same_place q m (record { line = i.line; from = omega (arith, i.from, x.from); to = i.to }) in omega (arith, i.from)

  split_here : Inside (crossing n w) w → split_at (crossing n w) (w ∷ []) ≡ left (crossing n w) w ∷ right (crossing n w) w ∷ []
  unfolding split_at split_one
  split_here x = choose (inside_reads (crossing n w) w) (λ l. l ++ [] ≡ left (crossing n w) w ∷ right (crossing n w) w ∷ []) (λ p. refl) (λ f. absurd (f x))

  split_not : (q : Point) → (Inside q w → ⊥) → split_at q (w ∷ []) ≡ w ∷ []
  unfolding split_at
  split_not q f = ap (λ (l : List Wire). l ++ []) (one_none q f)

  -- where the crossing is one of the points
  crossed : (qs : List Point) → w.vertical ≡ not n.vertical → ((q : Point) → q ∈ qs → On q n) → Inside (crossing n w) w → crossing n w ∈ qs
      → split_all qs (w ∷ []) ≡ left (crossing n w) w ∷ right (crossing n w) w ∷ []
  unfolding split_all
  crossed [] t h x m = absurd (∈-nil m)
  crossed (q ∷ qs) t h x m = ⊎_elim
      (λ (i : Inside q w). ap (λ (p : Point). split_all qs (split_at p (w ∷ []))) (only_crossing t (h q (∈-head refl)) i) ∙ ap (split_all qs) (split_here x) ∙ no_more qs t (λ p k. h p (∈-tail k)) x)
      (λ (f : Inside q w → ⊥). ap (split_all qs) (split_not q f) ∙ crossed qs t (λ p k. h p (∈-tail k)) x (behind f m))
      (decide (inside_reads q w))
    where
      behind : (Inside q w → ⊥) → crossing n w ∈ q ∷ qs → crossing n w ∈ qs
      behind f (∈-head e) = absurd (f (subst (λ (p : Point). Inside p w) e x))
      behind f (∈-tail k) = k

  module _ {qs : List Point} {marks : List Bool} (h : (q : Point) → q ∈ qs → On q n) (k : Marked n.vertical qs marks) (e : n.end ≤ 12000) (free : Meets n w → ⊥) where
    -- the mark tells whether the crossing is one of the points
    mark_reads : On (crossing n w) n → Reads (crossing n w ∈ qs) (get_or marks w.line false)
    mark_reads o = subst (Reads (crossing n w ∈ qs)) (sym (k.each w.line low)) (reads_as (to, from) (any_reads (λ q. eqb_reads (along n.vertical q) w.line) qs))
      where
        low : w.line ≤ 12000
        low = omega (arith, o.to, along_point n.vertical n.line w.line)

        to : (q : Point) × q ∈ qs × (along n.vertical q ≡ w.line) → crossing n w ∈ qs
        to (q, m, a) = ∈-cast (sym (point_is n.vertical q (crossing n w) (sym (h q m).line ∙ sym (across_point n.vertical n.line w.line)) (a ∙ sym (along_point n.vertical n.line w.line)))) m

        from : crossing n w ∈ qs → (q : Point) × q ∈ qs × (along n.vertical q ≡ w.line)
        from m = (crossing n w, m, along_point n.vertical n.line w.line)

    -- a wire in the direction of n has none of the points strictly inside
    in_line : w.vertical ≡ n.vertical → cut_across n marks w ≡ split_all qs (w ∷ [])
    unfolding cut_across is_crossed
    in_line d =
        ap (λ (b : Bool). cond (not b && ((on (crossing n w) n && inside (crossing n w) w) && get_or marks w.line false)) (left (crossing n w) w ∷ right (crossing n w) w ∷ []) (w ∷ [])) (ap (λ (c : Bool). beq c n.vertical) d ∙ not_same n.vertical)
        ∙ sym (all_none qs (w ∷ []) (λ q v m i. in_one (λ v. Inside q v → ⊥) (λ j. free (on_meets (h q m) (inside_on j) d)) i))

    across_it : w.vertical ≡ not n.vertical → cut_across n marks w ≡ split_all qs (w ∷ [])
    unfolding cut_across is_crossed
    across_it t =
        ap (λ (b : Bool). cond (not b && ((on (crossing n w) n && inside (crossing n w) w) && get_or marks w.line false)) (left (crossing n w) w ∷ right (crossing n w) w ∷ []) (w ∷ [])) (ap (λ (c : Bool). beq c n.vertical) t ∙ not_turned n.vertical)
        ∙ whole (on_reads (crossing n w) n)
      where
        untouched : ((q : Point) → q ∈ qs → Inside q w → ⊥) → w ∷ [] ≡ split_all qs (w ∷ [])
        untouched f = sym (all_none qs (w ∷ []) (λ q v m i. in_one (λ v. Inside q v → ⊥) (f q m) i))

        whole : {b : Bool} → Reads (On (crossing n w) n) b → cond ((b && inside (crossing n w) w) && get_or marks w.line false) (left (crossing n w) w ∷ right (crossing n w) w ∷ []) (w ∷ []) ≡ split_all qs (w ∷ [])
        whole (fail f) = untouched (λ q m i. f (subst (λ (p : Point). On p n) (only_crossing t (h q m) i) (h q m)))
        whole (pass o) = choose (and_reads (inside_reads (crossing n w) w) (mark_reads o)) (λ l. l ≡ split_all qs (w ∷ []))
            (λ x. sym (crossed qs t h x.0 x.1))
            (λ f. untouched (λ q m i. let s = only_crossing t (h q m) i in f (subst (λ (p : Point). Inside p w) s i, ∈-cast (sym s) m)))

    pub cut_across_lem : cut_across n marks w ≡ split_all qs (w ∷ [])
    cut_across_lem = ⊎_elim in_line across_it (same_or_turned w.vertical n.vertical)
