-- Pieces of a wire: what cuts at points leave of it, and what one split leaves.
use Prim.Native.Nat.{ℕ, ◌≤◌, ◌<◌}
use mathlib.Core.List.Memᴰ.{cast as ∈-cast}
use mathlib.Core.List.Memᴰ.{head as ∈-head}
use mathlib.Core.List.Memᴰ.{tail as ∈-tail}
use mathlib.Core.List.{List, [], ◌∷◌}
use mathlib.Core.Path.{◌≡◌, refl, sym, subst, ◌∙◌}
use mathlib.Core.Logic.{⊎_elim, ◌⊎◌, inl, inr}
use native.Mathlib.Omega.{arith}
use Rattle.lists.specs.Lists.{◌∈◌, Rows, more}
use Rattle.lists.proofs.Tests.{decide, choose, leb_reads, ltb_reads}
use Rattle.lists.proofs.Lists.{in_cons, in_one}
use Rattle.lists.proofs.Order.{rows_one}
use Rattle.symbol.specs.declared.Point.{Point}
use Rattle.sheet.specs.declared.Wire.{Wire}
use Rattle.sheet.specs.Geometry.{along, across, at, Ends, Inside, Side, low, high, Before, same_line}
use Rattle.sheet.specs.Split.{left, right, split_one}
use Rattle.sheet.specs.Wiring.{Fits}
use Rattle.sheet.proofs.Geometry.{On, inside_reads, same_dir, point_is, wire_is}
use Rattle.sheet.proofs.Before.{before_like, Apart}

-- v lies within w: same direction and line, and no longer
pub record Within (w v : Wire) : Type 0 where
  pub dir : v.vertical ≡ w.vertical
  pub line : v.line ≡ w.line
  pub from : w.start ≤ v.start
  pub to : v.end ≤ w.end

-- a point of the list, strictly inside w, stands at the place m
abbrev pub Cut : List Point → Wire → ℕ → Type 0
Cut qs w m = (q : Point) × q ∈ qs × Inside q w × (along w.vertical q ≡ m)

-- v is what cuts of w at points of the list leave
pub record Piece (qs : List Point) (w v : Wire) : Type 0 where
  pub within : Within w v
  pub tip : (s : Side) → (at s v ≡ at s w) ⊎ Cut qs w (at s v)
  pub fits : Fits w → Fits v

pub whole : {w : Wire} → Within w w
whole = record { dir = refl; line = refl; from = omega arith; to = omega arith }

pub entire : {qs : List Point} {w : Wire} → Piece qs w w
entire = record { within = whole; tip = λ s. inl refl; fits = λ f. f }

pub within_trans : {w v u : Wire} → Within w v → Within v u → Within w u
within_trans a b = record { dir = b.dir ∙ a.dir; line = b.line ∙ a.line; from = omega arith; to = omega arith }

pub within_before : {a b a' b' : Wire} → Within a a' → Within b b' → Before a b → Before a' b'
within_before p q x = before_like p.dir p.line p.to q.dir q.line q.from x

pub apart_within : {a b a' b' : Wire} → Within a a' → Within b b' → Apart a b → Apart a' b'
apart_within p q (inl x) = inl (within_before p q x)
apart_within p q (inr x) = inr (within_before q p x)

pub within_inside : {p : Point} {w v : Wire} → Within w v → Inside p v → Inside p w
within_inside {p} k i = let s = same_dir k.dir p in record { line = omega arith; from = omega arith; to = omega arith }

pub within_on : {p : Point} {w v : Wire} → Within w v → On p v → On p w
within_on {p} k i = let s = same_dir k.dir p in record { line = omega arith; from = omega arith; to = omega arith }

pub within_end : {s : Side} {q : Point} {w v : Wire} → Within w v → On q v → Ends s q w → Ends s q v
within_end {s = low} {q} k o e = let t = same_dir k.dir q in record { line = o.line; end = omega (arith, e.end) }
within_end {s = high} {q} k o e = let t = same_dir k.dir q in record { line = o.line; end = omega (arith, e.end) }

-- where a piece has an end the wire has it, or a point of the list stands there
pub piece_end : {qs : List Point} {w v : Wire} {s : Side} {q : Point} → Piece qs w v → Ends s q v → Ends s q w ⊎ (q ∈ qs × Inside q w)
piece_end {qs} {w} {v} {s} {q} p e =
    let t = same_dir p.within.dir q in
    let l : w.line ≡ across w.vertical q = omega (arith, e.line, p.within.line) in
    ⊎_elim
    (λ (f : at s v ≡ at s w). inl (record { line = l; end = omega (arith, e.end) }))
    (λ (c : Cut qs w (at s v)). let same : q ≡ c.0 = point_is w.vertical q c.0 (sym l ∙ c.2.line) (omega (arith, e.end, c.3)) in inr (∈-cast same c.1, subst (λ x. Inside x w) (sym same) c.2))
    (p.tip s)

-- a wire with no point of the list inside is left whole
pub piece_uncut : {qs : List Point} {w v : Wire} → Piece qs w v → ((q : Point) → q ∈ qs → Inside q w → ⊥) → v ≡ w
piece_uncut {qs} {w} {v} p f = wire_is p.within.dir p.within.line (still low) (still high)
  where
    still : (s : Side) → at s v ≡ at s w
    still s = ⊎_elim (λ (e : at s v ≡ at s w). e) (λ (c : Cut qs w (at s v)). absurd (f c.0 c.1 c.2)) (p.tip s)

-- ---- one point and one wire

-- what one split leaves: all of it is cut from w, nothing has p inside, and every point and every stretch of w is on some of it
pub record One (p : Point) (w : Wire) (vs : List Wire) : Type 0 where
  pub from : (v : Wire) → v ∈ vs → Piece (p ∷ []) w v
  pub clean : (v : Wire) → v ∈ vs → Inside p v → ⊥
  pub cover : (q : Point) → On q w → (v : Wire) × v ∈ vs × On q v
  pub span : (a : ℕ) → w.start ≤ a → a < w.end → (v : Wire) × v ∈ vs × ((v.start ≤ a) × (a < v.end))
  pub order : Rows Before vs

pub one : (p : Point) (w : Wire) → One p w (split_one p w)
unfolding split_one
one p w = choose (inside_reads p w) (One p w) cut alone
  where
    cut : Inside p w → One p w (left p w ∷ right p w ∷ [])
    cut i = record {
      from = λ v m. in_cons (Piece (p ∷ []) w) l (λ u n. in_one (Piece (p ∷ []) w) r n) m;
      clean = λ v m. in_cons (λ u. Inside p u → ⊥) (λ j. omega (arith, j.to)) (λ u n. in_one (λ x. Inside p x → ⊥) (λ j. omega (arith, j.from)) n) m;
      cover = λ q o. ⊎_elim
          (λ (x : along w.vertical q ≤ along w.vertical p). (left p w, ∈-head refl, record { line = o.line; from = o.from; to = x }))
          (λ (x : along w.vertical q ≤ along w.vertical p → ⊥). (right p w, ∈-tail (∈-head refl), record { line = o.line; from = omega arith; to = o.to }))
          (decide (leb_reads (along w.vertical q) (along w.vertical p)));
      span = λ a x y. ⊎_elim
          (λ (z : a < along w.vertical p). (left p w, ∈-head refl, (x, z)))
          (λ (z : a < along w.vertical p → ⊥). (right p w, ∈-tail (∈-head refl), (omega arith, y)))
          (decide (ltb_reads a (along w.vertical p)));
      order = more (λ u n. in_one (Before (left p w)) next n) rows_one;
    }
      where
        next : Before (left p w) (right p w)
        next = same_line refl refl (omega arith)

        l : Piece (p ∷ []) w (left p w)
        l = record { within = record { dir = refl; line = refl; from = omega arith; to = omega (arith, i.to) }; tip = tip; fits = λ f. record { line = f.line; long = i.from; end = omega (arith, i.to, f.end) } }
          where
            tip : (s : Side) → (at s (left p w) ≡ at s w) ⊎ Cut (p ∷ []) w (at s (left p w))
            tip low = inl refl
            tip high = inr (p, ∈-head refl, i, refl)

        r : Piece (p ∷ []) w (right p w)
        r = record { within = record { dir = refl; line = refl; from = omega (arith, i.from); to = omega arith }; tip = tip; fits = λ f. record { line = f.line; long = i.to; end = f.end } }
          where
            tip : (s : Side) → (at s (right p w) ≡ at s w) ⊎ Cut (p ∷ []) w (at s (right p w))
            tip low = inr (p, ∈-head refl, i, refl)
            tip high = inl refl

    alone : (Inside p w → ⊥) → One p w (w ∷ [])
    alone f = record {
      from = λ v m. in_one (Piece (p ∷ []) w) entire m;
      clean = λ v m. in_one (λ x. Inside p x → ⊥) f m;
      cover = λ q o. (w, ∈-head refl, o);
      span = λ a x y. (w, ∈-head refl, (x, y));
      order = rows_one;
    }

-- a point that is not inside leaves the wire alone
pub one_none : (p : Point) {w : Wire} → (Inside p w → ⊥) → split_one p w ≡ w ∷ []
unfolding split_one
one_none p {w} f = choose (inside_reads p w) (λ l. l ≡ w ∷ []) (λ i. absurd (f i)) (λ n. refl)
