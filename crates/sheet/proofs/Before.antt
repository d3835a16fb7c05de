-- The row order of wires: no shared length and rising rows at once.
use Prim.Native.Nat.{◌≤◌, ◌<◌}
use mathlib.Core.Bool.{Bool, true, false, cond, not}
use mathlib.Core.List.Memᴰ.{head as ∈-head}
use mathlib.Core.List.Memᴰ.{not-nil as ∈-nil}
use mathlib.Core.List.Memᴰ.{tail as ∈-tail}
use mathlib.Core.List.{List}
use mathlib.Core.Path.{◌≡◌, refl, sym, subst, ◌∙◌}
use mathlib.Core.Logic.{⊎_elim, ◌⊎◌, inl, inr}
use native.Mathlib.Omega.{arith}
use Rattle.lists.specs.Lists.{◌∈◌, insert, Rows, none, more}
use Rattle.lists.proofs.Adjacent.{Adjacent, empty, single, link}
use Rattle.lists.proofs.Tests.{eqb_reads, leb_reads, ltb_reads, clash, beq_reads, Reads, pass, fail}
use Rattle.lists.proofs.Lists.{in_cons, in_one}
use Rattle.lists.proofs.Order.{rows_two, rows_all, rows_insert, rows_ext}
use Rattle.symbol.specs.declared.Point.{Point}
use Rattle.sheet.specs.declared.Wire.{Wire}
use Rattle.sheet.specs.Geometry.{EndAt, first, Inside, Follows, Before, turned, next_line, same_line}
use Rattle.sheet.specs.Wiring.{AllFit, Fits}
use Rattle.sheet.proofs.Geometry.{On, same_dir, end_on, inside_end}

-- two wires of one line: the first ends before the second starts
pub before_line : {a b : Wire} → Before a b → a.vertical ≡ b.vertical → a.line ≡ b.line → a.end ≤ b.start
before_line (turned e f) d l = absurd (clash f (sym d ∙ e))
before_line (next_line e f) d l = omega arith
before_line (same_line e f g) d l = g

pub before_trans : {a b c : Wire} → Fits b → Before a b → Before b c → Before a c
before_trans l (turned e f) (turned g h) = absurd (clash f g)
before_trans l (turned e f) (next_line g h) = turned e (sym g ∙ f)
before_trans l (turned e f) (same_line g h k) = turned e (sym g ∙ f)
before_trans l (next_line e f) (turned g h) = turned (e ∙ g) h
before_trans l (next_line e f) (next_line g h) = next_line (e ∙ g) (omega arith)
before_trans l (next_line e f) (same_line g h k) = next_line (e ∙ g) (omega arith)
before_trans l (same_line e f i) (turned g h) = turned (e ∙ g) h
before_trans l (same_line e f i) (next_line g h) = next_line (e ∙ g) (omega arith)
before_trans l (same_line e f i) (same_line g h k) = same_line (e ∙ g) (omega arith) (omega (arith, l.long))

pub before_asym : {a b : Wire} → Fits a → Fits b → Before a b → Before b a → ⊥
before_asym {a} k l p q = self (before_trans l p q)
  where
    self : Before a a → ⊥
    self (turned e f) = clash f e
    self (next_line e f) = omega arith
    self (same_line e f g) = omega (arith, k.long)

-- only the direction, the line and the end of what stands before count, and the start of what stands behind
pub before_like : {a b a' b' : Wire} → a'.vertical ≡ a.vertical → a'.line ≡ a.line → a'.end ≤ a.end → b'.vertical ≡ b.vertical → b'.line ≡ b.line → b.start ≤ b'.start → Before a b → Before a' b'
before_like p q r p' q' r' (turned e f) = turned (p ∙ e) (p' ∙ f)
before_like p q r p' q' r' (next_line e f) = next_line (p ∙ e ∙ sym p') (omega arith)
before_like p q r p' q' r' (same_line e f g) = same_line (p ∙ e ∙ sym p') (q ∙ f ∙ sym q') (omega arith)

-- what stands between two wires of one line is of that line
pub between : {a b c : Wire} → Before a b → Before b c → a.vertical ≡ c.vertical → a.line ≡ c.line → (a.vertical ≡ b.vertical) × (a.line ≡ b.line)
between (turned e f) (turned e' f') d l = absurd (clash f e')
between (turned e f) (next_line e' f') d l = absurd (clash f (e' ∙ sym d ∙ e))
between (turned e f) (same_line e' f' g') d l = absurd (clash f (e' ∙ sym d ∙ e))
between (next_line e f) (turned e' f') d l = absurd (clash f' (sym d ∙ e ∙ e'))
between (next_line e f) (next_line e' f') d l = absurd (omega arith)
between (next_line e f) (same_line e' f' g') d l = absurd (omega arith)
between (same_line e f g) (turned e' f') d l = (e, f)
between (same_line e f g) (next_line e' f') d l = (e, f)
between (same_line e f g) (same_line e' f' g') d l = (e, f)

-- two rows stand in the one order or the other
abbrev pub Apart : Wire → Wire → Type 0
Apart a b = Before a b ⊎ Before b a

pub turned_apart : {a b : Wire} → a.vertical ≡ not b.vertical → Apart a b
turned_apart {a} {b} e = go b.vertical refl e
  where
    go : (d : Bool) → b.vertical ≡ d → a.vertical ≡ not d → Apart a b
    go true f g = inl (turned g f)
    go false f g = inr (turned f g)

-- wires in order that share a point share only an end
pub no_share : {p : Point} {a b : Wire} → Apart a b → a.vertical ≡ b.vertical → Inside p a → On p b → ⊥
no_share {p} {a} {b} x d i o =
    let s = same_dir d p in
    let l : a.line ≡ b.line = omega (arith, i.line, o.line) in
    ⊎_elim
    (λ (h : Before a b). omega (arith, before_line h d l, i.to, o.from))
    (λ (h : Before b a). omega (arith, before_line h (sym d) (sym l), i.from, o.to))
    x

-- no end of a wire lies inside another one of its direction
pub ends_apart : {ws : List Wire} → Rows Before ws → AllFit ws → {v w : Wire} → v ∈ ws → w ∈ ws → v.vertical ≡ w.vertical → {p : Point} → EndAt p v → Inside p w → ⊥
ends_apart o fits {v} {w} m n d {p} e i = ⊎_elim
    (λ (f : v ≡ w). inside_end e.1 (subst (Inside p) (sym f) i))
    (λ (x : Apart v w). no_share (⊎_elim inr inl x) (sym d) i (end_on (fits v m) e.1))
    (rows_two o m n)

-- rows of wires are told by what is among them
pub wires_ext : {vs ws : List Wire} → Rows Before vs → Rows Before ws → AllFit vs → ((w : Wire) → w ∈ vs → w ∈ ws) → ((w : Wire) → w ∈ ws → w ∈ vs) → vs ≡ ws
wires_ext r s k f g = rows_ext {R = λ a b. Fits a × Fits b × Before a b} (λ a b p q. before_asym p.0 p.1 p.2 q.2)
    (rows_all r (λ a b m n t. (k a m, k b n, t))) (rows_all s (λ a b m n t. (k a (g a m), k b (g b n), t))) f g

-- ---- the test of the row order, and insertion by it

-- of two wires that are apart
pub first_reads : {a b : Wire} → Fits a → Fits b → Apart a b → Reads (Before a b) (first a b)
unfolding first
first_reads {a} {b} la lb o = go (beq_reads a.vertical b.vertical) (eqb_reads a.line b.line) (leb_reads a.start b.start) (ltb_reads a.line b.line) o
  where
    neither : Before b a → Before a b → ⊥
    neither x y = before_asym la lb y x

    flip : {d : Bool} → a.vertical ≡ d → Reads (Before a b) (not d) → Reads (Before a b) (not a.vertical)
    flip e r = subst (λ (x : Bool). Reads (Before a b) (not x)) (sym e) r

    go : {x y z t : Bool} → Reads (a.vertical ≡ b.vertical) x → Reads (a.line ≡ b.line) y → Reads (a.start ≤ b.start) z → Reads (a.line < b.line) t → Apart a b → Reads (Before a b) (cond x (cond y z t) (not a.vertical))
    go (pass d) (pass l) (pass s) t (inl h) = pass h
    go (pass d) (pass l) (fail s) t (inl h) = absurd (s (omega (arith, before_line h d l, la.long)))
    go (pass d) (fail l) z (pass t) (inl h) = pass h
    go (pass d) (fail l) z (fail t) (inl (turned e f)) = absurd (clash f (sym d ∙ e))
    go (pass d) (fail l) z (fail t) (inl (next_line e f)) = absurd (t f)
    go (pass d) (fail l) z (fail t) (inl (same_line e f g)) = absurd (l f)
    go (fail d) y z t (inl (turned e f)) = flip e (pass (turned e f))
    go (fail d) y z t (inl (next_line e f)) = absurd (d e)
    go (fail d) y z t (inl (same_line e f g)) = absurd (d e)
    go (pass d) (pass l) (pass s) t (inr h) = absurd (omega (arith, before_line h (sym d) (sym l), lb.long))
    go (pass d) (pass l) (fail s) t (inr h) = fail (neither h)
    go (pass d) (fail l) z (pass t) (inr (turned e f)) = absurd (clash f (d ∙ e))
    go (pass d) (fail l) z (pass t) (inr (next_line e f)) = absurd (omega arith)
    go (pass d) (fail l) z (pass t) (inr (same_line e f g)) = absurd (l (sym f))
    go (pass d) (fail l) z (fail t) (inr h) = fail (neither h)
    go (fail d) y z t (inr (turned e f)) = flip f (fail (neither (turned e f)))
    go (fail d) y z t (inr (next_line e f)) = absurd (d (sym e))
    go (fail d) y z t (inr (same_line e f g)) = absurd (d (sym e))

pub insert_order : {w : Wire} {ws : List Wire} → Fits w → AllFit ws → ((v : Wire) → v ∈ ws → Apart w v) → Rows Before ws → Rows Before (insert first w ws)
insert_order {w} f fs a o = rows_insert first w (λ v m. first_reads f (fs v m) (a v m)) o (λ v m p. p) (λ v u m n p q. before_trans (fs v m) p q) (λ v m n. ⊎_elim (λ (x : Before w v). absurd (n x)) (λ (x : Before v w). x) (a v m))

-- ---- only the next row can go on in line

follows_self : {a : Wire} → Fits a → Follows a a → ⊥
follows_self l f = omega (arith, l.long, f.end)

follows_back : {a b : Wire} → Fits a → Fits b → Before a b → Follows b a → ⊥
follows_back k l x f = omega (arith, before_line x (sym f.dir) (sym f.line), k.long, l.long, f.end)

follows_over : {a b c : Wire} → Fits b → Before a b → Before b c → Follows a c → ⊥
follows_over l x y f = let t = between x y f.dir f.line in omega (arith, before_line x t.0 t.1, before_line y (sym t.0 ∙ f.dir) (sym t.1 ∙ f.line), l.long, f.end)

pub follows_next : {R : Wire → Wire → Type 0} {ws : List Wire} → Rows Before ws → AllFit ws → Adjacent R ws → (a b : Wire) → a ∈ ws → b ∈ ws → Follows a b → R a b
follows_next {R} none fits empty a b m n = absurd (∈-nil m)
follows_next {R} (more {x} h none) fits single a b m n = in_one (λ a. Follows a b → R a b) (in_one (λ b. Follows x b → R x b) (λ f. absurd (follows_self (fits x (∈-head refl)) f)) n) m
follows_next {R} (more {x} h (more {x = y} {xs} k s)) fits (link p c) a b m n = in_cons (λ a. Follows a b → R a b)
    (in_cons (λ b. Follows x b → R x b) (λ f. absurd (follows_self (fits x (∈-head refl)) f))
    (λ z i. in_cons (λ b. Follows x b → R x b) (λ f. p) (λ w l f. absurd (follows_over (fits y (∈-tail (∈-head refl))) (h y (∈-head refl)) (k w l) f)) i) n)
    (λ z i. in_cons (λ b. Follows z b → R z b) (λ f. absurd (follows_back (fits x (∈-head refl)) (fits z (∈-tail i)) (h z i) f)) (λ w l. follows_next (more k s) (λ v j. fits v (∈-tail j)) c z w i l) n) m
