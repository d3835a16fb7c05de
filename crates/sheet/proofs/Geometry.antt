-- Wire geometry: what the tests read, points and wires by their coordinates, ends and marks.
use Prim.Native.Nat.{ℕ, ◌≤◌}
use mathlib.Core.Bool.{Bool, true, false}
use mathlib.Core.List.Memᴰ.{append_cases as ∈-append}
use mathlib.Core.List.Memᴰ.{append_left as ∈-left}
use mathlib.Core.List.Memᴰ.{append_right as ∈-right}
use mathlib.Core.List.Memᴰ.{cases_cons as ∈-cases}
use mathlib.Core.List.Memᴰ.{eq_of_singleton as ∈-one}
use mathlib.Core.List.Memᴰ.{head as ∈-head}
use mathlib.Core.List.Memᴰ.{tail as ∈-tail}
use mathlib.Core.List.{List, [], ◌∷◌}
use mathlib.Core.Path.{◌≡◌, refl, sym, subst, ap, ◌∙◌}
use mathlib.Core.Logic.{⊎_elim, ◌⊎◌, inl, inr}
use native.Mathlib.Omega.{arith}
use Rattle.lists.specs.Lists.{◌∈◌}
use Rattle.lists.proofs.Tests.{decide, reads_as, and_reads, eqb_reads, leb_reads, ltb_reads, beq_reads, Reads}
use Rattle.lists.proofs.Lists.{gather_in, in_gather}
use Rattle.symbol.specs.declared.Point.{Point}
use Rattle.sheet.specs.declared.Wire.{Wire}
use Rattle.sheet.specs.Geometry.{along, across, point, at, tip, tips, ends, marks, EndAt, inside, on, meets, Ends, Inside, Meets, Side, low, high}
use Rattle.sheet.specs.Wiring.{Fits}

-- the other end
abbrev pub other : Side → Side
other low = high
other high = low

-- the point lies on the wire, both ends included
pub record On (p : Point) (w : Wire) : Type 0 where
  pub line : w.line ≡ across w.vertical p
  pub from : w.start ≤ along w.vertical p
  pub to : along w.vertical p ≤ w.end

-- ---- what the tests read

pub inside_reads : (p : Point) (w : Wire) → Reads (Inside p w) (inside p w)
unfolding inside
inside_reads p w =
    let m = along w.vertical p in
    reads_as (λ t. record { line = t.0; from = t.1.0; to = t.1.1 }, λ i. (i.line, (i.from, i.to))) (and_reads (eqb_reads w.line (across w.vertical p)) (and_reads (ltb_reads w.start m) (ltb_reads m w.end)))

pub on_reads : (p : Point) (w : Wire) → Reads (On p w) (on p w)
unfolding on
on_reads p w =
    let m = along w.vertical p in
    reads_as (λ t. record { line = t.0; from = t.1.0; to = t.1.1 }, λ i. (i.line, (i.from, i.to))) (and_reads (eqb_reads w.line (across w.vertical p)) (and_reads (leb_reads w.start m) (leb_reads m w.end)))

pub meets_reads : (n w : Wire) → Reads (Meets n w) (meets n w)
unfolding meets
meets_reads n w =
    reads_as (λ t. record { dir = t.0; line = t.1.0; from = t.1.1.0; to = t.1.1.1 }, λ i. (i.dir, (i.line, (i.from, i.to))))
    (and_reads (beq_reads n.vertical w.vertical) (and_reads (eqb_reads n.line w.line) (and_reads (leb_reads w.start n.end) (leb_reads n.start w.end))))

-- ---- points and wires, told by their coordinates

-- a direction by two names
pub same_dir : {d e : Bool} → d ≡ e → (p : Point) → (along d p ≡ along e p) × (across d p ≡ across e p)
same_dir e p = (ap (λ (b : Bool). along b p) e, ap (λ (b : Bool). across b p) e)

pub along_point : (d : Bool) (l m : ℕ) → along d (point d l m) ≡ m
along_point true l m = refl
along_point false l m = refl

pub across_point : (d : Bool) (l m : ℕ) → across d (point d l m) ≡ l
across_point true l m = refl
across_point false l m = refl

pub point_is : (d : Bool) (p q : Point) → across d p ≡ across d q → along d p ≡ along d q → p ≡ q
point_is true p q e f = λ i. record { x = e i; y = f i }
point_is false p q e f = λ i. record { x = f i; y = e i }

pub wire_is : {v w : Wire} → v.vertical ≡ w.vertical → v.line ≡ w.line → v.start ≡ w.start → v.end ≡ w.end → v ≡ w
wire_is a b c d = λ i. record { vertical = a i; line = b i; start = c i; end = d i }

-- ---- ends

-- the tip of a side is that end, and the only point that is
pub ends_at_lem : (s : Side) (w : Wire) → Ends s (tip s w) w
ends_at_lem s w = record { line = sym (across_point w.vertical w.line (at s w)); end = sym (along_point w.vertical w.line (at s w)) }

pub ends_is : {s : Side} {p : Point} {w : Wire} → Ends s p w → p ≡ tip s w
ends_is {s} {p} {w} e = let t = ends_at_lem s w in point_is w.vertical p (tip s w) (sym e.line ∙ t.line) (sym e.end ∙ t.end)

pub is_ends : (s : Side) {p : Point} {w : Wire} → p ≡ tip s w → Ends s p w
is_ends s {w = w} e = subst (λ q. Ends s q w) (sym e) (ends_at_lem s w)

pub end_on : {s : Side} {p : Point} {w : Wire} → Fits w → Ends s p w → On p w
end_on {s = low} f e = record { line = e.line; from = omega (arith, e.end); to = omega (arith, e.end) }
end_on {s = high} f e = record { line = e.line; from = omega (arith, e.end); to = omega (arith, e.end) }

pub inside_end : {s : Side} {p : Point} {w : Wire} → Ends s p w → Inside p w → ⊥
inside_end {s = low} e i = omega (arith, e.end)
inside_end {s = high} e i = omega (arith, e.end)

-- a point on a wire lies strictly inside or is an end
pub on_cases : {p : Point} {w : Wire} → On p w → Inside p w ⊎ EndAt p w
on_cases {p} {w} o = go (decide (eqb_reads w.start (along w.vertical p))) (decide (eqb_reads w.end (along w.vertical p)))
  where
    go : (w.start ≡ along w.vertical p) ⊎ (w.start ≡ along w.vertical p → ⊥) → (w.end ≡ along w.vertical p) ⊎ (w.end ≡ along w.vertical p → ⊥) → Inside p w ⊎ EndAt p w
    go (inl e) r = inr (low, record { line = o.line; end = e })
    go (inr f) (inl e) = inr (high, record { line = o.line; end = e })
    go (inr f) (inr g) = inl (record { line = o.line; from = omega arith; to = omega arith })

pub tips_in : {p : Point} {w : Wire} → p ∈ tips w → EndAt p w
tips_in {p} {w} m = ⊎_elim (λ (e : p ≡ tip low w). (low, is_ends low e)) (λ (k : p ∈ tip high w ∷ []). (high, is_ends high (∈-one k))) (∈-cases m)

pub in_tips : {s : Side} {p : Point} {w : Wire} → Ends s p w → p ∈ tips w
in_tips {s = low} e = ∈-head (ends_is e)
in_tips {s = high} e = ∈-tail (∈-head (ends_is e))

-- a wire of the list with an end at p
abbrev pub HasEnd : Point → List Wire → Type 0
HasEnd p ws = (w : Wire) × w ∈ ws × EndAt p w

pub ends_in : {p : Point} (ws : List Wire) → p ∈ ends ws → HasEnd p ws
unfolding ends
ends_in ws m = let r = gather_in tips ws m in (r.0, r.1, tips_in r.2)

pub in_ends : {p : Point} {ws : List Wire} → HasEnd p ws → p ∈ ends ws
unfolding ends
in_ends h = in_gather tips h.1 (in_tips h.2.1)

pub marks_in : {p : Point} (ws : List Wire) {ps : List Point} → p ∈ marks ws ps → HasEnd p ws ⊎ (p ∈ ps)
marks_in {p} ws {ps} m = ⊎_elim (λ (k : p ∈ ends ws). inl (ends_in ws k)) (λ (k : p ∈ ps). inr k) (∈-append (ends ws) m)

pub in_marks : {p : Point} {ws : List Wire} {ps : List Point} → HasEnd p ws ⊎ (p ∈ ps) → p ∈ marks ws ps
in_marks {ps = ps} (inl h) = ∈-left ps (in_ends h)
in_marks {ws = ws} (inr m) = ∈-right (ends ws) m
