-- Marks as numbers: a mark is among others exactly when its number is, and what holds wires apart is one of two marks.
use Prim.Native.Nat.{ℕ, ◌+◌, ◌*◌, ◌<◌}
use native.Mathlib.Omega.{arith}
use mathlib.Core.Path.{◌≡◌, refl, sym, ap, ◌∙◌, subst}
use mathlib.Core.List.Memᴰ.{append_cases as ∈-append}
use mathlib.Core.List.Memᴰ.{head as ∈-head}
use mathlib.Core.List.Memᴰ.{not-nil as ∈-nil}
use mathlib.Core.List.Memᴰ.{tail as ∈-tail}
use mathlib.Core.List.{List, [], ◌∷◌, ◌++◌, map, append-nil, append_assoc}
use mathlib.Core.Logic.{⊎_elim}
use mathlib.Core.Bool.{Bool, true, false, ◌&&◌, ◌||◌, not, beq, or-false}
use lib.Dec.{eqb}
use lib.ListN.{length, length-replicate, length-set}
use Rattle.symbol.specs.declared.Point.{Point}
use Rattle.lists.specs.Lists.{◌∈◌}
use Rattle.std.specs.List.{list_any, flat_map}
use Rattle.lists.proofs.Tests.{reads_as, same_test, eqb_reads, and_reads}
use Rattle.lists.proofs.Appends.{any_append}
use Rattle.lists.proofs.Lists.{in_cons}
use Rattle.lists.proofs.Pushes.{take_push}
use Rattle.lists.specs.Tables.{pad}
use Rattle.lists.proofs.Tables.{length_snoc}
use Rattle.table.specs.Tables.{table_of, pushed}
use Rattle.lists.proofs.Somes.{any_as, any_never, any_gather, any_map}
use Rattle.sheet.specs.declared.Wire.{Wire}
use Rattle.sheet.specs.Points.{same}
use Rattle.sheet.specs.Geometry.{low, high, tip}
use Rattle.sheet.specs.Merge.{held_apart}
use Rattle.sheet.proofs.Points.{same_reads}
use Rattle.merge.specs.Numbers.{Numbers}
use Rattle.merge.specs.Codes.{Mark, kind_of, mark, end_marks, marks_with_kind, code_of, Codable, Coded, number_rows}

-- ---- the table of numbers

pub coded_none : Coded [] []
coded_none = record { are = refl; small = λ m k. absurd (∈-nil k) }

-- the number of a mark, where its kind and its point are known by other names
pub coded_as : {k l x : ℕ} {p q : Point} → (x ≡ code_of (mark k p)) × Codable (mark k p) → k ≡ l → p ≡ q → (x ≡ code_of (mark l q)) × Codable (mark l q)
coded_as {x = x} t e f = subst (λ (m : Mark). (x ≡ code_of m) × Codable m) (λ i. mark (e i) (f i)) t

map_append : (ms ns : List Mark) → map code_of (ms ++ ns) ≡ map code_of ms ++ map code_of ns
map_append [] ns = refl
map_append (m ∷ ms) ns = ap (λ (l : List ℕ). code_of m ∷ l) (map_append ms ns)

-- marks behind marks
coded_append : {ms ns : List Mark} {cs ds : List ℕ} → Coded ms cs → Coded ns ds → Coded (ms ++ ns) (cs ++ ds)
coded_append {ms} {ns} a b = record { are = (λ i. a.are i ++ b.are i) ∙ sym (map_append ms ns); small = λ m k. ⊎_elim (a.small m) (b.small m) (∈-append ms k) }

coded_more : {ms : List Mark} {cs : List ℕ} (a : Mark) {x : ℕ} → (x ≡ code_of a) × Codable a → Coded ms cs → Coded (a ∷ ms) (x ∷ cs)
coded_more a s c = record { are = λ i. s.0 i ∷ c.are i; small = λ m k. in_cons Codable s.1 c.small k }

-- one number more
pub coded_push : {ms : List Mark} (t : Numbers) {r : Numbers} {x : ℕ} (a : Mark) → Coded ms (number_rows t) → (x ≡ code_of a) × Codable a → t.count < length t.rows → r ≡ pushed x t → Coded (ms ++ (a ∷ [])) (number_rows r)
coded_push {ms} t {r} {x} a c s h e =
    subst (λ (u : Numbers). Coded (ms ++ (a ∷ [])) (number_rows u)) (sym e) (subst (Coded (ms ++ (a ∷ []))) (sym (take_push t.rows t.count x h)) (coded_append c (coded_more a s coded_none)))

-- t has 1,408 rows and its first are the numbers of the marks
pub record Listed (ms : List Mark) (t : Numbers) : Type 0 where
  pub size : length t.rows ≡ 1408
  pub count_is : t.count ≡ length ms
  pub coded : Coded ms (number_rows t)

pub listed_none : {t : Numbers} → t ≡ table_of 1408 0 [] → Listed [] t
unfolding pad
listed_none e = subst (Listed []) (sym e) (record { size = length-replicate {A = ℕ} 1408 0; count_is = refl; coded = coded_none })

pub listed_push : {ms : List Mark} {t r : Numbers} {x : ℕ} (a : Mark) → Listed ms t → (x ≡ code_of a) × Codable a → t.count < 1408 → r ≡ pushed x t → Listed (ms ++ (a ∷ [])) r
listed_push {ms} {t} {r} {x} a l s h e = record {
  size = ap (λ (u : Numbers). length u.rows) e ∙ length-set t.rows t.count x ∙ l.size;
  count_is = ap (λ (u : Numbers). u.count) e ∙ omega (arith, l.count_is, length_snoc ms a);
  coded = coded_push t a l.coded s (omega (arith, l.size)) e;
}

-- both ends of a wire
pub listed_two : {ms : List Mark} {t r q : Numbers} {x y : ℕ} (a b : Mark) → Listed ms t → (x ≡ code_of a) × Codable a → (y ≡ code_of b) × Codable b → t.count + 1 < 1408 → r ≡ pushed x t → q ≡ pushed y r → Listed (ms ++ (a ∷ b ∷ [])) q
listed_two {ms} {q = q} a b l s u h e f =
    let one = listed_push a l s (omega arith) e in
    subst (λ (m : List Mark). Listed m q) (append_assoc ms (a ∷ []) (b ∷ [])) (listed_push b one u (omega (arith, one.count_is, l.count_is, length_snoc ms a)) f)

-- ---- a mark among others

abbrev is : Mark → Mark → Bool
is a m = eqb a.kind m.kind && same a.point m.point

code_is : (a m : Mark) → Codable a → Codable m → eqb (code_of a) (code_of m) ≡ is a m
unfolding code_of
code_is a m s t = same_test (eqb_reads (code_of a) (code_of m)) (reads_as (to, from) (and_reads (eqb_reads a.kind m.kind) (same_reads a.point m.point)))
  where
    to : (a.kind ≡ m.kind) × (a.point ≡ m.point) → a.point.x + 65536 * a.point.y + 4294967296 * a.kind ≡ m.point.x + 65536 * m.point.y + 4294967296 * m.kind
    to (k, p) = λ i. (p i).x + 65536 * (p i).y + 4294967296 * k i

    from : a.point.x + 65536 * a.point.y + 4294967296 * a.kind ≡ m.point.x + 65536 * m.point.y + 4294967296 * m.kind → (a.kind ≡ m.kind) × (a.point ≡ m.point)
    from e =
        let k : a.kind ≡ m.kind = omega (arith, s.x, s.y, t.x, t.y) in
        let x : a.point.x ≡ m.point.x = omega (arith, s.x, s.y, t.x, t.y) in
        let y : a.point.y ≡ m.point.y = omega (arith, s.x, s.y, t.x, t.y) in
        (k, λ i. record { x = x i; y = y i })

any_code : (a : Mark) (ms : List Mark) → Codable a → ((m : Mark) → m ∈ ms → Codable m) → list_any (eqb (code_of a)) (map code_of ms) ≡ list_any (is a) ms
any_code a [] s h = refl
any_code a (m ∷ ms) s h = λ i. code_is a m s (h m (∈-head refl)) i || any_code a ms s (λ n k. h n (∈-tail k)) i

-- ---- what holds wires of a direction apart at a point

ends_is : (d : Bool) (p : Point) (w : Wire) → list_any (is (mark (kind_of d) p)) (end_marks w) ≡ (beq w.vertical d && (same p (tip low w) || same p (tip high w)))
ends_is d p w = step d w.vertical (same p (tip low w)) (same p (tip high w))
  where
    step : (d e x y : Bool) → ((eqb (kind_of d) (kind_of e) && x) || ((eqb (kind_of d) (kind_of e) && y) || false)) ≡ (beq e d && (x || y))
    step true true x y = ap (λ b. x || b) (or-false y)
    step true false x y = refl
    step false true x y = refl
    step false false x y = ap (λ b. x || b) (or-false y)

no_pad : (d : Bool) (p q : Point) → is (mark (kind_of d) p) (mark 2 q) ≡ false
no_pad true p q = refl
no_pad false p q = refl

no_end : (p : Point) (w : Wire) → list_any (is (mark 2 p)) (end_marks w) ≡ false
no_end p w = step w.vertical
  where
    step : (e : Bool) → ((eqb 2 (kind_of e) && same p (tip low w)) || ((eqb 2 (kind_of e) && same p (tip high w)) || false)) ≡ false
    step true = refl
    step false = refl

held_marks : (ws : List Wire) (ps : List Point) (d : Bool) (p : Point) → held_apart ws ps d p ≡ (list_any (is (mark (kind_of (not d)) p)) (marks_with_kind ws ps) || list_any (is (mark 2 p)) (marks_with_kind ws ps))
unfolding held_apart marks_with_kind
held_marks ws ps d p = λ i. sym crossed i || sym padded i
  where
    crossed : list_any (is (mark (kind_of (not d)) p)) (flat_map end_marks ws ++ map (mark 2) ps) ≡ list_any (λ w. beq w.vertical (not d) && (same p (tip low w) || same p (tip high w))) ws
    crossed =
        any_append (is (mark (kind_of (not d)) p)) (flat_map end_marks ws) (map (mark 2) ps)
        ∙ (λ i. (any_gather (is (mark (kind_of (not d)) p)) end_marks ws ∙ any_as (ends_is (not d) p) ws) i || (any_map (is (mark (kind_of (not d)) p)) (mark 2) ps ∙ any_never (no_pad (not d) p) ps) i)
        ∙ or-false _

    padded : list_any (is (mark 2 p)) (flat_map end_marks ws ++ map (mark 2) ps) ≡ list_any (same p) ps
    padded =
        any_append (is (mark 2 p)) (flat_map end_marks ws) (map (mark 2) ps)
        ∙ (λ i. (any_gather (is (mark 2 p)) end_marks ws ∙ any_never (no_end p) ws) i || any_map (is (mark 2 p)) (mark 2) ps i)

-- ---- both marks that can hold a wire at its high end, looked up

pub looked_up : (ws : List Wire) (ps : List Point) {cs : List ℕ} {a b : ℕ} {x y : Bool} (w : Wire) → Coded (marks_with_kind ws ps) cs
    → (a ≡ code_of (mark (kind_of (not w.vertical)) (tip high w))) × Codable (mark (kind_of (not w.vertical)) (tip high w)) → (b ≡ code_of (mark 2 (tip high w))) × Codable (mark 2 (tip high w))
    → x ≡ list_any (eqb a) cs → y ≡ list_any (eqb b) cs → (x || y) ≡ held_apart ws ps w.vertical (tip high w)
looked_up ws ps {cs} {a} {b} {x} {y} w c s t e f =
    (λ i. (e ∙ (λ j. list_any (eqb (s.0 j)) (c.are j)) ∙ any_code (mark (kind_of (not w.vertical)) (tip high w)) (marks_with_kind ws ps) s.1 c.small) i
    || (f ∙ (λ j. list_any (eqb (t.0 j)) (c.are j)) ∙ any_code (mark 2 (tip high w)) (marks_with_kind ws ps) t.1 c.small) i)
    ∙ sym (held_marks ws ps w.vertical (tip high w))
