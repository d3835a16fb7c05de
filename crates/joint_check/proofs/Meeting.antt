-- Points met at joint rows, one more at a time; rows that tell as much as was counted list the points.
use Prim.Native.Nat.{ℕ, ◌+◌, ◌≤◌, ◌<◌}
use native.Mathlib.Omega.{arith}
use mathlib.Core.List.Memᴰ.{append_cases as ∈-append}
use mathlib.Core.List.Memᴰ.{eq_of_singleton as ∈-one}
use mathlib.Core.List.Memᴰ.{not-nil as ∈-nil}
use mathlib.Core.List.Memᴰ.{of_map as ∈-of-map}
use mathlib.Core.List.{List, [], ◌∷◌, ◌++◌, map, map-append}
use mathlib.Core.Bool.{true, ◌&&◌, not}
use mathlib.Core.Logic.{⊎_elim, ◌≢◌}
use mathlib.Core.Path.{◌≡◌, refl, sym, ap, subst, ◌∙◌}
use lib.Dec.{T, eqb}
use lib.ListN.{length, get_or, set, take, replicate, get_or-replicate, length-replicate, length-set, length-map, length-take, get_or-map}
use lib.Seq.{take_all, get_or-set_same, get_or-set_other, get_or-take, length-take-le}
use Rattle.lists.specs.Lists.{◌∈◌, Rows}
use Rattle.lists.proofs.Tests.{holds, decide, choose, and_reads, not_reads, eqb_reads, compare}
use Rattle.lists.proofs.Order.{rows_all, rows_map}
use Rattle.lists.proofs.Passes.{take_more}
use Rattle.lists.proofs.Finding.{get_in, rows_at, table_index}
use Rattle.symbol.specs.declared.Point.{Point}
use Rattle.sheet.specs.declared.Joint.{Joint}
use Rattle.sheet.specs.Tables.{Joints}
use Rattle.sheet.specs.Points.{Rise}
use Rattle.sheet.specs.Joints.{joint_point, number, Rising}
use Rattle.sheet.specs.Rules.{Rule6}
use Rattle.sheet.specs.Drawings.{zero_joint, joint_rows}
use Rattle.sheet.proofs.Points.{same_reads, rise_self}
use Rattle.sheet.proofs.Numbers.{number_in, number_append, number_length}
use Rattle.chains.specs.Chains.{FoundAt}
use Rattle.chains.proofs.Chaining.{up_to}
use Rattle.joints.specs.Keys.{spot, KeysOf}
use Rattle.joint_check.specs.Meetings.{MetBy, CountsAgree}

-- the point at a place, and what is read where there is none
abbrev at : List Point → ℕ → Point
at qs k = get_or qs k (joint_point zero_joint)

-- ---- one point more

number_self : {p q : Point} → p ≡ q → number p (q ∷ []) ≡ 1
unfolding number
number_self {p} {q} e = choose (same_reads p q) (λ n. n ≡ 1) (λ t. refl) (λ n. absurd (n e))

number_other : {p q : Point} → p ≢ q → number p (q ∷ []) ≡ 0
unfolding number
number_other {p} {q} n = choose (same_reads p q) (λ k. k ≡ 0) (λ t. absurd (n t)) (λ f. refl)

-- at two places stand two points
apart : {qs : List Point} → Rows Rise qs → (k r : ℕ) → k < length qs → r < length qs → k ≢ r → at qs k ≢ at qs r
apart {qs} o k r a b n e = ⊎_elim
    (λ (l : k < r). rise_self (subst (Rise (at qs k)) (sym e) (rows_at o k r (joint_point zero_joint) l b)))
    (⊎_elim n (λ (l : r < k). rise_self (subst (Rise (at qs r)) e (rows_at o r k (joint_point zero_joint) l a))))
    (compare k r)

met_none : (qs : List Point) (n : ℕ) → length qs ≤ n → MetBy [] qs (replicate n 0)
unfolding number
met_none qs n h = record { met = λ p m. absurd (∈-nil m); at = λ k l. get_or-replicate {A = ℕ} n k 0 0 (omega arith) }

met_next : {ps qs : List Point} {counts : List ℕ} {p : Point} (r : ℕ) → MetBy ps qs counts → Rows Rise qs → r < length qs → length qs ≤ length counts → at qs r ≡ p → MetBy (ps ++ (p ∷ [])) qs (set counts r (get_or counts r 0 + 1))
met_next {ps} {qs} {counts} {p} r m o h room e = record {
  met = λ q n. ⊎_elim (m.met q) (λ (one : q ∈ p ∷ []). subst (λ x. x ∈ qs) (e ∙ sym (∈-one one)) (get_in qs r (joint_point zero_joint) h)) (∈-append ps n);
  at = λ k l. ⊎_elim
      (λ (a : k ≡ r). subst (λ (x : ℕ). get_or new x 0 ≡ number (at qs x) (ps ++ (p ∷ []))) (sym a) (omega (arith, m.at r h, get_or-set_same counts r (get_or counts r 0 + 1) 0 (omega arith), number_append (at qs r) ps (p ∷ []), number_self e)))
      (λ (n : k ≡ r → ⊥). omega (arith, m.at k l, get_or-set_other counts r k (get_or counts r 0 + 1) 0 n, number_append (at qs k) ps (p ∷ []), number_other (λ (f : at qs k ≡ p). apart o k r l h n (f ∙ sym e))))
      (decide (eqb_reads k r));
}
  where
    new : List ℕ
    new = set counts r (get_or counts r 0 + 1)

-- keys of rising rows
pub keys_rise : {js : List Joint} {keys : List ℕ} → Rising js → KeysOf js keys → Rows Rise (map spot (take (length js) keys))
keys_rise o ks = subst (Rows Rise) (sym ks.spots) (rows_map joint_point o)

-- ---- the first i keys, among the first n codes

pub record Meeting (codes : List ℕ) (n : ℕ) (rows : List ℕ) (i : ℕ) (counts : List ℕ) : Type 0 where
  pub size : length counts ≡ 1408
  pub so_far : MetBy (map spot (take i rows)) (map spot (take n codes)) counts

module _ (codes : List ℕ) (n : ℕ) (few : n ≤ 1408) (long : length codes ≡ 1408) where
  length_spots : length (map spot (take n codes)) ≡ n
  length_spots = length-map (take n codes) spot ∙ length-take-le n codes (omega arith)

  pub meeting_start : (rows : List ℕ) → Meeting codes n rows 0 (replicate 1408 0)
  meeting_start rows = record { size = length-replicate {A = ℕ} 1408 0; so_far = met_none (map spot (take n codes)) 1408 (omega (arith, length_spots)) }

  module _ {rows counts : List ℕ} {i : ℕ} (m : Meeting codes n rows i counts) (r : ℕ) (h : r < n) where
    -- a count is at most the number of keys
    pub meeting_few : get_or counts r 0 ≤ i
    meeting_few = omega (arith, m.so_far.at r (omega (arith, length_spots)), number_length (at (map spot (take n codes)) r) (map spot (take i rows)), length-map (take i rows) spot, length-take i rows)

    -- the next key is at place r
    pub meeting_next : {c : ℕ} → Rows Rise (map spot (take n codes)) → FoundAt c (take n codes) n r → c ≡ get_or rows i 0 → i < length rows → Meeting codes n rows (i + 1) (set counts r (get_or counts r 0 + 1))
    meeting_next {c} o p e a =
        let is : at (map spot (take n codes)) r ≡ spot (get_or rows i 0) = get_or-map spot (take n codes) r 0 ∙ ap spot (p.is h ∙ e) in
        let more : map spot (take (i + 1) rows) ≡ map spot (take i rows) ++ (spot (get_or rows i 0) ∷ []) = ap (map spot) (take_more rows i 0 a) ∙ map-append spot (take i rows) (get_or rows i 0 ∷ []) in
        record {
          size = length-set counts r (get_or counts r 0 + 1) ∙ m.size;
          so_far = subst (λ (ps : List Point). MetBy ps (map spot (take n codes)) (set counts r (get_or counts r 0 + 1))) (sym more)
              (met_next r m.so_far o (omega (arith, length_spots)) (omega (arith, length_spots, m.size)) is);
        }

-- the codes are the keys of points
pub meeting_end : {codes rows counts : List ℕ} {n i : ℕ} {qs : List Point} → Meeting codes n rows i counts → length rows ≤ i → map spot (take n codes) ≡ qs → MetBy (map spot rows) qs counts
meeting_end {rows = rows} {counts} {i = i} {qs} s e f = subst (λ (l : List ℕ). MetBy (map spot l) qs counts) (take_all i rows e) (subst (λ (l : List Point). MetBy (map spot (take i rows)) l counts) f s.so_far)

-- ---- what was counted and what the rows tell

pub agree_none : (rows : List Joint) (counts : List ℕ) → CountsAgree rows 0 counts
agree_none rows counts = record { met = λ k h. absurd (omega arith); same = λ k h. absurd (omega arith) }

-- the test of a row, passed
pub agree_told : (m k : ℕ) → (not (eqb m 0) && eqb m k) ≡ true → (m ≢ 0) × (m ≡ k)
agree_told m k e = holds (and_reads (not_reads (eqb_reads m 0)) (eqb_reads m k)) (subst T (sym e) tt)

pub agree_next : {rows : List Joint} {counts : List ℕ} {i : ℕ} → CountsAgree rows i counts → get_or counts i 0 ≢ 0 → get_or counts i 0 ≡ (get_or rows i zero_joint).count → CountsAgree rows (i + 1) counts
agree_next {rows} {counts} {i} g n e = record {
  met = up_to (λ j. get_or counts j 0 ≢ 0) g.met n;
  same = up_to (λ j. get_or counts j 0 ≡ (get_or rows j zero_joint).count) g.same e;
}

pub agree_end : {rows : List Joint} {counts : List ℕ} {i : ℕ} (n : ℕ) → CountsAgree rows i counts → i ≡ n → CountsAgree rows n counts
agree_end {rows} {counts} n g e = subst (λ (k : ℕ). CountsAgree rows k counts) e g

-- rows that rise, were met by all points, and tell what was counted, list the points
pub met_listed : (js : Joints) {ps : List Point} {counts : List ℕ} → js.count ≤ 1408 → length js.rows ≡ 1408 → Rising (joint_rows js) → MetBy ps (map joint_point (joint_rows js)) counts → CountsAgree js.rows js.count counts → Rule6 (joint_rows js) ps
met_listed js {ps} {counts} few long o m g = record {
  once = rows_all o (λ i j a b l e. rise_self (subst (Rise (joint_point i)) (sym e) l));
  all = λ p n. let t = ∈-of-map joint_point (joint_rows js) (m.met p n) in (t.0, t.1, t.2);
  only = λ j n. number_in (joint_point j) ps (let t = told j n in omega (arith, t.0, t.1));
  right = λ j n. (told j n).1;
}
  where
    told : (j : Joint) → j ∈ joint_rows js → (0 < j.count) × (j.count ≡ number (joint_point j) ps)
    told j n =
        let t = table_index js.rows js.count zero_joint n (omega arith) in
        let size : length (map joint_point (joint_rows js)) ≡ js.count = length-map (joint_rows js) joint_point ∙ length-take-le js.count js.rows (omega arith) in
        let is : at (map joint_point (joint_rows js)) t.0 ≡ joint_point (get_or js.rows t.0 zero_joint) = get_or-map joint_point (joint_rows js) t.0 zero_joint ∙ ap joint_point (get_or-take js.count js.rows t.0 zero_joint t.1) in
        subst (λ (i : Joint). (0 < i.count) × (i.count ≡ number (joint_point i) ps)) t.2
        (above (g.met t.0 t.1) (g.same t.0 t.1), sym (g.same t.0 t.1) ∙ m.at t.0 (omega (arith, t.1)) ∙ ap (λ (p : Point). number p ps) is)
      where
        above : {k n : ℕ} → k ≢ 0 → k ≡ n → 0 < n
        above f e = omega (arith, f, e)
