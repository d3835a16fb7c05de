-- What one answer and one line come to: `answers` for `answer`; `stays`, `ends` and `grows` for `take_line`.
use mathlib.Core.Path.{◌≡◌, sym, ap, subst, ◌∙◌}
use mathlib.Core.Bool.{Bool, true, false, not}
use mathlib.Core.Logic.{⊎_elim}
use mathlib.Core.List.{List, [], ◌++◌, append-nil, append_assoc}
use Prim.Native.Nat.{ℕ, ◌+◌, ◌<◌, ◌≤◌}
use native.Mathlib.Omega.{arith}
use lib.ListN.{length, take, drop, length-append}
use lib.Seq.{take_all, take-append-le, length-take-le}
use borrow.Author.Tests.{le-leb, lt-leb}
use Rattle.lists.proofs.Tests.{decide, leb_reads}
use Rattle.text.specs.Text.{Put}
use Rattle.text.proofs.Puts.{put_fits}
use Rattle.sheet.specs.declared.Drawing.{Drawing}
use Rattle.rules.specs.declared.Checked.{Checked}
use Rattle.rules.specs.Check.{check_of}
use Rattle.check_script.specs.Saying.{Said}
use Rattle.check_script.specs.Reading.{said_of}
use Rattle.sketch.specs.declared.Sketch.{Sketch}
use Rattle.sketch.specs.Sketches.{Added, empty_sketch, added_of}
use Rattle.panel_check.specs.declared.State.{State}
use Rattle.panel_check.specs.Answers.{verdict_line, is_end, next_number}
use Rattle.panel_check.specs.Telling.{verdict_of, told_after}
use Rattle.panel_check.specs.Printing.{Spilled, none, many, kept_of, Appended, Takes}

pub spilled_both : {v w : List ℕ} → Spilled v → Spilled w → Spilled (v ++ w)
spilled_both none s = s
spilled_both {v} {w} (many h) s = many {w = v ++ w} (omega (arith, length-append v w))

-- ---- one answer

-- bytes put within a buffer stand behind those in front of them
pub put_front : {old bs new : List ℕ} {at next : ℕ} → Put old at bs new next → next ≤ length old → take next new ≡ take at old ++ bs
put_front {old} {bs} {new} {at} {next} p h =
    let long : length (take at old ++ bs) ≡ next = omega (arith, length-append (take at old) bs, length-take-le at old (omega (arith, p.behind)), p.behind) in
    ap (take next) (put_fits p h) ∙ take-append-le next (take at old ++ bs) (drop next old) (omega arith) ∙ take_all next (take at old ++ bs) (omega arith)

pub kept_none : (used : ℕ) → 65500 < used → 0 ≡ kept_of used
kept_none used h = rw (lt-leb _ _ h)

pub kept_few : (used : ℕ) → kept_of used ≤ 65500
kept_few used = ⊎_elim (λ (le : used ≤ 65500). rw (le-leb _ _ le) le) (λ n. spill (omega arith)) (decide (leb_reads used 65500))
  where
    spill : 65500 < used → kept_of used ≤ 65500
    spill lt = let e : kept_of used ≡ 0 = rw (lt-leb _ _ lt) in omega (arith, e)

module _ {d : Drawing} {used : ℕ} {out : List ℕ} (h : used ≤ 65536) (long : length out ≡ 65536) where
  answers_kept : {n : ℕ} {out' : List ℕ} → Put out (kept_of used) (verdict_of d) out' n → n ≤ kept_of used + 36 → Appended d used out n out'
  answers_kept {n} {out'} p few = ⊎_elim short (λ k. spill (omega arith)) (decide (leb_reads used 65500))
    where
      short : used ≤ 65500 → Appended d used out n out'
      short le =
          let e : kept_of used ≡ used = rw (le-leb _ _ le) in
          let q : Put out used (verdict_of d) out' n = subst (λ k. Put out k (verdict_of d) out' n) e p in
          record { written = []; spilled = none; within = omega arith; all = put_front q (omega (arith, e)); fits = omega (arith, e) }

      spill : 65500 < used → Appended d used out n out'
      spill lt =
          let e : kept_of used ≡ 0 = rw (lt-leb _ _ lt) in
          let q : Put out 0 (verdict_of d) out' n = subst (λ k. Put out k (verdict_of d) out' n) e p in
          record {
            written = take used out;
            spilled = many {w = take used out} (omega (arith, length-take-le used out (omega arith)));
            within = omega (arith, length-take-le used out (omega arith));
            all = ap (λ l. take used out ++ l) (put_front q (omega (arith, e)));
            fits = omega (arith, e);
          }

  pub answers : {at n : ℕ} {k : Checked} {out' : List ℕ} → at ≡ kept_of used → k ≡ check_of d
      → Put out at (verdict_line k.rule k.first k.second) out' n × (n ≤ at + 36) → Appended d used out n out'
  answers {at} {n} {k} {out'} ea ek p =
      answers_kept
      (subst (λ a. Put out a (verdict_of d) out' n) ea (subst (λ (k : Checked). Put out at (verdict_line k.rule k.first k.second) out' n) ek p.0))
      (omega (arith, ea, p.1))

-- ---- one line

module _ {r : State} {line out : List ℕ} where
  pub stays : r.used ≤ 65536 → r.stopped ≡ true → Takes r line out r out
  unfolding told_after
  stays h e = record { written = []; spilled = none; told = λ before. rw (append-nil before, e); fits = h }

  module _ (going : r.stopped ≡ false) {number : ℕ} {what : Said} {t : Bool} (counted : number ≡ next_number r.lines) (reads : what ≡ said_of line) (is : t ≡ is_end what) where
    pub ends : {n : ℕ} {f : Bool} {out' : List ℕ} {k : Sketch} → t ≡ true → Appended r.sketch.drawing r.used out n out' → k ≡ empty_sketch
        → Takes r line out (record { sketch = k; begun = false; lines = number; stopped = false; used = n; failed = f }) out'
    unfolding told_after
    ends {n} {f} {out'} {k} there a ek =
        let e : is_end (said_of line) ≡ true = sym (is ∙ ap is_end reads) ∙ there in
        record {
          written = a.written;
          spilled = a.spilled;
          told = λ before.
              let all : (before ++ a.written) ++ take n out' ≡ (before ++ take r.used out) ++ verdict_of r.sketch.drawing =
              append_assoc before a.written (take n out') ∙ ap (λ l. before ++ l) a.all ∙ sym (append_assoc before (take r.used out) (verdict_of r.sketch.drawing)) in
              rw (going, e) (λ i. record { sketch = ek i; begun = false; lines = counted i; stopped = false; answers = all i });
          fits = a.fits;
        }

    pub grows : {a : Added} → r.used ≤ 65536 → t ≡ false → a ≡ added_of r.sketch line what
        → Takes r line out (record { sketch = a.sketch; begun = true; lines = number; stopped = not a.held; used = r.used; failed = r.failed }) out
    unfolding told_after
    grows {a} h there ea =
        let e : is_end (said_of line) ≡ false = sym (is ∙ ap is_end reads) ∙ there in
        let added : a ≡ added_of r.sketch line (said_of line) = ea ∙ ap (added_of r.sketch line) reads in
        record {
          written = [];
          spilled = none;
          told = λ before. rw (going, e) (λ i. record { sketch = (added i).sketch; begun = true; lines = counted i; stopped = not (added i).held; answers = append-nil before i ++ take r.used out });
          fits = h;
        }
