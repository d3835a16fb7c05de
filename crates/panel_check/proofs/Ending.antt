-- The end of the input: `unreadable`, `answered` and `idle` for `tell`, `last_line` and `no_line` for `finish`, `printed` and `broken` for
-- `run`; and `at_once`: not too many answers are printed at once.
use mathlib.Core.Path.{◌≡◌, refl, sym, ap, subst, ◌∙◌}
use mathlib.Core.Bool.{Bool, true, false, cond}
use mathlib.Core.Logic.{⊎_elim}
use mathlib.Core.List.{List, [], ◌∷◌, ◌++◌, append-nil, append_assoc}
use Prim.Native.Nat.{ℕ, ◌<◌, ◌≤◌}
use native.Mathlib.Omega.{arith}
use lib.Dec.{T}
use lib.ListN.{length, take, length-append}
use lib.Seq.{take_all, length-take-le}
use Rattle.lists.proofs.Tests.{decide, leb_reads}
use Rattle.text.specs.Text.{Put}
use Rattle.check_script.specs.Saying.{Said, Unreadable}
use Rattle.check_script.specs.Reading.{said_of}
use Rattle.check_script.proofs.Lines.{said_81, too_long}
use Rattle.sketch.specs.Sketches.{not_held, added_of}
use Rattle.lines.specs.Lines.{lines_of}
use Rattle.lines.specs.Runs.{ran, joined, through, finish}
use Rattle.lines.proofs.Runs.{in_chunks}
use Rattle.panel_check.specs.declared.State.{State}
use Rattle.panel_check.specs.declared.Carried.{Carried}
use Rattle.panel_check.specs.declared.Waiting.{Waiting}
use Rattle.panel_check.specs.Answers.{unreadable_of, is_end}
use Rattle.panel_check.specs.Telling.{Told, told_nothing, verdict_of, ended, with_line, told_after, concluded, answers_of}
use Rattle.panel_check.specs.Printing.{Spilled, none, many, told_so_far, Appended, Takes, Read, Concludes, Printed}
use Rattle.panel_check.proofs.Standing.{spilled_both, put_front}

-- ---- the last words

module _ (r : State) (out : List ℕ) where
  pub unreadable : {n : ℕ} {out' : List ℕ} → length out ≡ 65536 → r.stopped ≡ true → Put out 0 (unreadable_of r.lines) out' n × (n ≤ 36) → Concludes (λ written. told_so_far r written out) n out'
  unfolding concluded
  unreadable long e p = record {
    written = [];
    spilled = none;
    within = λ before. omega (arith, length-append before [], length-append before (take r.used out));
    all = λ before. rw e (put_front p.0 (omega (arith, p.1)));
    fits = omega (arith, p.1);
  }

  module _ (going : r.stopped ≡ false) where
    pub answered : {n : ℕ} {out' : List ℕ} → r.used ≤ length out → r.begun ≡ true → Appended r.sketch.drawing r.used out n out' → Concludes (λ written. told_so_far r written out) n out'
    unfolding concluded
    answered {n} {out'} there e a = record {
      written = a.written;
      spilled = a.spilled;
      within = λ before. omega (arith, a.within, length-append before a.written, length-append before (take r.used out), length-take-le r.used out there);
      all = λ before.
          let all : (before ++ a.written) ++ take n out' ≡ (before ++ take r.used out) ++ verdict_of r.sketch.drawing =
          append_assoc before a.written (take n out') ∙ ap (λ l. before ++ l) a.all ∙ sym (append_assoc before (take r.used out) (verdict_of r.sketch.drawing)) in
          rw (going, e) all;
      fits = a.fits;
    }

    pub idle : r.used ≤ 65536 → r.begun ≡ false → Concludes (λ written. told_so_far r written out) r.used out
    unfolding concluded
    idle h e = record {
      written = [];
      spilled = none;
      within = λ before. omega (arith, length-append before [], length-append before (take r.used out));
      all = λ before.
          let all : (before ++ []) ++ take r.used out ≡ (before ++ take r.used out) ++ [] =
          ap (λ b. b ++ take r.used out) (append-nil before) ∙ sym (append-nil (before ++ take r.used out)) in
          rw (going, e) all;
      fits = h;
    }

-- ---- a last line

finish_some : (x : Told) (l : List ℕ) → 0 < length l → finish told_after (ran x l) ≡ told_after x l
finish_some x [] h = absurd (omega arith)
finish_some x (b ∷ l) h = refl

module _ (r : State) (held out : List ℕ) (count : ℕ) {n : ℕ} where
  pub last_line : (q : State) (out' : List ℕ) {out'' : List ℕ} → 0 < count → count ≤ length held → Takes r (take count held) out q out' → Concludes (λ written. told_so_far q written out') n out''
      → Concludes (λ written. finish told_after (ran (told_so_far r written out) (take count held))) n out''
  last_line q out' {out''} some there t e = record {
    written = t.written ++ e.written;
    spilled = spilled_both t.spilled e.spilled;
    within = λ before.
        let is : length ((before ++ t.written) ++ e.written) ≡ length (before ++ (t.written ++ e.written)) = ap length (append_assoc before t.written e.written) in
        omega (arith, is, e.within (before ++ t.written), ap (λ (x : Told). length x.answers) (same before));
    all = λ before.
        subst (λ (x : Told). cond x.stopped [] (before ++ (t.written ++ e.written)) ++ take n out'' ≡ concluded x) (same before)
        (subst (λ b. cond q.stopped [] b ++ take n out'' ≡ concluded (told_so_far q (before ++ t.written) out')) (append_assoc before t.written e.written) (e.all (before ++ t.written)));
    fits = e.fits;
  }
    where
      same : (before : List ℕ) → told_so_far q (before ++ t.written) out' ≡ finish told_after (ran (told_so_far r before out) (take count held))
      same before = t.told before ∙ sym (finish_some (told_so_far r before out) (take count held) (omega (arith, length-take-le count held there)))

  pub no_line : {out' : List ℕ} → count ≡ 0 → Concludes (λ written. told_so_far r written out) n out' → Concludes (λ written. finish told_after (ran (told_so_far r written out) (take count held))) n out'
  no_line {out'} z e = subst (λ k. Concludes (λ written. finish told_after (ran (told_so_far r written out) (take k held))) n out') (sym z) e

-- ---- the whole

-- a line that says nothing is not looked at further
after_unreadable : (t : Told) (l : List ℕ) → said_of l ≡ Unreadable → told_after t l ≡ cond t.stopped t (with_line t (not_held t.sketch))
unfolding told_after added_of
after_unreadable t l e = ap (λ (s : Said). cond t.stopped t (cond (is_end s) (ended t) (with_line t (added_of t.sketch l s)))) e

after_81 : (t : Told) (l : List ℕ) → told_after t (take 81 l) ≡ told_after t l
after_81 t l = ⊎_elim (λ (le : length l ≤ 80). ap (told_after t) (take_all 81 l (omega arith))) (λ n. long (omega arith)) (decide (leb_reads (length l) 80))
  where
    long : 80 < length l → told_after t (take 81 l) ≡ told_after t l
    long h = let e : said_of l ≡ Unreadable = too_long l h in after_unreadable t (take 81 l) (said_81 l ∙ e) ∙ sym (after_unreadable t l e)

whole : {q : Carried} {held out : List ℕ} (g : Read q held out) → q.run.failed ≡ false → finish told_after (ran (told_so_far q.run g.written out) (take q.count held)) ≡ through told_after told_nothing (lines_of (joined g.input))
whole g f = sym (ap (finish told_after) (g.gives f)) ∙ in_chunks told_after after_81 told_nothing g.input

module _ (q : Carried) (held out : List ℕ) (g : Read q held out) where
  pub printed : {out' : List ℕ} {w : Waiting} → q.run.failed ≡ false → Concludes (λ written. finish told_after (ran (told_so_far q.run written out) (take q.count held))) w.used out' → Printed w out'
  unfolding answers_of
  printed {out'} {w} f e = record {
    input = g.input;
    whole = λ _. record {
      written = g.written ++ e.written;
      spilled = spilled_both g.spilled e.spilled;
      within = subst (λ (x : Told). length (g.written ++ e.written) ≤ length x.answers) (whole g f) (e.within g.written);
      all = subst (λ (x : Told). cond x.stopped [] (g.written ++ e.written) ++ take w.used out' ≡ concluded x) (whole g f) (e.all g.written);
    };
    fits = e.fits;
  }

  -- something failed before the end
  pub broken : Printed (record { used = 0; failed = true }) out
  broken = record { input = g.input; whole = λ e. absurd (subst T e tt); fits = omega arith }

-- where nothing failed and the answers are not more than 65,500 bytes, the bytes that wait are all that is printed
pub at_once : {w : Waiting} {out : List ℕ} (p : Printed w out) → w.failed ≡ false → length (through told_after told_nothing (lines_of (joined p.input))).answers ≤ 65500 → take w.used out ≡ answers_of (joined p.input)
at_once {w} {out} p f few = go (p.whole f).spilled (p.whole f).within (p.whole f).all
  where
    stopped : Bool
    stopped = (through told_after told_nothing (lines_of (joined p.input))).stopped

    neither : (t : Bool) → cond t [] [] ++ take w.used out ≡ take w.used out
    neither true = refl
    neither false = refl

    go : {v : List ℕ} → Spilled v → length v ≤ length (through told_after told_nothing (lines_of (joined p.input))).answers → cond stopped [] v ++ take w.used out ≡ answers_of (joined p.input) → take w.used out ≡ answers_of (joined p.input)
    go none le all = sym (neither stopped) ∙ all
    go (many h) le all = absurd (omega arith)
