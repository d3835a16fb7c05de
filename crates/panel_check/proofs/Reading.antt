-- For the loop that reads: `nothing` before the first chunk, `more` with each, `broken` where a read fails.
use mathlib.Core.Path.{◌≡◌, sym, ap, subst, ◌∙◌}
use mathlib.Core.Bool.{false}
use mathlib.Core.List.{List, [], ◌∷◌, ◌++◌}
use Prim.Native.Nat.{ℕ}
use native.Mathlib.Omega.{arith}
use lib.Dec.{T}
use Rattle.sketch.specs.declared.Sketch.{Sketch}
use Rattle.sketch.specs.Sketches.{empty_sketch}
use Rattle.lines.specs.Runs.{ran, next, chunks}
use Rattle.lines.proofs.Runs.{chunks_more}
use Rattle.panel_check.specs.declared.State.{State}
use Rattle.panel_check.specs.declared.Carried.{Carried}
use Rattle.panel_check.specs.Telling.{told_nothing, told_after}
use Rattle.panel_check.specs.Printing.{none, Done, after_failure, Read}
use Rattle.panel_check.proofs.Standing.{spilled_both}

pub nothing : {k : Sketch} (held out : List ℕ) → k ≡ empty_sketch → Read (record { run = record { sketch = k; begun = false; lines = 0; stopped = false; used = 0; failed = false }; count = 0 }) held out
nothing held out e = record {
  input = [];
  written = [];
  spilled = none;
  gives = λ _. unfold chunks in λ i. ran (record { sketch = sym e i; begun = false; lines = 0; stopped = false; answers = [] }) [];
  fits = omega arith;
  few = omega arith;
}

pub more : {p q : Carried} {chunk held held' out out' : List ℕ} → Read p held out → p.run.failed ≡ false → Done p.run chunk held p.count out q held' out' → Read q held' out'
more {chunk = chunk} g f n = record {
  input = g.input ++ (chunk ∷ []);
  written = g.written ++ n.written;
  spilled = spilled_both g.spilled n.spilled;
  gives = λ e. chunks_more told_after (ran told_nothing []) g.input chunk ∙ ap (λ x. next told_after x chunk) (g.gives f) ∙ sym (n.whole e g.written);
  fits = n.fits;
  few = n.few;
}

-- after a failure nothing is said but what was read before
pub broken : {r q : State} {count : ℕ} {held out : List ℕ} → Read (record { run = r; count = count }) held out → q ≡ after_failure r → Read (record { run = q; count = count }) held out
broken {count = count} {held} {out} g e =
    subst (λ q. Read (record { run = q; count = count }) held out) (sym e)
    (record { input = g.input; written = g.written; spilled = g.spilled; gives = λ f. absurd (subst T f tt); fits = g.fits; few = g.few })
