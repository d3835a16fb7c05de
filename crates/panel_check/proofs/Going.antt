-- For the loop that takes the lines of a chunk: `start`, `on_line`, and the three ways out, `on_more`, `at_end` and, after a failed write,
-- `broken`.
use mathlib.Core.Path.{◌≡◌, sym, ap, subst, ◌∙◌}
use mathlib.Core.Bool.{true}
use mathlib.Core.List.{List, [], ◌++◌, append-nil, append_assoc}
use Prim.Native.Nat.{ℕ, ◌≤◌}
use native.Mathlib.Omega.{arith}
use lib.Dec.{T}
use lib.ListN.{length, take}
use Rattle.lines.specs.declared.Cut.{Cut}
use Rattle.lines.specs.declared.Cut.TheVariants.{Line, More}
use Rattle.lines.specs.Chunks.{Next}
use Rattle.lines.proofs.Running.{Running, start as run_start, at_end as run-at-end, on_line as run-on-line, on_more as run-on-more}
use Rattle.panel_check.specs.declared.State.{State}
use Rattle.panel_check.specs.Telling.{told_after}
use Rattle.panel_check.specs.Printing.{Spilled, none, told_so_far, Takes, Done}
use Rattle.panel_check.proofs.Standing.{spilled_both}

module _ (chunk held₀ : List ℕ) (begun : ℕ) (r₀ : State) (out₀ : List ℕ) where
  pub record Going (held : List ℕ) (at count : ℕ) (r : State) (out : List ℕ) : Type 0 where
    pub written : List ℕ
    pub spilled : Spilled written
    pub running : (before : List ℕ) → Running told_after chunk held₀ begun (told_so_far r₀ before out₀) held at count (told_so_far r (before ++ written) out)
    pub fits : r.used ≤ 65536

  pub start : r₀.used ≤ 65536 → begun ≤ 81 → Going held₀ 0 begun r₀ out₀
  start h few = record {
    written = [];
    spilled = none;
    running = λ before. subst (λ b. Running told_after chunk held₀ begun (told_so_far r₀ before out₀) held₀ 0 begun (told_so_far r₀ b out₀)) (sym (append-nil before)) (run_start told_after chunk held₀ begun (told_so_far r₀ before out₀) few);
    fits = h;
  }

  pub broken : {r q : State} {line out out' : List ℕ} (held : List ℕ) → Takes r line out q out' → q.failed ≡ true → Done r₀ chunk held₀ begun out₀ (record { run = q; count = 0 }) held out'
  broken held t f = record { written = []; spilled = none; whole = λ e. absurd (subst T (sym f ∙ e) tt); fits = t.fits; few = omega arith }

  module _ {held : List ℕ} {at count : ℕ} {r : State} {out : List ℕ} (g : Going held at count r out) where
    pub at_end : length chunk ≤ at → Done r₀ chunk held₀ begun out₀ (record { run = r; count = count }) held out
    at_end h = record {
      written = g.written;
      spilled = g.spilled;
      whole = λ _ before. (run-at-end told_after chunk held₀ begun (told_so_far r₀ before out₀) (g.running before) h).whole;
      fits = g.fits;
      few = (g.running []).few;
    }

    module _ {a : Cut} {held' : List ℕ} (n : Next chunk at held count a held') where
      pub on_line : {k next : ℕ} {q : State} {out' : List ℕ} → a ≡ Line k next → Takes r (take k held') out q out' → Going held' next 0 q out'
      on_line {k} {next} {q} {out'} e t = record {
        written = g.written ++ t.written;
        spilled = spilled_both g.spilled t.spilled;
        running = λ before.
            run-on-line told_after chunk held₀ begun (told_so_far r₀ before out₀) (g.running before) n e
            (ap (λ b. told_so_far q b out') (sym (append_assoc before g.written t.written)) ∙ t.told (before ++ g.written));
        fits = t.fits;
      }

      pub on_more : {k : ℕ} → a ≡ More k → Done r₀ chunk held₀ begun out₀ (record { run = r; count = k }) held' out
      on_more {k} e = record {
        written = g.written;
        spilled = g.spilled;
        whole = λ _ before. (run-on-more told_after chunk held₀ begun (told_so_far r₀ before out₀) (g.running before) n e).whole;
        fits = g.fits;
        few = (run-on-more told_after chunk held₀ begun (told_so_far r₀ [] out₀) (g.running []) n e).few;
      }
