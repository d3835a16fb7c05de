-- For the loop that takes the lines of a chunk: `start`, `on_line`, `on_more`, and the two ways out, `full` and `at_end`.
use mathlib.Core.Path.{◌≡◌, refl, ◌∙◌}
use mathlib.Core.List.{List, []}
use Prim.Native.Nat.{ℕ, ◌+◌, ◌≤◌, ◌<◌}
use native.Mathlib.Omega.{arith}
use lib.ListN.{length, take}
use Rattle.sheet.specs.declared.Drawing.{Drawing}
use Rattle.sheet.specs.Rules.{Lawful}
use Rattle.lines.specs.declared.Cut.{Cut}
use Rattle.lines.specs.declared.Cut.TheVariants.{Line, More}
use Rattle.lines.specs.Chunks.{Next, CutFits}
use Rattle.lines.proofs.Running.{Running, start as run_start, on_line as run_line, on_more as run_more}
use Rattle.lines.proofs.Runs.{run_end}
use Rattle.step.specs.Scripts.{progress, and_then}
use Rattle.panel_list.specs.declared.answers.Answered.{Answered}
use Rattle.panel_list.specs.Printing.{Prints, Takes}

module _ (chunk held₀ : List ℕ) (begun : ℕ) (d₀ : Drawing) where
  pub record Going (held : List ℕ) (at count : ℕ) (d : Drawing) (used : ℕ) (out : List ℕ) : Type 0 where
    pub running : Running and_then chunk held₀ begun (progress d₀ []) held at count (progress d (take used out))
    pub lawful : Lawful d
    pub fits : used ≤ length out
    -- nothing is printed before the first line
    pub first : at ≡ 0 → used ≡ 0

  pub start : (out : List ℕ) → Lawful d₀ → begun ≤ 81 → Going held₀ 0 begun d₀ 0 out
  start out l h = record { running = run_start and_then chunk held₀ begun (progress d₀ []) h; lawful = l; fits = omega arith; first = λ _. refl }

  module _ {held : List ℕ} {at count : ℕ} {d : Drawing} {used : ℕ} {out : List ℕ} (g : Going held at count d used out) where
    -- the way out at an index, if it is not the first
    stops : (0 < length chunk → 0 < at) → Takes d₀ chunk held₀ begun (record { drawing = d; at = at; count = count; used = used }) held out
    stops h = record { left = g.running.left; lawful = g.lawful; inside = g.running.inside; more = h; few = g.running.few; fits = g.fits }

    pub full : length out < used + 8192 → 8192 ≤ length out → Takes d₀ chunk held₀ begun (record { drawing = d; at = at; count = count; used = used }) held out
    full h k = stops (λ _. not_first (λ e. omega (arith, g.first e)))
      where
        not_first : {n : ℕ} → (n ≡ 0 → ⊥) → 0 < n
        not_first {n} f = omega (arith, f)

    pub at_end : length chunk ≤ at → Takes d₀ chunk held₀ begun (record { drawing = d; at = at; count = count; used = used }) held out
    at_end h = stops (λ p. omega arith)

    module _ {a : Cut} {held' : List ℕ} (n : Next chunk at held count a held') where
      pub on_line : {k next : ℕ} {r : Answered} {out' : List ℕ} → a ≡ Line k next → Prints d (take k held') used out r out' → Going held' next 0 r.drawing r.used out'
      on_line {k} {next} e p =
          let w : CutFits at (length chunk) (Line k next) = (rw e at n).within in
          record { running = run_line and_then chunk held₀ begun (progress d₀ []) g.running n e p.told; lawful = p.lawful; fits = p.fits; first = λ z. absurd (omega (arith, w.1)) }

      -- no line ends in what is left of the chunk: it is all taken
      pub on_more : {k : ℕ} → a ≡ More k → at < length chunk → Going held' (length chunk) k d used out
      on_more {k} e h =
          let done = run_more and_then chunk held₀ begun (progress d₀ []) g.running n e in
          record {
            running = record { left = run_end and_then (progress d (take used out)) (take k held') chunk (length chunk) (omega arith) ∙ done.whole; inside = omega arith; few = done.few; long = done.long };
            lawful = g.lawful;
            fits = g.fits;
            first = λ z. absurd (omega arith);
          }
