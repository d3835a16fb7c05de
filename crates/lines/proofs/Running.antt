-- For a loop that takes a state through the lines that end in a chunk, by `next_line` and any step: what is left to run is always the
-- whole run. `start` where the loop begins, `on_line` and `on_more` by the answer of `next_line`, `at_end` where the chunk is used up.
use mathlib.Core.Path.{◌≡◌, refl, sym, ◌∙◌}
use mathlib.Core.List.{List}
use Prim.Native.Nat.{ℕ, ◌-◌, ◌<◌, ◌≤◌}
use native.Mathlib.Omega.{arith}
use lib.ListN.{length, take, drop}
use Rattle.lines.specs.declared.Cut.{Cut}
use Rattle.lines.specs.declared.Cut.TheVariants.{Line, More}
use Rattle.lines.specs.Chunks.{Next, CutFits}
use Rattle.lines.specs.Runs.{ran, through_chunk}
use Rattle.lines.proofs.Runs.{run_line, run_more, run_end}

module _ {S : Type 0} (step : S → List ℕ → S) (chunk held₀ : List ℕ) (count₀ : ℕ) (x₀ : S) where
  pub record Running (held : List ℕ) (at count : ℕ) (x : S) : Type 0 where
    pub left : through_chunk step x (take count held) (drop at chunk) ≡ through_chunk step x₀ (take count₀ held₀) chunk
    pub inside : at ≤ length chunk
    pub few : count ≤ 81
    pub long : length held ≡ length held₀

  -- the run of the chunk is done: the state, and the bytes held
  pub record Done (held : List ℕ) (count : ℕ) (x : S) : Type 0 where
    pub whole : ran x (take count held) ≡ through_chunk step x₀ (take count₀ held₀) chunk
    pub few : count ≤ 81
    pub long : length held ≡ length held₀

  pub start : count₀ ≤ 81 → Running held₀ 0 count₀ x₀
  start h = record { left = refl; inside = omega arith; few = h; long = refl }

  module _ {held : List ℕ} {at count : ℕ} {x : S} (r : Running held at count x) where
    pub at_end : length chunk ≤ at → Done held count x
    at_end h = record { whole = sym (run_end step x (take count held) chunk at h) ∙ r.left; few = r.few; long = r.long }

    module _ {a : Cut} {held' : List ℕ} (n : Next chunk at held count a held') where
      pub on_line : {k next : ℕ} {y : S} → a ≡ Line k next → y ≡ step x (take k held') → Running held' next 0 y
      on_line {k} {next} {y} e s =
          let w : CutFits at (length chunk) (Line k next) = (rw e at n).within in
          record {
            left = rw s (run_line step x (take count held) (drop at chunk) (rw e at n).told ∙ r.left);
            inside = w.2;
            few = omega arith;
            long = n.long ∙ r.long;
          }

      pub on_more : {k : ℕ} → a ≡ More k → Done held' k x
      on_more {k} e = record {
        whole = run_more step x (take count held) (drop at chunk) (rw e at n).told ∙ r.left;
        few = (rw e at n).within;
        long = n.long ∙ r.long;
      }

      -- the bytes of a line are there to be read, and less of the chunk is left
      pub line_there : {k next : ℕ} → a ≡ Line k next → 81 ≤ length held₀ → k ≤ length held'
      line_there {k} {next} e room = let w : CutFits at (length chunk) (Line k next) = (rw e at n).within in omega (arith, n.long, r.long)

      pub line_less : {k next : ℕ} → a ≡ Line k next → length chunk - next < length chunk - at
      line_less {k} {next} e = let w : CutFits at (length chunk) (Line k next) = (rw e at n).within in omega arith
