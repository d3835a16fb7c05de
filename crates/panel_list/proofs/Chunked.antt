-- For the loop that takes a chunk part by part: `start`, `on`, and `at_end`.
use mathlib.Core.Path.{◌≡◌, refl, sym, ap, subst, ◌∙◌}
use mathlib.Core.Bool.{Bool, false}
use mathlib.Core.List.{List, [], ◌++◌, append_assoc, append-nil}
use Prim.Native.Nat.{ℕ, ◌+◌, ◌-◌, ◌≤◌, ◌<◌}
use native.Mathlib.Omega.{arith}
use lib.ListN.{length, take, drop, length-drop}
use lib.Seq.{take_all, drop-drop}
use Rattle.sheet.specs.declared.Drawing.{Drawing}
use Rattle.sheet.specs.Rules.{Lawful}
use Rattle.lines.specs.Runs.{through_chunk}
use Rattle.lines.proofs.Runs.{run_end}
use Rattle.step.specs.Scripts.{progress, and_then}
use Rattle.panel_list.specs.declared.answers.Taken.{Taken}
use Rattle.streams.specs.Sums.{sum_of}
use Rattle.panel_list.specs.Printing.{Takes, Done}
use Rattle.streams.proofs.Sums.{sum_append}
use Rattle.panel_list.proofs.Shifted.{shift, shifted}

module _ (chunk held₀ : List ℕ) (d₀ : Drawing) (begun sum₀ : ℕ) where
  pub record Chunked (held : List ℕ) (at count : ℕ) (d : Drawing) (sum : ℕ) : Type 0 where
    pub output : List ℕ
    pub summed : sum ≡ sum_of sum₀ output
    pub left : (before : List ℕ) → through_chunk and_then (progress d (before ++ output)) (take count held) (drop at chunk) ≡ through_chunk and_then (progress d₀ before) (take begun held₀) chunk
    pub lawful : Lawful d
    pub inside : at ≤ length chunk
    pub few : count ≤ 81

  pub start : Lawful d₀ → begun ≤ 81 → Chunked held₀ 0 begun d₀ sum₀
  start l h = record {
    output = [];
    summed = unfold sum_of in refl;
    left = λ before. ap (λ o. through_chunk and_then (progress d₀ o) (take begun held₀) chunk) (append-nil before);
    lawful = l;
    inside = omega arith;
    few = h;
  }

  module _ {held : List ℕ} {at count : ℕ} {d : Drawing} {sum : ℕ} (g : Chunked held at count d sum) where
    -- the way out: at the chunk's end, or after a write that failed
    pub at_end : (failed : Bool) → (failed ≡ false → length chunk ≤ at) → Done d₀ begun sum₀ chunk held₀ (record { drawing = d; count = count; sum = sum; failed = failed }) held
    at_end failed h = record {
      output = g.output;
      summed = g.summed;
      whole = λ e before. sym (run_end and_then (progress d (before ++ g.output)) (take count held) chunk at (h e)) ∙ g.left before;
      lawful = g.lawful;
      few = g.few;
    }

    -- the rest of the chunk, as it is lent
    rest : take (length chunk - at) (drop at chunk) ≡ drop at chunk
    rest = take_all (length chunk - at) (drop at chunk) (omega (arith, length-drop at chunk))

    module _ {r : Taken} {held' out' : List ℕ} (t : Takes d (take (length chunk - at) (drop at chunk)) held count r held' out') where
      goes_on : Takes d (drop at chunk) held count r held' out'
      goes_on = subst (λ c. Takes d c held count r held' out') rest t

      -- what is left behind the part, with anything printed before it
      onward : (before : List ℕ) → through_chunk and_then (progress r.drawing (before ++ take r.used out')) (take r.count held') (drop (at + r.at) chunk) ≡ through_chunk and_then (progress d before) (take count held) (drop at chunk)
      onward before =
          ap (λ s. through_chunk and_then (progress r.drawing (before ++ take r.used out')) (take r.count held') s) (sym (drop-drop r.at at chunk))
          ∙ shifted before r.drawing (take r.used out') (take r.count held') (drop r.at (drop at chunk))
          ∙ ap (shift before) goes_on.left
          ∙ sym (shifted before d [] (take count held) (drop at chunk))
          ∙ ap (λ o. through_chunk and_then (progress d o) (take count held) (drop at chunk)) (append-nil before)

      pub reached : at + r.at ≤ length chunk
      reached = omega (arith, goes_on.inside, length-drop at chunk, g.inside)

      -- and its print handed over
      pub on : {sum' : ℕ} → sum' ≡ sum_of sum (take r.used out') → Chunked held' (at + r.at) r.count r.drawing sum'
      on e =
          let u = goes_on in
          record {
            output = g.output ++ take r.used out';
            summed = e ∙ ap (λ s. sum_of s (take r.used out')) g.summed ∙ sym (sum_append sum₀ g.output (take r.used out'));
            left = λ before.
                ap (λ o. through_chunk and_then (progress r.drawing o) (take r.count held') (drop (at + r.at) chunk)) (sym (append_assoc before g.output (take r.used out')))
                ∙ onward (before ++ g.output) ∙ g.left before;
            lawful = u.lawful;
            inside = reached;
            few = u.few;
          }

      -- and less is left
      pub less : at < length chunk → length chunk - (at + r.at) < length chunk - at
      less h = let u = goes_on in omega (arith, u.more (omega (arith, length-drop at chunk)), u.inside, length-drop at chunk)
