-- A run over chunks comes to the lines of the whole input, whatever the states and the step: `in_chunks`. And the steps of a run, for
-- a loop over the lines that end in a chunk: `run_line`, `run_more`, `run_end`.
use mathlib.Core.Path.{◌≡◌, refl, sym, ap, ◌∙◌}
use mathlib.Core.Bool.{Bool, true, false, cond}
use mathlib.Core.List.{List, [], ◌∷◌, ◌++◌}
use Prim.Native.Nat.{ℕ, ◌≤◌}
use lib.Dec.{eqb}
use lib.ListN.{length, take, drop, drop_of_length-le}
use Rattle.lines.specs.Lines.{newline, lines_from, lines_of}
use Rattle.lines.specs.Chunks.{hold, Brought, line, more, bring}
use Rattle.lines.specs.Runs.{Ran, ran, through, through_chunk, next, chunks, joined, finish}
use Rattle.lines.proofs.Holding.{hold_take}

-- ---- for lists

-- two choices by one test
both : {A B : Type 0} (R : A → B → Type 0) (t : Bool) {a a' : A} {b b' : B} → R a b → R a' b' → R (cond t a a') (cond t b b')
both R true p q = p
both R false p q = q

module _ {S : Type 0} (step : S → List ℕ → S) where
  -- ---- a chunk, line by line

  abbrev after : S → Brought → Ran S
  after x (line l s) = through_chunk step (step x l) [] s
  after x (more held) = ran x held

  run_feed : (x : S) (held s : List ℕ) → through_chunk step x held s ≡ after x (bring held s)
  unfolding through_chunk bring
  run_feed x held [] = refl
  run_feed x held (b ∷ s) = both (λ r f. r ≡ after x f) (eqb b newline) refl (run_feed x (hold held b) s)

  pub run_line : (x : S) (held s : List ℕ) {l rest : List ℕ} → line l rest ≡ bring held s → through_chunk step (step x l) [] rest ≡ through_chunk step x held s
  run_line x held s e = ap (after x) e ∙ sym (run_feed x held s)

  pub run_more : (x : S) (held s : List ℕ) {held' : List ℕ} → more held' ≡ bring held s → ran x held' ≡ through_chunk step x held s
  run_more x held s e = ap (after x) e ∙ sym (run_feed x held s)

  pub run_end : (x : S) (held l : List ℕ) (i : ℕ) → length l ≤ i → through_chunk step x held (drop i l) ≡ ran x held
  unfolding through_chunk
  run_end x held l i h = rw (drop_of_length-le l h)

  -- ---- chunk after chunk

  run_append : (x : S) (held s t : List ℕ) → through_chunk step x held (s ++ t) ≡ next step (through_chunk step x held s) t
  unfolding through_chunk
  run_append x held [] t = refl
  run_append x held (b ∷ s) t = both (λ r q. r ≡ next step q t) (eqb b newline) (run_append (step x held) [] s t) (run_append x (hold held b) s t)

  chunks_are : (r : Ran S) (ss : List (List ℕ)) → chunks step r ss ≡ next step r (joined ss)
  unfolding chunks joined through_chunk
  chunks_are (ran x held) [] = refl
  chunks_are (ran x held) (s ∷ ss) = chunks_are (through_chunk step x held s) ss ∙ sym (run_append x held s (joined ss))

  -- and one chunk more
  pub chunks_more : (r : Ran S) (ss : List (List ℕ)) (s : List ℕ) → chunks step r (ss ++ (s ∷ [])) ≡ next step (chunks step r ss) s
  unfolding chunks
  chunks_more r [] s = refl
  chunks_more r (t ∷ ss) s = chunks_more (next step r t) ss s

  -- ---- the whole input, by a step that does not tell a line from its first 81 bytes

  module _ (same : (x : S) (l : List ℕ) → step x (take 81 l) ≡ step x l) where
    whole : (x : S) (begun s : List ℕ) → finish step (through_chunk step x (take 81 begun) s) ≡ through step x (lines_from begun s)
    unfolding through_chunk through lines_from
    whole x [] [] = refl
    whole x (c ∷ begun) [] = same x (c ∷ begun)
    whole x begun (b ∷ s) =
        both (λ r ls. finish step r ≡ through step x ls) (eqb b newline)
        (whole (step x (take 81 begun)) [] s ∙ ap (λ y. through step y (lines_from [] s)) (same x begun))
        (ap (λ held. finish step (through_chunk step x held s)) (hold_take begun b) ∙ whole x (begun ++ (b ∷ [])) s)

    pub in_chunks : (x : S) (ss : List (List ℕ)) → finish step (chunks step (ran x []) ss) ≡ through step x (lines_of (joined ss))
    unfolding lines_of
    in_chunks x ss = ap (finish step) (chunks_are (ran x []) ss) ∙ whole x [] (joined ss)
