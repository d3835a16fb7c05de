-- The sum of what was printed so far, file by file.
use mathlib.Core.Path.{◌≡◌, refl, sym, ap, ◌∙◌}
use mathlib.Core.List.{List, [], ◌∷◌, ◌++◌, append-nil}
use Prim.Native.Nat.{ℕ}
use Rattle.std.specs.List.{flat_map}
use Rattle.lists.proofs.Appends.{gather_append}
use Rattle.streams.specs.Sums.{sum_of}
use Rattle.streams.proofs.Sums.{sum_append}
use Rattle.shown.specs.Shown.{shown_of}

pub record Summed (sum : ℕ) : Type 0 where
  pub files : List (List ℕ)
  pub is : sum ≡ sum_of 0 (flat_map shown_of files)

pub summed_none : Summed 0
unfolding sum_of
summed_none = record { files = []; is = refl }

pub summed_next : {sum next : ℕ} (file : List ℕ) → Summed sum → next ≡ sum_of sum (shown_of file) → Summed next
summed_next file s e = record {
  files = s.files ++ (file ∷ []);
  is = e ∙ ap (λ n. sum_of n (shown_of file)) s.is ∙ sym (sum_append 0 (flat_map shown_of s.files) (shown_of file))
      ∙ ap (sum_of 0) (ap (λ l. flat_map shown_of s.files ++ l) (sym (append-nil (shown_of file))) ∙ sym (gather_append shown_of s.files (file ∷ [])));
}
