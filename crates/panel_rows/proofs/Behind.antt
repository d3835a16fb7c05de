-- What stands behind an answer.
use mathlib.Core.Path.{◌≡◌}
use mathlib.Core.Bool.{Bool, true, false}
use mathlib.Core.List.{List, [], ◌∷◌}
use Prim.Native.Nat.{ℕ}
use native.Mathlib.Omega.{arith}
use Rattle.sheet.specs.declared.Drawing.{Drawing}
use Rattle.sheet.specs.declared.Tally.{Tally}
use Rattle.sheet.specs.Drawings.{lists_of, tally_of}
use Rattle.text.specs.Text.{Put}
use Rattle.text.proofs.Puts.{put_then}
use Rattle.dump.specs.Rows.{rows_of, Puts}
use Rattle.panel_rows.specs.Printing.{behind}

module _ (d : Drawing) {a c : List ℕ} {i k : ℕ} where
  pub list_behind : {list : Bool} {b : List ℕ} {j : ℕ} → list ≡ true → Put a i (46 ∷ []) b j → Put b j (10 ∷ []) c k → Puts 53296 a i (behind list d) c k
  unfolding behind
  list_behind e p q = rw e (record { put = put_then p q; short = omega arith })

  pub rows_behind : {list : Bool} {t : Tally} → list ≡ false → t ≡ tally_of (lists_of d) → Puts 53296 a i (rows_of t d) c k → Puts 53296 a i (behind list d) c k
  unfolding behind
  rows_behind e q p = rw e (rw q at p)
