-- Each drawing that is built is lawful.
use Prim.Native.Nat.{ℕ, zero, suc, ◌+◌, ◌*◌}
use native.Mathlib.Omega.{arith}
use mathlib.Core.List.{List}
use mathlib.Core.Path.{◌≡◌, refl, sym, ap, subst, ◌∙◌}
use borrow.Author.Tests.{eq-eqb, ne_eqb}
use lib.IntN.{ℤ}
use lib.ListN.{get_or}
use mir.Syntax.{w32}
use mir.Val.{SFits}
use Rattle.lists.proofs.Tests.{choose, eqb_reads}
use Rattle.sheet.specs.declared.Drawing.{Drawing}
use Rattle.sheet.specs.Drawings.{empty_sheet, drawn}
use Rattle.sheet.specs.Rules.{Lawful}
use Rattle.sheet.proofs.Edits.{empty_good}
use Rattle.sheet.proofs.Rules.{drawn_lawful}
use Rattle.asked.proofs.Handed.{bits, handed_three}
use Rattle.redraw.specs.declared.Edited.{Edited}
use Rattle.bench_calls.specs.Numbered.{edit_of}
use Rattle.bench_calls.specs.Timed.{even_tally, after_edit, number_at, built_by}
use Rattle.bench_calls.proofs.Numbers.{edit_accepted}

-- ---- one edit

module _ (what : ℕ) (x y z : ℤ) (d : Drawing) where
  module _ {e : Edited} (q : e ≡ edit_of what x y z d (even_tally 0)) where
    same_reply : e.reply ≡ (edit_of what x y z d (even_tally 0)).reply
    same_reply = ap (λ (r : Edited). r.reply) q

    pub next_done : e.reply ≡ 0 → e.drawing ≡ after_edit what x y z d
    unfolding after_edit
    next_done h = ap (λ (r : Edited). r.drawing) q ∙ rw (eq-eqb (edit_of what x y z d (even_tally 0)).reply 0 (sym same_reply ∙ h)) refl

    pub next_left : (e.reply ≡ 0 → ⊥) → d ≡ after_edit what x y z d
    unfolding after_edit
    next_left f = rw (ne_eqb (edit_of what x y z d (even_tally 0)).reply 0 (λ h. f (same_reply ∙ h))) refl

  pub next_lawful : Lawful d → Lawful (after_edit what x y z d)
  unfolding after_edit
  next_lawful l = choose (eqb_reads (edit_of what x y z d (even_tally 0)).reply 0) Lawful (λ h. (edit_accepted what x y z l (even_tally 0) h).lawful) (λ _. l)

-- ---- all edits

module _ (whats : List ℕ) (numbers : List ℤ) where
  pub built_none : {r : Drawing} → r ≡ drawn empty_sheet → r ≡ built_by whats numbers 0
  unfolding built_by
  built_none e = e

  pub built_next : (n : ℕ) {what : ℕ} {x y z : ℤ} {d r : Drawing} → d ≡ built_by whats numbers n → what ≡ get_or whats n 0
      → x ≡ number_at numbers (3 * n) → y ≡ number_at numbers (3 * n + 1) → z ≡ number_at numbers (3 * n + 2)
      → SFits w32 x → SFits w32 y → SFits w32 z → r ≡ after_edit what (bits x) (bits y) (bits z) d → r ≡ built_by whats numbers (n + 1)
  unfolding built_by
  built_next n {what} {x} {y} {z} {d} {r} e p a b c f g h q =
      let k : suc n ≡ n + 1 = omega arith in
      subst (λ (m : ℕ). r ≡ built_by whats numbers m) k
      (q ∙ handed_three (λ x y z. after_edit what x y z d) x y z f g h ∙ (λ i. after_edit (p i) (a i) (b i) (c i) (e i)))

  pub built_end : (n m : ℕ) {d : Drawing} → n ≡ m → d ≡ built_by whats numbers n → d ≡ built_by whats numbers m
  built_end n m {d} e p = subst (λ (k : ℕ). d ≡ built_by whats numbers k) e p

  pub built_lawful : (n : ℕ) → Lawful (built_by whats numbers n)
  unfolding built_by
  built_lawful zero = drawn_lawful (record { wires = omega arith; parts = omega arith }) empty_good
  built_lawful (suc n) = next_lawful (get_or whats n 0) (number_at numbers (3 * n)) (number_at numbers (3 * n + 1)) (number_at numbers (3 * n + 2)) (built_by whats numbers n) (built_lawful n)
