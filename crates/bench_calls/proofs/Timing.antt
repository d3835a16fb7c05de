-- The answers by the number of the call, and one call made again.
use Prim.Native.Nat.{ℕ, suc, ◌+◌, ◌<◌, ◌≤◌, ◌%◌}
use native.Mathlib.Omega.{arith}
use mathlib.Core.List.{List}
use mathlib.Core.Path.{◌≡◌, refl, ap, subst, ◌∙◌}
use borrow.Author.Tests.{lt-ltb, le-ltb, eq-eqb, ne_eqb}
use lib.IntN.{ℤ}
use lib.ListN.{get_or, replicate}
use Rattle.sheet.specs.declared.Drawing.{Drawing}
use Rattle.sheet.specs.declared.Tally.{Tally}
use Rattle.sheet.specs.Drawings.{lists_of}
use Rattle.rules.specs.Check.{check_of}
use Rattle.redraw.specs.declared.Edited.{Edited}
use Rattle.schematic.specs.Calls.{checked}
use Rattle.loose_pads.specs.Counting.{loose_of}
use Rattle.listing.specs.Listing.{list_of}
use Rattle.text.specs.Answers.{buffer_of}
use Rattle.netlist.specs.Answers as netlist
use Rattle.bench_calls.specs.Numbered.{edit_of}
use Rattle.bench_calls.specs.Tables.{table_answer}
use Rattle.bench_calls.specs.Files.{file_answer}
use Rattle.bench_calls.specs.Timed.{even_tally, edit_answer, list_answer, timed_loose, timed_answer, again}

module _ (call what : ℕ) (x y z : ℤ) (d : Drawing) (last : ℕ) where
  -- ---- edits

  module _ {u : Tally} {e : Edited} (p : u ≡ even_tally last) where
    pub edited_on : call ≡ 0 → e ≡ edit_of what x y z d u → e.tally.joints ≡ edit_answer call what x y z d last
    unfolding edit_answer
    edited_on k q =
        ap (λ (r : Edited). r.tally.joints) q
        ∙ ap (λ (v : Tally). (edit_of what x y z d v).tally.joints) p
        ∙ rw (eq-eqb call 0 k) refl

    pub edited_checked : (call ≡ 0 → ⊥) → e ≡ checked d u (edit_of what x y z d u) → e.tally.joints ≡ edit_answer call what x y z d last
    unfolding edit_answer
    edited_checked f q =
        ap (λ (r : Edited). r.tally.joints) q
        ∙ ap (λ (v : Tally). (checked d v (edit_of what x y z d v)).tally.joints) p
        ∙ rw (ne_eqb call 0 f) refl

  -- ---- by the number

  pub by_edit : call < 2 → edit_answer call what x y z d last ≡ timed_answer call what x y z d last
  unfolding timed_answer
  by_edit h = rw (lt-ltb call 2 h) refl

  pub by_check : 2 ≤ call → call < 4 → (check_of d).rule ≡ timed_answer call what x y z d last
  unfolding timed_answer
  by_check a h = rw (le-ltb call 2 a, lt-ltb call 4 h) refl

  pub by_list : 2 ≤ call → 4 ≤ call → call < 6 → list_answer call d last ≡ timed_answer call what x y z d last
  unfolding timed_answer
  by_list a b h = rw (le-ltb call 2 a, le-ltb call 4 b, lt-ltb call 6 h) refl

  pub by_loose : 2 ≤ call → 4 ≤ call → 6 ≤ call → call < 8 → timed_loose call d ≡ timed_answer call what x y z d last
  unfolding timed_answer
  by_loose a b e h = rw (le-ltb call 2 a, le-ltb call 4 b, le-ltb call 6 e, lt-ltb call 8 h) refl

  pub by_table : 2 ≤ call → 4 ≤ call → 6 ≤ call → 8 ≤ call → call < 17 → table_answer call x y z d ≡ timed_answer call what x y z d last
  unfolding timed_answer
  by_table a b e f h = rw (le-ltb call 2 a, le-ltb call 4 b, le-ltb call 6 e, le-ltb call 8 f, lt-ltb call 17 h) refl

  pub by_file : 2 ≤ call → 4 ≤ call → 6 ≤ call → 8 ≤ call → 17 ≤ call → file_answer call d last ≡ timed_answer call what x y z d last
  unfolding timed_answer
  by_file a b e f h = rw (le-ltb call 2 a, le-ltb call 4 b, le-ltb call 6 e, le-ltb call 8 f, le-ltb call 17 h) refl

-- ---- loose pads

module _ (call : ℕ) (d : Drawing) where
  pub loose_lawful : call ≡ 6 → loose_of (lists_of d) ≡ timed_loose call d
  unfolding timed_loose
  loose_lawful k = rw (eq-eqb call 6 k) refl

  pub loose_checked : (call ≡ 6 → ⊥) → (netlist.loose_answer d).count ≡ timed_loose call d
  unfolding timed_loose
  loose_checked f = rw (ne_eqb call 6 f) refl

  module _ (last : ℕ) {out : List ℕ} where
    pub list_lawful : call ≡ 4 → out ≡ buffer_of (list_of (lists_of d)) (replicate 7936 0) → get_or out (last % 7936) 0 ≡ list_answer call d last
    unfolding list_answer
    list_lawful k q = ap (λ (l : List ℕ). get_or l (last % 7936) 0) q ∙ rw (eq-eqb call 4 k) refl

    pub list_checked : (call ≡ 4 → ⊥) → out ≡ netlist.netlist_in d (replicate 7936 0) → get_or out (last % 7936) 0 ≡ list_answer call d last
    unfolding list_answer
    list_checked f q = ap (λ (l : List ℕ). get_or l (last % 7936) 0) q ∙ rw (ne_eqb call 4 f) refl

-- ---- again

module _ (f : ℕ → ℕ) where
  pub again_none : 0 ≡ again 0 f 0
  unfolding again
  again_none = refl

  pub again_next : (k : ℕ) {a r : ℕ} → a ≡ again k f 0 → r ≡ f a → r ≡ again (k + 1) f 0
  unfolding again
  again_next k {a} {r} p q =
      let e : suc k ≡ k + 1 = omega arith in
      subst (λ (n : ℕ). r ≡ again n f 0) e (q ∙ ap f p)

  pub again_end : (k n : ℕ) {a : ℕ} → k ≡ n → a ≡ again k f 0 → a ≡ again n f 0
  again_end k n {a} e p = subst (λ (m : ℕ). a ≡ again m f 0) e p
