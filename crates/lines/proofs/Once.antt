-- The contract of `next_line` has one answer: `once`. Of the bytes held it tells those that the answer counts, and no others are looked at.
use mathlib.Core.Path.{◌≡◌, refl, sym, ap, ap₂, ◌∙◌}
use mathlib.Core.List.{List}
use Prim.Native.Nat.{ℕ, ◌≤◌}
use native.Mathlib.Omega.{arith}
use lib.ListN.{length, take, drop, length-drop}
use lib.Seq.{length-take-le}
use Rattle.lists.proofs.Tests.{clash}
use Rattle.lines.specs.declared.Cut.{Cut}
use Rattle.lines.specs.declared.Cut.TheVariants.{Line, More}
use Rattle.lines.specs.Chunks.{brought, CutFits, Next}

same_count : {k k' : ℕ} (l l' : List ℕ) → k ≤ length l → k' ≤ length l' → take k l ≡ take k' l' → k ≡ k'
same_count {k} {k'} l l' h h' e = omega (arith, length-take-le k l h, length-take-le k' l' h', ap length e)

same_rest : {i i' : ℕ} (l : List ℕ) → i ≤ length l → i' ≤ length l → drop i l ≡ drop i' l → i ≡ i'
same_rest {i} {i'} l h h' e = omega (arith, length-drop i l, length-drop i' l, ap length e)

module _ (chunk held held' : List ℕ) (at : ℕ) (room : 81 ≤ length held) (room' : 81 ≤ length held') where
  same_answer : (r r' : Cut) → brought r held chunk ≡ brought r' held' chunk → CutFits at (length chunk) r → CutFits at (length chunk) r' → r ≡ r'
  same_answer (Line k i) (Line k' i') e w w' =
      let bytes : take k held ≡ take k' held' = cc in
      let rest : drop i chunk ≡ drop i' chunk = cc in
      ap₂ Line (same_count held held' (omega (arith, w.0)) (omega (arith, w'.0)) bytes) (same_rest chunk w.2 w'.2 rest)
  same_answer (Line k i) (More k') e w w' = absurd (clash refl (cc))
  same_answer (More k) (Line k' i') e w w' = absurd (clash refl (cc))
  same_answer (More k) (More k') e w w' =
      let bytes : take k held ≡ take k' held' = cc in
      ap More (same_count held held' (omega arith) (omega arith) bytes)

pub once : {chunk held held' held'' : List ℕ} {at count : ℕ} {r r' : Cut} → 81 ≤ length held → Next chunk at held count r held' → Next chunk at held count r' held'' → r ≡ r'
once {chunk} {held} {held'} {held''} {at} {count} {r} {r'} room n n' =
    same_answer chunk held' held'' at (omega (arith, n.long)) (omega (arith, n'.long)) r r' (n.told ∙ sym n'.told) n.within n'.within
