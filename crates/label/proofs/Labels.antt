-- How the code's chains read a label: the leading part up to the first zero, the bytes behind those that a label may have, and zeros filled up.
use mathlib.Core.Path.{◌≡◌, refl, sym, ap, ◌∙◌}
use Prim.Native.Nat.{ℕ, zero, suc, ◌+◌, ◌-◌, ◌<◌, ◌≤◌}
use native.Mathlib.Nat.{le_of_suc-le-suc}
use native.Mathlib.Omega.{arith}
use mathlib.Core.Bool.{Bool, true, false, not, ◌&&◌, cond}
use mathlib.Core.List.{List, [], ◌∷◌, ◌++◌}
use lib.Dec.{leb, eqb}
use lib.ListN.{length, take, drop, length-take, length-drop, drop_of_length-le}
use lib.Seq.{take_all}
use borrow.Author.Tests.{le-leb, lt-leb}
use native.Mathlib.Numerals.{one-add}
use Rattle.std.specs.List.{list_all}
use Rattle.std.proofs.lemmas.Option.{same_Some, none-some}
use Rattle.std.specs.List.{prefix_len, position, position_or_len}
use Rattle.std.specs.Prelude.{Some, None, Ok}
use Rattle.lists.proofs.Tests.{Reads, pass, fail, ltb_reads}
use Rattle.label.specs.Labels.{label_part, graphic, padded, given, label_of, judged, refused_label, held_answer, held_label, all_zero, label_ok}
use Rattle.label.specs.declared.Label.{Label}

-- a label is no longer than the bytes that hold it
pub label_short : (bs : List ℕ) → length (label_part bs) ≤ length bs
unfolding label_part
label_short bs = simp length-take (omega arith)

-- what stands behind the bytes that a label may have is zeros
pub behind : (bs : List ℕ) → all_zero (drop (prefix_len graphic bs) bs) ≡ label_ok bs
unfolding label_ok
behind [] = refl
behind (b ∷ bs) = go (graphic b) (behind bs)
  where
    go : (t : Bool) → all_zero (drop (prefix_len graphic bs) bs) ≡ label_ok bs → all_zero (drop (cond t (1 + prefix_len graphic bs) 0) (b ∷ bs)) ≡ cond t (label_ok bs) (all_zero (b ∷ bs))
    go true e = simp one-add e
    go false e = refl

not_not : (b : Bool) → not (not b) ≡ b
not_not true = refl
not_not false = refl

-- the first byte that no label may have stands behind those that one may have
other_is : (bs : List ℕ) → position_or_len (λ b. not (graphic b)) bs ≡ prefix_len graphic bs
other_is bs = λ i. prefix_len (λ b. not_not (graphic b) i) bs

pub to_first_other : (bs : List ℕ) (n : ℕ) → Some n ≡ position (λ b. not (graphic b)) bs → all_zero (take (length bs - n) (drop n bs)) ≡ label_ok bs
to_first_other bs n e = ap all_zero (take_all (length bs - n) (drop n bs) (omega (arith, length-drop n bs))) ∙ go (ltb_reads (position_or_len (λ b. not (graphic b)) bs) (length bs)) e
  where
    go : {t : Bool} → Reads (position_or_len (λ b. not (graphic b)) bs < length bs) t → Some n ≡ cond t (Some (position_or_len (λ b. not (graphic b)) bs)) None → all_zero (drop n bs) ≡ label_ok bs
    go (pass l) e = ap (λ k. all_zero (drop k bs)) (same_Some n (position_or_len (λ b. not (graphic b)) bs) e ∙ other_is bs) ∙ behind bs
    go (fail f) e = absurd (none-some n (sym e))

pub no_other : (bs : List ℕ) → None ≡ position (λ b. not (graphic b)) bs → true ≡ label_ok bs
no_other bs e = go (ltb_reads (position_or_len (λ b. not (graphic b)) bs) (length bs)) e
  where
    go : {t : Bool} → Reads (position_or_len (λ b. not (graphic b)) bs < length bs) t → None ≡ cond t (Some (position_or_len (λ b. not (graphic b)) bs)) None → true ≡ label_ok bs
    go (pass l) e = absurd (none-some (position_or_len (λ b. not (graphic b)) bs) e)
    go (fail f) e =
        let le : length bs ≤ position_or_len (λ b. not (graphic b)) bs = omega (arith, f) in
        sym (ap all_zero (drop_of_length-le bs le)) ∙ ap (λ k. all_zero (drop k bs)) (other_is bs) ∙ behind bs

-- ---- the leading part
cut : (bs : List ℕ) → label_part bs ≡ take (position_or_len (λ b. eqb b 0) bs) bs
unfolding label_part
cut bs = refl

pub to_first_zero : (bs : List ℕ) (n : ℕ) → Some n ≡ position (λ b. eqb b 0) bs → take n bs ≡ label_part bs
to_first_zero bs n e = go (ltb_reads (position_or_len (λ b. eqb b 0) bs) (length bs)) e
  where
    go : {t : Bool} → Reads (position_or_len (λ b. eqb b 0) bs < length bs) t → Some n ≡ cond t (Some (position_or_len (λ b. eqb b 0) bs)) None → take n bs ≡ label_part bs
    go (pass l) e = ap (λ k. take k bs) (same_Some n (position_or_len (λ b. eqb b 0) bs) e) ∙ sym (cut bs)
    go (fail f) e = absurd (none-some n (sym e))

pub no_zero : (bs : List ℕ) → None ≡ position (λ b. eqb b 0) bs → bs ≡ label_part bs
no_zero bs e = go (ltb_reads (position_or_len (λ b. eqb b 0) bs) (length bs)) e
  where
    go : {t : Bool} → Reads (position_or_len (λ b. eqb b 0) bs < length bs) t → None ≡ cond t (Some (position_or_len (λ b. eqb b 0) bs)) None → bs ≡ label_part bs
    go (pass l) e = absurd (none-some (position_or_len (λ b. eqb b 0) bs) e)
    go (fail f) e = sym (take_all (position_or_len (λ b. eqb b 0) bs) bs (omega (arith, f))) ∙ sym (cut bs)

-- k bytes, all of them or n, with zeros behind
pub filled : (n k : ℕ) (s : List ℕ) → k ≤ length s → k ≤ n → (k < n → length s ≤ k) → take k s ++ drop k (padded n []) ≡ padded n s
unfolding padded
filled n zero [] f g h = refl
filled zero zero (b ∷ s) f g h = refl
filled (suc n) zero (b ∷ s) f g h = absurd (let k = h (omega arith) in let z : ⊥ = omega arith in z)
filled n (suc k) [] f g h = absurd (let z : ⊥ = omega arith in z)
filled zero (suc k) s f g h = absurd (let z : ⊥ = omega arith in z)
filled (suc n) (suc k) (b ∷ s) f g h = ap {B = List ℕ} (λ r. b ∷ r) (filled n k s (le_of_suc-le-suc f) (le_of_suc-le-suc g) (λ l. le_of_suc-le-suc (h (omega arith))))

-- ---- the ways out of `held_label`
module _ (l : Label) where
  way : (t : Bool) → (leb l.length 16 && list_all graphic (given l)) ≡ t → judged t (given l) ≡ held_label l
  unfolding held_label
  way t e = sym (λ i. judged (e i) (given l))

  pub too_long : 16 < l.length → refused_label 5 ≡ held_label l
  too_long h = way false (λ i. lt-leb l.length 16 h i && list_all graphic (given l))

  module _ (h : l.length ≤ 16) where
    pub another_byte : false ≡ list_all graphic (given l) → refused_label 5 ≡ held_label l
    another_byte e = way false (λ i. le-leb l.length 16 h i && sym e i)

    pub accepted : (r : Label) → true ≡ list_all graphic (given l) → r ≡ label_of (given l) → held_answer (Ok r.bytes) ≡ held_label l
    unfolding label_of
    accepted r e f = (λ i. held_answer (Ok (f i).bytes)) ∙ way true (λ i. le-leb l.length 16 h i && sym e i)
