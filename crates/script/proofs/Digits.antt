-- The readers of digits, by the digit that a text begins with.
use Rattle.std.proofs.Common.{◌≡◌, refl, Bool, true, false, cond, ℕ, zero, suc, ◌+◌, ◌*◌, ◌-◌, ◌<◌, ◌≤◌, List, [], ◌∷◌, Some, None, length, get_or, drop, arith, add-one}
use Rattle.std.proofs.Math.Seq.{drop-cons}
use Rattle.std.proofs.Math.ListN.{drop_of_length-le}
use borrow.Author.Tests.{le-leb, lt-leb}
use Rattle.lists.proofs.Tests.{Reads, pass, fail}
use Rattle.script.specs.Grammar.{byte}
use Rattle.script.specs.Reading.{found, missing, digits_of, whole_of}
use Rattle.script.specs.Fronts.{leading_digit}
use Rattle.script.proofs.Parts.{digit_reads}

module _ (l : List ℕ) (k : ℕ) where
  at_byte : k < length l → drop k l ≡ get_or l k 0 ∷ drop (k + 1) l
  at_byte h = rw (add-one, drop-cons l k 0 h)

  pub digit_out : length l ≤ k → None ≡ leading_digit (drop k l)
  unfolding leading_digit
  digit_out h = rw (drop_of_length-le l h)

  module _ (h : k < length l) where
    pub digit_is : byte "0" ≤ get_or l k 0 → get_or l k 0 ≤ byte "9" → Some (get_or l k 0 - byte "0") ≡ leading_digit (drop k l)
    unfolding leading_digit
    digit_is lo hi = rw (at_byte h, le-leb _ _ lo, le-leb _ _ hi)

    pub digit_low : get_or l k 0 < byte "0" → None ≡ leading_digit (drop k l)
    unfolding leading_digit
    digit_low lo = rw (at_byte h, lt-leb _ _ lo)

    pub digit_high : byte "9" < get_or l k 0 → None ≡ leading_digit (drop k l)
    unfolding leading_digit
    digit_high hi = let lo : byte "0" ≤ get_or l k 0 = omega arith in rw (at_byte h, le-leb _ _ lo, lt-leb _ _ hi)

-- a text that a digit begins: what it is, and how the readers go on
pub record Begins (d : ℕ) (s : List ℕ) : Type 0 where
  pub some : 1 ≤ length s
  pub small : d < 10
  pub first : whole_of s ≡ digits_of 5 d (drop 1 s)
  pub more : (n v : ℕ) → digits_of (suc n) v s ≡ digits_of n (v * 10 + d) (drop 1 s)

read_digit : (b : ℕ) {d : ℕ} {t : Bool} → Reads ((byte "0" ≤ b) × (b ≤ byte "9")) t → Some d ≡ cond t (Some (b - byte "0")) None → (t ≡ true) × (b - byte "0" ≡ d) × (d < 10)
read_digit b {d} (pass p) e = let same : b - byte "0" ≡ d = cc in (refl, same, omega arith)
read_digit b (fail n) e = cc

no_digit : (b : ℕ) {t : Bool} → Reads ((byte "0" ≤ b) × (b ≤ byte "9")) t → None ≡ cond t (Some (b - byte "0")) None → t ≡ false
no_digit b (pass p) e = cc
no_digit b (fail n) e = refl

pub digit_begins : (s : List ℕ) {d : ℕ} → Some d ≡ leading_digit s → Begins d s
unfolding leading_digit digits_of whole_of
digit_begins [] e = cc
digit_begins (b ∷ s) {d} e =
    let r = read_digit b (digit_reads b) e in
    record { some = omega arith; small = r.2; first = rw (r.0, r.1); more = λ n v. rw (r.0, r.1) }

-- a text that no digit begins: the readers find nothing, or stop
pub nothing_begins : (s : List ℕ) → None ≡ leading_digit s → whole_of s ≡ missing
unfolding leading_digit whole_of
nothing_begins [] e = refl
nothing_begins (b ∷ s) e = rw (no_digit b (digit_reads b) e)

pub stops : (n v : ℕ) (s : List ℕ) → None ≡ leading_digit s → digits_of n v s ≡ found v s
unfolding leading_digit digits_of
stops zero v s e = refl
stops (suc n) v [] e = refl
stops (suc n) v (b ∷ s) e = rw (no_digit b (digit_reads b) e)

pub full : (v : ℕ) (s : List ℕ) → digits_of 0 v s ≡ found v s
unfolding digits_of
full v s = refl
