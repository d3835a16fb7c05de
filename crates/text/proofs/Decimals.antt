-- Numbers in decimal: the last digit and those before it, how long a number is, and that its digits tell it.
use mathlib.Core.Path.{◌≡◌, refl, sym, ap, ap₂, ◌∙◌}
use mathlib.Core.Bool.{Bool, true, false, cond}
use mathlib.Core.Logic.{⊎_elim}
use mathlib.Core.List.{List, [], ◌∷◌, ◌++◌}
use Prim.Native.Nat.{ℕ, zero, suc, ◌+◌, ◌-◌, ◌*◌, ◌/◌, ◌%◌, ◌^◌, ◌≤◌, ◌<◌}
use native.Mathlib.Nat.{pow-suc, le_refl}
use native.Mathlib.Omega.{arith}
use lib.Dec.{ltb}
use lib.ListN.{length, length-append}
use borrow.Author.Tests.{lt-ltb, le-ltb}
use Rattle.lists.proofs.Tests.{decide, ltb_reads}
use Rattle.text.specs.Text.{digits_in, decimal_of}

-- with room for n digits, more room changes nothing
digits_enough : (k j n : ℕ) → n ≤ k → n ≤ j → digits_in k n ≡ digits_in j n
unfolding digits_in
digits_enough zero zero n hk hj = refl
digits_enough zero (suc j) n hk hj = rw (lt-ltb n 10 (omega arith))
digits_enough (suc k) zero n hk hj = rw (lt-ltb n 10 (omega arith))
digits_enough (suc k) (suc j) n hk hj = go (ltb n 10) (digits_enough k j (n / 10) (omega arith) (omega arith))
  where
    go : (t : Bool) → digits_in k (n / 10) ≡ digits_in j (n / 10)
        → cond t ((48 + n) ∷ []) (digits_in k (n / 10) ++ ((48 + n % 10) ∷ [])) ≡ cond t ((48 + n) ∷ []) (digits_in j (n / 10) ++ ((48 + n % 10) ∷ []))
    go true ih = refl
    go false ih = ap (λ l. l ++ ((48 + n % 10) ∷ [])) ih

pub decimal_digit : (n : ℕ) → n < 10 → decimal_of n ≡ (48 + n) ∷ []
unfolding decimal_of digits_in
decimal_digit zero h = refl
decimal_digit (suc n) h = rw (lt-ltb (suc n) 10 h)

pub decimal_more : (n : ℕ) → 10 ≤ n → decimal_of n ≡ decimal_of (n / 10) ++ ((48 + n % 10) ∷ [])
unfolding decimal_of digits_in
decimal_more zero h = absurd (omega arith)
decimal_more (suc k) h =
    let n : ℕ = suc k in
    rw (le-ltb n 10 h) (ap (λ l. l ++ ((48 + n % 10) ∷ [])) (digits_enough k (n / 10) (n / 10) (omega arith) (le_refl (n / 10))))

-- ---- how long

pub length_digit : (n : ℕ) → n < 10 → length (decimal_of n) ≡ 1
length_digit n h = ap length (decimal_digit n h)

pub length_more : (n : ℕ) → 10 ≤ n → length (decimal_of n) ≡ length (decimal_of (n / 10)) + 1
length_more n h = ap length (decimal_more n h) ∙ length-append (decimal_of (n / 10)) ((48 + n % 10) ∷ [])

-- a number below 10, 100, 1000, .. has at most 1, 2, 3, .. digits
pub length_decimal : (k n : ℕ) → n < 10 ^ suc k → length (decimal_of n) ≤ suc k
length_decimal zero n h = omega (arith, length_digit n h)
length_decimal (suc k) n h = ⊎_elim
    (λ lt. omega (arith, length_digit n lt))
    (λ ge. omega (arith, length_more n (omega (arith, ge)), length_decimal k (n / 10) (omega (arith, pow-suc 10 (suc k)))))
    (decide (ltb_reads n 10))

-- a number of 32 bits has at most 10 digits
pub length_number : (n : ℕ) → n < 4294967296 → length (decimal_of n) ≤ 10
length_number n h = length_decimal 9 n (omega arith)

-- ---- what the digits tell

-- the number that a row of digits spells, behind a
value : ℕ → List ℕ → ℕ
value a [] = a
value a (d ∷ ds) = value (a * 10 + (d - 48)) ds

value_snoc : (a : ℕ) (ds : List ℕ) (d : ℕ) → value a (ds ++ (d ∷ [])) ≡ value a ds * 10 + (d - 48)
unfolding value
value_snoc a [] d = refl
value_snoc a (e ∷ ds) d = value_snoc (a * 10 + (e - 48)) ds d

-- each byte is a digit or above
abbrev High : List ℕ → Type 0
High [] = Unit
High (d ∷ ds) = (48 ≤ d) × High ds

high_snoc : (ds : List ℕ) (d : ℕ) → High ds → 48 ≤ d → High (ds ++ (d ∷ []))
high_snoc [] d h g = (g, tt)
high_snoc (e ∷ ds) d h g = (h.0, high_snoc ds d h.1 g)

spelt : (k n : ℕ) → (value 0 (digits_in k n) ≡ n) × High (digits_in k n)
unfolding value digits_in
spelt zero n = (omega arith, (omega arith, tt))
spelt (suc k) n = go (ltb n 10) (spelt k (n / 10))
  where
    ds : List ℕ
    ds = digits_in k (n / 10)

    go : (t : Bool) → (value 0 ds ≡ n / 10) × High ds
        → (value 0 (cond t ((48 + n) ∷ []) (ds ++ ((48 + n % 10) ∷ []))) ≡ n) × High (cond t ((48 + n) ∷ []) (ds ++ ((48 + n % 10) ∷ [])))
    go true ih = (omega arith, (omega arith, tt))
    go false ih = (value_snoc 0 ds (48 + n % 10) ∙ omega arith, high_snoc ds (48 + n % 10) ih.1 (omega arith))

head_of : {a b : ℕ} {s t : List ℕ} → a ∷ s ≡ b ∷ t → a ≡ b
head_of e = cc

pub tail_of : {a b : ℕ} {s t : List ℕ} → a ∷ s ≡ b ∷ t → s ≡ t
tail_of e = cc

-- a byte below the digits ends a row of digits
ended : (p q : List ℕ) (d : ℕ) (s t : List ℕ) → d < 48 → High p → High q → p ++ d ∷ s ≡ q ++ d ∷ t → (p ≡ q) × (s ≡ t)
ended [] [] d s t lt hp hq e = (refl, tail_of e)
ended [] (b ∷ q) d s t lt hp hq e = absurd (omega (arith, head_of e))
ended (a ∷ p) [] d s t lt hp hq e = absurd (omega (arith, head_of e))
ended (a ∷ p) (b ∷ q) d s t lt hp hq e =
    let r = ended p q d s t lt hp.1 hq.1 (tail_of e) in
    (ap₂ ◌∷◌ (head_of e) r.0, r.1)

-- a number with such a byte behind it tells the number and what follows
pub decimal_told : (n m d : ℕ) (s t : List ℕ) → d < 48 → decimal_of n ++ d ∷ s ≡ decimal_of m ++ d ∷ t → (n ≡ m) × (s ≡ t)
unfolding decimal_of
decimal_told n m d s t lt e =
    let r = ended (digits_in n n) (digits_in m m) d s t lt (spelt n n).1 (spelt m m).1 e in
    (sym (spelt n n).0 ∙ ap (value 0) r.0 ∙ (spelt m m).0, r.1)
