-- Each part of a line, read. `PART-by`: what the reader finds is such a part, so what holds of every part found, and of none, holds
-- of what the reader gives. `PART-is`: the reader finds every such part, up to the line's end or a space.
use mathlib.Core.Path.{◌≡◌, refl, ap, ◌∙◌}
use mathlib.Core.Bool.{true, false}
use mathlib.Core.List.{List, [], ◌∷◌, ◌++◌}
use Prim.Native.Nat.{ℕ, zero, suc, ◌+◌, ◌-◌, ◌*◌, ◌≤◌}
use native.Mathlib.Omega.{arith}
use lib.ListN.{length}
use lib.IntN.{ℤ, pos}
use Rattle.lists.proofs.Tests.{Reads, choose, leb_reads, eqb_reads, and_reads}
use Rattle.script.specs.Grammar.{byte, Digits, none, more, value_of, IsWhole, IsNumber, plain, minus, ◌␣◌}
use Rattle.script.specs.Reading.{Front, found, missing, then, after_byte, is_digit, digits_of, whole_of, with_sign, signed_numeral, numeral_of, field_of, three_of}

-- what ends a number
pub data Stops : List ℕ → Type 0 where
  end : Stops []
  space : {s : List ℕ} → Stops (byte " " ∷ s)

module _ {B : Type 0} (C : B → Type 0) where
  pub behind_by : (b : ℕ) (s : List ℕ) {f : List ℕ → B} {e : B} → ((t : List ℕ) → s ≡ b ∷ t → C (f t)) → C e → C (after_byte b s f e)
  behind_by b [] is not = not
  behind_by b (c ∷ s) is not = choose (eqb_reads c b) C (λ q. is s (ap (λ x. x ∷ s) q)) (λ n. not)

pub digit_reads : (b : ℕ) → Reads ((byte "0" ≤ b) × (b ≤ byte "9")) (is_digit b)
digit_reads b = and_reads (leb_reads (byte "0") b) (leb_reads b (byte "9"))

module _ (C : Front ℕ → Type 0) where
  digits_by : (n v : ℕ) (s : List ℕ) → ((ds rest : List ℕ) → Digits ds → length ds ≤ n → s ≡ ds ++ rest → C (found (value_of v ds) rest)) → C (digits_of n v s)
  unfolding digits_of value_of
  digits_by zero v s is = is [] s none (omega arith) refl
  digits_by (suc n) v [] is = is [] [] none (omega arith) refl
  digits_by (suc n) v (b ∷ s) is =
      let later = digits_by n (v * 10 + (b - byte "0")) s in
      choose (digit_reads b) C
      (λ d. later (λ ds rest g le e. is (b ∷ ds) rest (more d.0 d.1 g) (omega arith) (ap (λ l. b ∷ l) e)))
      (λ n. is [] (b ∷ s) none (omega arith) refl)

  whole_by : (s : List ℕ) → ((ds rest : List ℕ) (v : ℕ) → IsWhole ds v → s ≡ ds ++ rest → C (found v rest)) → C missing → C (whole_of s)
  unfolding whole_of value_of
  whole_by [] is not = not
  whole_by (b ∷ s) is not =
      choose (digit_reads b) C
      (λ d. digits_by 5 (b - byte "0") s (λ ds rest g le e.
      is (b ∷ ds) rest _ (record { digits = more d.0 d.1 g; least = omega arith; most = omega arith; value = ap (λ v. value_of v ds) (omega arith) }) (ap (λ l. b ∷ l) e)))
      (λ n. not)

module _ (C : Front ℤ → Type 0) where
  number_by : (s : List ℕ) → ((t rest : List ℕ) (z : ℤ) → IsNumber t z → s ≡ t ++ rest → C (found z rest)) → C missing → C (numeral_of s)
  unfolding numeral_of signed_numeral
  number_by s is not =
      behind_by C (byte "-") s
      (λ t q. whole_by (λ r. C (then r (λ v. found (with_sign true v)) missing)) t (λ ds rest v g e. is (byte "-" ∷ ds) rest _ (minus g) (q ∙ ap (λ l. byte "-" ∷ l) e)) not)
      (whole_by (λ r. C (then r (λ v. found (with_sign false v)) missing)) s (λ ds rest v g e. is ds rest _ (plain g) e) not)

  pub field_by : (s : List ℕ) → ((t rest : List ℕ) (z : ℤ) → IsNumber t z → s ≡ byte " " ∷ (t ++ rest) → C (found z rest)) → C missing → C (field_of s)
  unfolding field_of
  field_by s is not = behind_by C (byte " ") s (λ t q. number_by t (λ u rest z g e. is u rest z g (q ∙ ap (λ l. byte " " ∷ l) e)) not) not

-- three numbers, one space before each, and then `rest`
pub record IsThree (s : List ℕ) (a b c : ℤ) (rest : List ℕ) : Type 0 where
  pub A : List ℕ
  pub B : List ℕ
  pub C : List ℕ
  pub is_a : IsNumber A a
  pub is_b : IsNumber B b
  pub is_c : IsNumber C c
  pub all : s ≡ [] ␣ A ␣ B ␣ C ++ rest

module _ (P : Front (ℤ × ℤ × ℤ) → Type 0) where
  pub three_by : (s : List ℕ) → ((a b c : ℤ) (rest : List ℕ) → IsThree s a b c rest → P (found (a, b, c) rest)) → P missing → P (three_of s)
  unfolding three_of
  three_by s is not =
      field_by (λ r. P (then r (λ a s. then (field_of s) (λ b s. then (field_of s) (λ c. found (a, b, c)) missing) missing) missing)) s
      (λ A s1 a p e1. field_by (λ r. P (then r (λ b s. then (field_of s) (λ c. found (a, b, c)) missing) missing)) s1
      (λ B s2 b q e2. field_by (λ r. P (then r (λ c. found (a, b, c)) missing)) s2
      (λ C s3 c w e3. is a b c s3 (record { A = A; B = B; C = C; is_a = p; is_b = q; is_c = w; all = rw (e1, e2, e3) })) not) not) not

-- ---- every part is found

module _ {rest : List ℕ} (stops : Stops rest) where
  stopped : (n v : ℕ) → digits_of n v rest ≡ found v rest
  unfolding digits_of
  stopped zero v = refl
  stopped (suc n) v = by stops where
    by : {s : List ℕ} → Stops s → digits_of (suc n) v s ≡ found v s
    by end = refl
    by space = refl

  digits_is : (n v : ℕ) {ds : List ℕ} → Digits ds → length ds ≤ n → digits_of n v (ds ++ rest) ≡ found (value_of v ds) rest
  unfolding digits_of value_of
  digits_is n v none le = stopped n v
  digits_is zero v (more lo hi g) le = absurd (omega arith)
  digits_is (suc n) v (more {d} {ds} lo hi g) le =
      let later = digits_is n (v * 10 + (d - byte "0")) g (omega arith) in
      choose (digit_reads d) (λ r. r ≡ found (value_of (v * 10 + (d - byte "0")) ds) rest) (λ p. later) (λ n. absurd (n (lo, hi)))

  whole_is : {ds : List ℕ} {v : ℕ} → Digits ds → IsWhole ds v → whole_of (ds ++ rest) ≡ found v rest
  unfolding whole_of value_of
  whole_is none w = absurd (omega (arith, w.least))
  whole_is {v = v} (more {d} {ds} lo hi g) w =
      let later = digits_is 5 (d - byte "0") g (omega (arith, w.most)) in
      let value : value_of (d - byte "0") ds ≡ v = ap (λ u. value_of u ds) (omega arith) ∙ w.value in
      choose (digit_reads d) (λ r. r ≡ found v rest) (λ p. later ∙ ap (λ u. found u rest) value) (λ n. absurd (n (lo, hi)))

  number_is : {t : List ℕ} {z : ℤ} → IsNumber t z → numeral_of (t ++ rest) ≡ found z rest
  unfolding numeral_of signed_numeral
  number_is (plain w) = by w.digits w where
    by : {ds : List ℕ} {v : ℕ} → Digits ds → IsWhole ds v → numeral_of (ds ++ rest) ≡ found (pos v) rest
    by none w = absurd (omega (arith, w.least))
    by {v = v} (more {d} {ds} lo hi g) w =
        choose (eqb_reads d (byte "-")) (λ r. r ≡ found (pos v) rest) (λ e. absurd (omega arith)) (λ n. rw (whole_is (more lo hi g) w))
  number_is (minus w) = rw (whole_is w.digits w)

  pub field_is : {t : List ℕ} {z : ℤ} → IsNumber t z → field_of (byte " " ∷ (t ++ rest)) ≡ found z rest
  unfolding field_of
  field_is g = number_is g

module _ {A B C : List ℕ} {a b c : ℤ} {rest : List ℕ} where
  pub three_is : IsNumber A a → IsNumber B b → IsNumber C c → Stops rest → three_of ([] ␣ A ␣ B ␣ C ++ rest) ≡ found (a, b, c) rest
  unfolding three_of
  three_is p q w stops = rw (field_is (space {s = B ␣ C ++ rest}) p, field_is (space {s = C ++ rest}) q, field_is stops w)
