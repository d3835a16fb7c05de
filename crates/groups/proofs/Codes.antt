-- A reader and a writer that fit: what is written is read back, cut short it has a byte due, and only what is written so is read. Numbers in a
-- range, and n values of one kind.
use mathlib.Core.Path.{◌≡◌, refl, sym, ap, subst, ◌∙◌}
use mathlib.Core.Logic.{⊎_elim}
use mathlib.Core.List.Memᴰ.{head as ∈-head}
use mathlib.Core.List.Memᴰ.{not-nil as ∈-nil}
use mathlib.Core.List.Memᴰ.{tail as ∈-tail}
use mathlib.Core.List.{List, [], ◌∷◌, ◌++◌, append_assoc}
use Prim.Native.Nat.{ℕ, zero, suc, ◌+◌, ◌-◌, ◌≤◌, ◌<◌}
use native.Mathlib.Omega.{arith}
use lib.ListN.{length, take, length-append}
use lib.Seq.{take-append-le, take-append-add}
use borrow.Author.Tests.{le-leb}
use Rattle.lists.specs.Lists.{◌∈◌}
use Rattle.std.specs.List.{flat_map}
use Rattle.lists.proofs.Lists.{in_cons}
use Rattle.lists.proofs.Tests.{decide, ltb_reads, leb_reads, and_reads}
use Rattle.groups.specs.Taken.{Taken, took, then, short, times}
use Rattle.groups.specs.Groups.{groups_of, take_in, Bytes}
use Rattle.groups.proofs.Told.{Told, told, told_then, told_if}
use Rattle.groups.proofs.Laws.{number_back, number_only}
use Rattle.groups.proofs.Cuts.{number_cut}

-- ---- a reader and a writer

-- s is what is written of a, which is right, and the bytes rest
pub record Only {A : Type 0} (Ok : A → Type 0) (w : A → List ℕ) (s : List ℕ) (a : A) (rest : List ℕ) : Type 0 where
  pub is : s ≡ w a ++ rest
  pub ok : Ok a
  pub bytes : Bytes rest

pub record Codes {A : Type 0} (Ok : A → Type 0) (w : A → List ℕ) (f : List ℕ → Taken A) : Type 0 where
  pub back : (a : A) (rest : List ℕ) → Ok a → f (w a ++ rest) ≡ took a rest
  pub cut : (a : A) → Ok a → (k : ℕ) → k < length (w a) → f (take k (w a)) ≡ short
  pub only : (s : List ℕ) → Bytes s → Told (Only Ok w s) (f s)

-- what comes of a reader is cut short, if what it reads is
pub cut_last : {A B : Type 0} {Ok : A → Type 0} {w : A → List ℕ} {f : List ℕ → Taken A} (g : A → List ℕ → Taken B) → Codes Ok w f → (a : A) → Ok a → (k : ℕ) → k < length (w a) → then (f (take k (w a))) g ≡ short
unfolding then
cut_last g c a ok k h = ap (λ t. then t g) (c.cut a ok k h)

-- a reader and what follows it: what is left ends in the first part, or in the second
pub cut_then : {A B : Type 0} {Ok : A → Type 0} {w : A → List ℕ} {f : List ℕ → Taken A} (g : A → List ℕ → Taken B) → Codes Ok w f → (a : A) → Ok a → (r : List ℕ)
    → ((k : ℕ) → k < length r → g a (take k r) ≡ short) → (k : ℕ) → k < length (w a ++ r) → then (f (take k (w a ++ r))) g ≡ short
unfolding then
cut_then {w = w} {f = f} g c a ok r later k h = ⊎_elim
    (λ (lt : k < length (w a)). ap (λ s. then (f s) g) (take-append-le k (w a) r (omega arith)) ∙ cut_last g c a ok k lt)
    (λ (no : k < length (w a) → ⊥).
    let j : ℕ = k - length (w a) in
    let e : k ≡ length (w a) + j = omega (arith, no) in
    let short-rest : j < length r = omega (arith, no, length-append (w a) r) in
    ap (λ i. then (f (take i (w a ++ r))) g) e ∙ ap (λ s. then (f s) g) (take-append-add (w a) r j) ∙ ap (λ t. then t g) (c.back a (take j r) ok) ∙ later j short-rest)
    (decide (ltb_reads k (length (w a))))

-- the bytes behind are bytes
behind : (p : List ℕ) {r : List ℕ} → Bytes (p ++ r) → Bytes r
behind [] h = h
behind (x ∷ p) h = behind p (λ b m. h b (∈-tail m))

pub bytes_behind : {s : List ℕ} (p : List ℕ) {r : List ℕ} → s ≡ p ++ r → Bytes s → Bytes r
bytes_behind p e h = behind p (subst Bytes e h)

-- ---- numbers

-- from low to high
abbrev pub Between : ℕ → ℕ → ℕ → Type 0
Between low high n = (low ≤ n) × (n ≤ high)

module _ (low high : ℕ) (fits : high < 4294967296) where
  range_back : (n : ℕ) (rest : List ℕ) → Between low high n → take_in low high (groups_of n ++ rest) ≡ took n rest
  unfolding take_in then
  range_back n rest h = rw (number_back n rest (omega arith), le-leb low n h.0, le-leb n high h.1)

  range_only : (s : List ℕ) → Bytes s → Told (Only (Between low high) groups_of s) (take_in low high s)
  unfolding take_in
  range_only s h =
      told_then (number_only s h)
      (λ n r o. told_if n r (and_reads (leb_reads low n) (leb_reads n high)) (λ p. record { is = o.is; ok = p; bytes = bytes_behind (groups_of n) o.is h }))

  range_cut : (n : ℕ) → Between low high n → (k : ℕ) → k < length (groups_of n) → take_in low high (take k (groups_of n)) ≡ short
  unfolding take_in then
  range_cut n h k c = rw (number_cut n (omega arith) k c)

  pub range_codes : Codes (Between low high) groups_of (take_in low high)
  range_codes = record { back = range_back; cut = range_cut; only = range_only }

-- ---- n values

module _ {A : Type 0} {Ok : A → Type 0} {w : A → List ℕ} {f : List ℕ → Taken A} (c : Codes Ok w f) where
  -- n values, each right
  abbrev pub Right : ℕ → List A → Type 0
  Right n xs = (length xs ≡ n) × ((x : A) → x ∈ xs → Ok x)

  times_back : (n : ℕ) (xs : List A) (rest : List ℕ) → Right n xs → times f n (flat_map w xs ++ rest) ≡ took xs rest
  unfolding times then
  times_back zero [] rest h = refl
  times_back zero (x ∷ xs) rest h = absurd (omega (arith, h.0))
  times_back (suc n) [] rest h = absurd (omega (arith, h.0))
  times_back (suc n) (x ∷ xs) rest h =
      let ih : times f n (flat_map w xs ++ rest) ≡ took xs rest = times_back n xs rest (omega (arith, h.0), λ y m. h.1 y (∈-tail m)) in
      rw (append_assoc (w x) (flat_map w xs) rest, c.back x (flat_map w xs ++ rest) (h.1 x (∈-head refl)), ih)

  times_only : (n : ℕ) (s : List ℕ) → Bytes s → Told (Only (Right n) (flat_map w) s) (times f n s)
  unfolding times
  times_only zero s h = told (record { is = refl; ok = (refl, λ x m. absurd (∈-nil m)); bytes = h })
  times_only (suc n) s h =
      told_then (c.only s h) (λ x r o. told_then (times_only n r o.bytes) (λ xs q p. told (record {
        is = o.is ∙ ap (λ l. w x ++ l) p.is ∙ sym (append_assoc (w x) (flat_map w xs) q);
        ok = (ap suc p.ok.0, λ y m. in_cons Ok o.ok p.ok.1 m);
        bytes = p.bytes;
      })))

  times_cut : (n : ℕ) (xs : List A) → Right n xs → (k : ℕ) → k < length (flat_map w xs) → times f n (take k (flat_map w xs)) ≡ short
  unfolding times then
  times_cut n [] h k d = absurd (omega arith)
  times_cut zero (x ∷ xs) h k d = absurd (omega (arith, h.0))
  times_cut (suc n) (x ∷ xs) h k d =
      let right : Right n xs = (omega (arith, h.0), λ y m. h.1 y (∈-tail m)) in
      cut_then _ c x (h.1 x (∈-head refl)) (flat_map w xs) (λ j e. ap (λ t. then t (λ ys. took (x ∷ ys))) (times_cut n xs right j e)) k d

  pub times_codes : (n : ℕ) → Codes (Right n) (flat_map w) (times f n)
  times_codes n = record { back = times_back n; cut = times_cut n; only = times_only n }
