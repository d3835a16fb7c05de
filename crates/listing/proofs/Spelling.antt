-- The lines of the list: how long they are, and that they tell their numbers.
use mathlib.Core.Path.{◌≡◌, sym, ◌∙◌}
use mathlib.Core.List.{List, [], ◌∷◌, ◌++◌, append_assoc}
use Prim.Native.Nat.{ℕ, ◌+◌, ◌<◌}
use native.Mathlib.Omega.{arith}
use lib.ListN.{length, length-append}
use Rattle.text.specs.Text.{decimal_of}
use Rattle.text.proofs.Decimals.{tail_of, decimal_told}
use Rattle.listing.specs.Listing.{net_word, pin_word, relay, switch}

-- ---- lengths

pub length_net : (n : ℕ) → length (net_word n) ≡ 2 + length (decimal_of n)
unfolding net_word
length_net n = omega arith

pub length_pin : (l : List ℕ) (x : ℕ) → length (pin_word l x) ≡ 3 + length l
unfolding pin_word
length_pin l x = simp length-append (omega arith)

pub length_relay : (l : List ℕ) (n : ℕ) → length (relay l n) ≡ 2 + length (net_word n) + length (pin_word l 65) + length (pin_word l 66)
unfolding relay
length_relay l n = simp length-append (omega arith)

pub length_switch : (l : List ℕ) (x a b : ℕ) → length (switch l x a b) ≡ 2 + length (pin_word l x) + length (net_word a) + length (net_word b)
unfolding switch
length_switch l x a b = simp length-append (omega arith)

-- ---- what lines tell

front : (l s t : List ℕ) → l ++ s ≡ l ++ t → s ≡ t
front [] s t e = e
front (a ∷ l) s t e = front l s t (tail_of e)

-- a net with a byte below the digits behind it tells the net and what follows
net_told : (n m d : ℕ) (s t : List ℕ) → d < 48 → net_word n ++ d ∷ s ≡ net_word m ++ d ∷ t → (n ≡ m) × (s ≡ t)
unfolding net_word
net_told n m d s t lt e = decimal_told n m d s t lt (tail_of (tail_of e))

-- a relay's line and what follows it
relay_spelt : (l : List ℕ) (n : ℕ) (s : List ℕ) → relay l n ++ s ≡ 82 ∷ (net_word n ++ 32 ∷ ((l ++ (46 ∷ 65 ∷ [])) ++ (pin_word l 66 ++ (10 ∷ s))))
unfolding relay pin_word
relay_spelt l n s = simp append_assoc

pub relay_told : (l : List ℕ) (n m : ℕ) (s t : List ℕ) → relay l n ++ s ≡ relay l m ++ t → (n ≡ m) × (s ≡ t)
relay_told l n m s t e =
    let a : List ℕ = l ++ (46 ∷ 65 ∷ []) in
    let b : List ℕ = pin_word l 66 in
    let r = net_told n m 32 (a ++ (b ++ (10 ∷ s))) (a ++ (b ++ (10 ∷ t))) (omega arith) (tail_of (sym (relay_spelt l n s) ∙ e ∙ relay_spelt l m t)) in
    (r.0, tail_of (front b (10 ∷ s) (10 ∷ t) (front a (b ++ (10 ∷ s)) (b ++ (10 ∷ t)) r.1)))

-- a switch's line and what follows it
switch_spelt : (l : List ℕ) (x a b : ℕ) (s : List ℕ) → switch l x a b ++ s ≡ (83 ∷ pin_word l x) ++ (net_word a ++ 32 ∷ (78 ∷ (decimal_of b ++ 10 ∷ s)))
unfolding switch net_word
switch_spelt l x a b s = simp append_assoc

pub switch_told : (l : List ℕ) (x a b a' b' : ℕ) (s t : List ℕ) → switch l x a b ++ s ≡ switch l x a' b' ++ t → (a ≡ a') × (b ≡ b') × (s ≡ t)
switch_told l x a b a' b' s t e =
    let w : ℕ → List ℕ → List ℕ = λ n z. 78 ∷ (decimal_of n ++ 10 ∷ z) in
    let r = net_told a a' 32 (w b s) (w b' t) (omega arith) (front (83 ∷ pin_word l x) (net_word a ++ 32 ∷ w b s) (net_word a' ++ 32 ∷ w b' t) (sym (switch_spelt l x a b s) ∙ e ∙ switch_spelt l x a' b' t)) in
    let q = decimal_told b b' 10 s t (omega arith) (tail_of r.1) in
    (r.0, q.0, q.1)
