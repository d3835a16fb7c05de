-- Net numbers are told by the nets: two rows of pads have the same numbers exactly when the same pairs are on one net and the same pads are fed. So each row has one list of net numbers.
use mathlib.Core.Path.{◌≡◌, refl, sym, subst, ◌∙◌}
use mathlib.Core.Logic.{◌↔◌}
use mathlib.Core.List.{List}
use Prim.Native.Nat.{ℕ}
use native.Mathlib.Omega.{arith}
use lib.ListN.{length}
use Rattle.nets.specs.Nets.{Net, At, Fed, OneNet, Numbered, SameOn}
use Rattle.nets.proofs.At.{at_low, at_some, at_one, at_in, in_at}
use Rattle.nets.proofs.Order.{Alike, order_told}

-- `SameOn` of two rows of pads, place by place
pub record SameNets {P Q : Type 0} (net : Net P) (pads : List P) (net' : Net Q) (pads' : List Q) : Type 0 where
  pub pairs : {i j : ℕ} {p q : P} {p' q' : Q} → At pads i p → At pads' i p' → At pads j q → At pads' j q' → OneNet net p q ↔ OneNet net' p' q'
  pub feds : {i : ℕ} {p : P} {p' : Q} → At pads i p → At pads' i p' → Fed net p ↔ Fed net' p'

-- an equivalence carried over at both ends
carry : {A B C D : Type 0} → A ↔ C → B ↔ D → A ↔ B → C ↔ D
carry p q r = (λ c. q.0 (r.0 (p.1 c)), λ d. p.0 (r.1 (q.1 d)))

turn : {A B : Type 0} → A ↔ B → B ↔ A
turn p = (p.1, p.0)

module _ {P Q : Type 0} {net : Net P} {pads : List P} {net' : Net Q} {pads' : List Q} {ns ms : List ℕ} (h : Numbered net pads ns) (h' : Numbered net' pads' ms) (len : length pads ≡ length pads') where
  nets_same : ns ≡ ms → SameNets net pads net' pads'
  nets_same e = record {
    pairs = λ {i} {j} a a' b b'.
        let m = at_some ns i (omega (arith, at_low a, h.each)) in
        let n = at_some ns j (omega (arith, at_low b, h.each)) in
        let k = h.sames a m.1 b n.1 in
        let k' = h'.sames a' (subst (λ l. At l i m.0) e m.1) b' (subst (λ l. At l j n.0) e n.1) in
        (λ o. k'.0 (k.1 o), λ o. k.0 (k'.1 o));
    feds = λ {i} a a'.
        let n = at_some ns i (omega (arith, at_low a, h.each)) in
        let k = h.feds a n.1 in
        let k' = h'.feds a' (subst (λ l. At l i n.0) e n.1) in
        (λ o. k'.0 (k.1 o), λ o. k.0 (k'.1 o));
  }

  numbers_same : SameNets net pads net' pads' → ns ≡ ms
  numbers_same s = order_told h.order h'.order (h.each ∙ len ∙ sym h'.each)
      (λ a le. let z : 0 ≡ a = omega arith in subst (Alike ns ms) z (record {
        at = λ {i} t t'.
            let p = at_some pads i (omega (arith, at_low t, h.each)) in
            let p' = at_some pads' i (omega (arith, at_low t', h'.each)) in
            carry (turn (h.feds p.1 t)) (turn (h'.feds p'.1 t')) (s.feds p.1 p'.1);
      }))
      (record {
        at = λ {i} {j} t t' u u'.
            let p = at_some pads i (omega (arith, at_low t, h.each)) in
            let p' = at_some pads' i (omega (arith, at_low t', h'.each)) in
            let q = at_some pads j (omega (arith, at_low u, h.each)) in
            let q' = at_some pads' j (omega (arith, at_low u', h'.each)) in
            carry (turn (h.sames p.1 t q.1 u)) (turn (h'.sames p'.1 t' q'.1 u')) (s.pairs p.1 p'.1 q.1 q'.1);
      })

  pub same_numbers : (ns ≡ ms) ↔ SameNets net pads net' pads'
  same_numbers = (nets_same, numbers_same)

-- one row of pads
module _ {P : Type 0} {net net' : Net P} {pads : List P} where
  on_places : SameOn pads net net' → SameNets net pads net' pads
  on_places s = record {
    pairs = λ {p = p} {q = q} a a' b b'. across (λ x y. OneNet net p q ↔ OneNet net' x y) (at_one a a') (at_one b b') (s.pairs p q (at_in a) (at_in b));
    feds = λ {p = p} a a'. subst (λ x. Fed net p ↔ Fed net' x) (at_one a a') (s.feds p (at_in a));
  }
    where
      across : (F : P → P → Type 0) {x x' y y' : P} → x ≡ x' → y ≡ y' → F x y → F x' y'
      across F {x} {x'} {y} {y'} e g t = subst (F x') g (subst (λ z. F z y) e t)

  on_row : SameNets net pads net' pads → SameOn pads net net'
  on_row s = record {
    pairs = λ p q i j. let a = in_at i in let b = in_at j in s.pairs a.1 a.1 b.1 b.1;
    feds = λ p i. let a = in_at i in s.feds a.1 a.1;
  }

  -- two nets number them alike exactly when the same pairs are on one net and the same pads are fed
  pub same_row : {ns ms : List ℕ} → Numbered net pads ns → Numbered net' pads ms → (ns ≡ ms) ↔ SameOn pads net net'
  same_row h h' = let law = same_numbers h h' refl in (λ e. on_row (law.0 e), λ s. law.1 (on_places s))

-- a row of pads has one list of net numbers
pub numbers_only : {P : Type 0} {net : Net P} {pads : List P} {ns ms : List ℕ} → Numbered net pads ns → Numbered net pads ms → ns ≡ ms
numbers_only h h' = (same_row h h').1 (record { pairs = λ p q i j. itself; feds = λ p i. itself })
  where
    itself : {A : Type 0} → A ↔ A
    itself = (λ a. a, λ a. a)
