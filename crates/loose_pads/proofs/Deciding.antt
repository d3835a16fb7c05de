-- The net numbers decide which pads are loose.
use Prim.Native.Nat.{ℕ, suc, ◌+◌, ◌-◌, ◌<◌}
use native.Mathlib.Omega.{arith}
use mathlib.Core.Bool.{Bool, ◌&&◌}
use mathlib.Core.Logic.{◌⊎◌, inl, inr}
use mathlib.Core.Path.{◌≡◌, refl, sym, ap, subst}
use lib.ListN.{length, get_or, get_or-eq_default as get_or_past}
use Rattle.lists.proofs.Tests.{Reads, fail, reads_as, not_reads, and_reads, eqb_reads, ltb_reads, decide}
use Rattle.symbol.specs.declared.Point.{Point}
use Rattle.sheet.specs.Parts.{pads_of}
use Rattle.sheet.specs.Drawings.{Sheet}
use Rattle.nets.specs.Nets.{At}
use Rattle.nets.proofs.At.{at_low, at_some, at_one, at_get}
use Rattle.net_numbers.specs.Netted.{net_numbers}
use Rattle.net_numbers.proofs.Numbered.{numbered}
use Rattle.loose_pads.specs.Loose.{PadAt, PadName, pad-v, pad-c, pad-a, pad-b, pad-n, pad_names, kinds_of, Called, Further, Connected, fed, further, OtherOfTwo, b_of_a, a_of_b, Loose}
use Rattle.loose_pads.specs.Counting.{occurs, spare, loose_by, is_loose}
use Rattle.loose_pads.proofs.Single.{alone_at, other_at}
use Rattle.loose_pads.proofs.Names.{names_long, name_number, a_then_b, b_after_a}

module _ (s : Sheet) where
  -- ---- a pad's point and number

  number_at : {i : ℕ} {p : Point} → PadAt s i p → At (net_numbers s) i (get_or (net_numbers s) i 0)
  number_at {i} a =
      let r = at_some (net_numbers s) i (omega (arith, at_low a, (numbered s).each)) in
      subst (At (net_numbers s) i) (sym (at_get 0 r.1)) r.1

  pad_at : {i n : ℕ} → At (net_numbers s) i n → (p : Point) × PadAt s i p
  pad_at {i} a = at_some (pads_of s.parts) i (omega (arith, at_low a, (numbered s).each))

  called_pad : {i : ℕ} {name : PadName} → Called s i name → (p : Point) × PadAt s i p
  called_pad {i} a = at_some (pads_of s.parts) i (omega (arith, at_low a, names_long s.parts))

  -- ---- on a net with a further pad or fed

  connected_not : {i : ℕ} {p : Point} → PadAt s i p → (get_or (net_numbers s) i 0 ≡ 0 → ⊥) → occurs (get_or (net_numbers s) i 0) (net_numbers s) ≡ 1 → Connected s i → ⊥
  connected_not a f e (fed b q) = f (((numbered s).feds b (number_at a)).1 q)
  connected_not {i} a f e (further w) =
      let same = ((numbered s).sames w.is_here (number_at a) w.is_there (number_at w.is_there)).1 w.joined in
      w.another (alone_at (number_at a) (subst (At (net_numbers s) w.pad) (sym same) (number_at w.is_there)) e)

  alone_not : {i : ℕ} {p : Point} → PadAt s i p → (occurs (get_or (net_numbers s) i 0) (net_numbers s) ≡ 1 → ⊥) → Further s i
  alone_not {i} {p} a f =
      let o = other_at (number_at a) f in
      let q = pad_at o.2 in
      record { here = p; is_here = a; pad = o.0; another = o.1; there = q.0; is_there = q.1; joined = ((numbered s).sames a (number_at a) q.1 o.2).0 refl }

  pub spare_reads : {i : ℕ} {p : Point} → PadAt s i p → Reads (Connected s i → ⊥) (spare (net_numbers s) i)
  unfolding spare
  spare_reads {i} {p} a =
      let n : ℕ = get_or (net_numbers s) i 0 in
      reads_as (
        λ r. connected_not a r.0 r.1,
        λ g. (λ z. g (fed a (((numbered s).feds a (number_at a)).0 z)), once g (decide (eqb_reads (occurs n (net_numbers s)) 1))),
      ) (and_reads (not_reads (eqb_reads n 0)) (eqb_reads (occurs n (net_numbers s)) 1))
    where
      once : (Connected s i → ⊥) → (occurs (get_or (net_numbers s) i 0) (net_numbers s) ≡ 1) ⊎ (occurs (get_or (net_numbers s) i 0) (net_numbers s) ≡ 1 → ⊥) → occurs (get_or (net_numbers s) i 0) (net_numbers s) ≡ 1
      once g (inl e) = e
      once g (inr f) = absurd (g (further (alone_not a f)))

  -- ---- the other one of the two

  apart : {i : ℕ} {x y : PadName} → Called s i x → Called s i y → name_number x ≡ name_number y
  apart a b = ap name_number (at_one a b)

  no_two : {i j : ℕ} {name : PadName} → Called s i name → (name_number name ≡ 2 → ⊥) → (name_number name ≡ 3 → ⊥) → OtherOfTwo s i j → ⊥
  no_two a f g (b_of_a b) = f (apart a b)
  no_two a f g (a_of_b b) = g (apart a b)

  two_of_a : {i j : ℕ} → Called s i pad-a → OtherOfTwo s i j → j ≡ suc i
  two_of_a a (b_of_a b) = refl
  two_of_a a (a_of_b b) = absurd (omega (arith, apart a b))

  two_of_b : {i j : ℕ} → Called s (suc i) pad-b → OtherOfTwo s (suc i) j → j ≡ i
  two_of_b a (b_of_a b) = absurd (omega (arith, apart a b))
  two_of_b a (a_of_b b) = refl

  -- ---- loose

  loose_if : {i : ℕ} {name : PadName} → Called s i name → (name ≡ pad-v → ⊥) → (Connected s i → ⊥) → ((j : ℕ) → OtherOfTwo s i j → Connected s j → ⊥) → Loose s i
  loose_if {name = name} a v f o = record { name = name; called = a; no_power = v; unfed = λ p b q. f (fed b q); alone = λ w. f (further w); no_other = o }

  loose_own : {i : ℕ} → Loose s i → Connected s i → ⊥
  loose_own l (fed {p} a q) = l.unfed p a q
  loose_own l (further w) = l.alone w

  -- a pad that is neither A nor B
  own_reads : {i : ℕ} {name : PadName} → Called s i name → (name ≡ pad-v → ⊥) → (name_number name ≡ 2 → ⊥) → (name_number name ≡ 3 → ⊥) → Reads (Loose s i) (spare (net_numbers s) i)
  own_reads a v f g = reads_as (λ n. loose_if a v n (λ j o _. no_two a f g o), λ l. loose_own l) (spare_reads (called_pad a).1)

  -- A or B, whose other one is pad j
  two_reads : {i j : ℕ} {name other : PadName} → Called s i name → (name ≡ pad-v → ⊥) → Called s j other → OtherOfTwo s i j → ((k : ℕ) → OtherOfTwo s i k → k ≡ j)
      → {own next : Bool} → Reads (Connected s i → ⊥) own → Reads (Connected s j → ⊥) next → Reads (Loose s i) (own && next)
  two_reads {j = j} a v b o only r q = reads_as (λ n. loose_if a v n.0 (λ k p. subst (λ m. Connected s m → ⊥) (sym (only k p)) n.1), λ l. (loose_own l, l.no_other j o)) (and_reads r q)

  loose_called : {i : ℕ} (name : PadName) → Called s i name → Reads (Loose s i) (loose_by name (spare (net_numbers s) (i - 1)) (spare (net_numbers s) i) (spare (net_numbers s) (i + 1)))
  loose_called pad-v a = fail (λ l. l.no_power (at_one l.called a))
  loose_called pad-c a = own_reads a (λ e. omega (arith, ap name_number e)) (λ e. omega arith) (λ e. omega arith)
  loose_called {i} pad-a a =
      let b = a_then_b (kinds_of s.parts) a in
      let e : suc i ≡ i + 1 = omega arith in
      two_reads a (λ e. omega (arith, ap name_number e)) b (b_of_a a) (λ k o. two_of_a a o) (spare_reads (called_pad a).1)
      (subst (λ k. Reads (Connected s (suc i) → ⊥) (spare (net_numbers s) k)) e (spare_reads (called_pad b).1))
  loose_called {i} pad-b b =
      let r = b_after_a (kinds_of s.parts) b in
      let c : Called s (suc r.before) pad-b = subst (λ k. Called s k pad-b) r.next b in
      let e : r.before ≡ i - 1 = omega (arith, r.next) in
      subst (λ k. Reads (Loose s k) (spare (net_numbers s) k && spare (net_numbers s) (i - 1))) (sym r.next)
      (two_reads c (λ e. omega (arith, ap name_number e)) r.is_a (a_of_b c) (λ k o. two_of_b c o) (spare_reads (called_pad c).1)
      (subst (λ k. Reads (Connected s r.before → ⊥) (spare (net_numbers s) k)) e (spare_reads (called_pad r.is_a).1)))
  loose_called pad-n a = own_reads a (λ e. omega (arith, ap name_number e)) (λ e. omega arith) (λ e. omega arith)

  -- ---- every pad, and none beyond the pads

  pub loose_reads : (i : ℕ) → Reads (Loose s i) (is_loose (pad_names (kinds_of s.parts)) (net_numbers s) i)
  unfolding is_loose
  loose_reads i = here (decide (ltb_reads i (length (pad_names (kinds_of s.parts)))))
    where
      here : (i < length (pad_names (kinds_of s.parts))) ⊎ (i < length (pad_names (kinds_of s.parts)) → ⊥)
          → Reads (Loose s i) (loose_by (get_or (pad_names (kinds_of s.parts)) i pad-v) (spare (net_numbers s) (i - 1)) (spare (net_numbers s) i) (spare (net_numbers s) (i + 1)))
      here (inl h) = let r = at_some (pad_names (kinds_of s.parts)) i h in rw (at_get pad-v r.1) (loose_called r.0 r.1)
      here (inr f) = rw (get_or_past (pad_names (kinds_of s.parts)) pad-v {n = i} (omega (arith, f))) (fail (λ l. f (at_low l.called)))
