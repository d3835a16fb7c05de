-- Joints found by key: keys rise as joints do, and a joint's number is the place of its key, counted from 1.
use Prim.Native.Nat.{ℕ, ◌+◌, ◌/◌, ◌%◌, ◌<◌, ◌≤◌}
use native.Mathlib.Omega.{arith}
use mathlib.Core.List.{List}
use mathlib.Core.Path.{◌≡◌, sym, ap, subst, ◌∙◌}
use mathlib.Core.Logic.{◌⊎◌, inl, inr}
use lib.ListN.{length, get_or}
use Rattle.lists.specs.Lists.{◌∈◌}
use Rattle.lists.proofs.Tests.{compare}
use Rattle.symbol.specs.declared.Point.{Point}
use Rattle.sheet.specs.declared.Joint.{Joint}
use Rattle.sheet.specs.Points.{Rise, lower, level}
use Rattle.sheet.specs.Drawings.{zero_joint}
use Rattle.joints.specs.Keys.{spot, KeysOf}
use Rattle.joints.proofs.Keying.{keys_at}
use Rattle.nets.specs.Tables.{JointNumber}
use Rattle.net_numbers.specs.Netted.{number_of_joint}
use Rattle.net_numbers.specs.Found.{Ascending, IndexOf, NumberAt, Jointed}
use Rattle.lists.proofs.Finding.{rows_at}
use Rattle.net_numbers.proofs.Numbered.{number_found}

-- the same spot, the same key
pub key_told : (k l : ℕ) → spot k ≡ spot l → k ≡ l
key_told k l e =
    let x : k % 65536 ≡ l % 65536 = ap (λ (p : Point). p.x) e in
    let y : k / 65536 ≡ l / 65536 = ap (λ (p : Point). p.y) e in
    omega arith

key_rises : (k l : ℕ) → Rise (spot k) (spot l) → k < l
key_rises k l (lower h) = omega arith
key_rises k l (level e h) = omega arith

-- ---- the search

-- with the key's place from low on and below high, of which mid is one
pub record Between (keys : List ℕ) (n k low high : ℕ) : Type 0 where
  pub order : (low ≤ high) × (low < 1408)
  pub top : high ≤ n
  pub only : (m : ℕ) → m < n → get_or keys m 0 ≡ k → (low ≤ m) × (m < high)

module _ {keys : List ℕ} {n : ℕ} (h : Ascending keys n) {k : ℕ} where
  pub between_all : Between keys n k 0 n
  between_all = record { order = (omega arith, omega arith); top = omega arith; only = λ m lt e. (omega arith, lt) }

  pub between_high : {low high : ℕ} (mid : ℕ) → Between keys n k low high → low < mid → mid < high → k < get_or keys mid 0 → Between keys n k low mid
  between_high {low} {high} mid b a c lt = record {
    order = (omega arith, b.order.1);
    top = omega (arith, b.top);
    only = λ m g e. ((b.only m g e).0, below m g e (compare mid m));
  }
    where
      below : (m : ℕ) → m < n → get_or keys m 0 ≡ k → (mid < m) ⊎ ((mid ≡ m) ⊎ (m < mid)) → m < mid
      below m g e (inl x) = absurd (omega (arith, h.rise mid m x g))
      below m g e (inr (inl x)) = absurd (omega (arith, ap (λ i. get_or keys i 0) x))
      below m g e (inr (inr x)) = x

  pub between_low : {low high : ℕ} (mid : ℕ) → Between keys n k low high → low < mid → mid < high → get_or keys mid 0 ≤ k → Between keys n k mid high
  between_low {low} {high} mid b a c le = record {
    order = (omega arith, omega (arith, b.top, h.room));
    top = b.top;
    only = λ m g e. (above m g e (compare mid m), (b.only m g e).1);
  }
    where
      above : (m : ℕ) → m < n → get_or keys m 0 ≡ k → (mid < m) ⊎ ((mid ≡ m) ⊎ (m < mid)) → mid ≤ m
      above m g e (inl x) = omega arith
      above m g e (inr (inl x)) = omega arith
      above m g e (inr (inr x)) = absurd (omega (arith, h.rise m mid x (omega (arith, b.top))))

  pub between_one : {low high : ℕ} → Between keys n k low high → high ≤ low + 1 → IndexOf keys n k low
  between_one b e = record { low = b.order.1; only = λ m g q. let r = b.only m g q in omega arith }

-- ---- numbers

pub index_number : {keys : List ℕ} {n k i : ℕ} {p : Point} → IndexOf keys n k i → spot k ≡ p → NumberAt keys n p (i + 1)
index_number {keys} {n} {k} h e = record { only = λ m g q. let r = h.only m g (key_told (get_or keys m 0) k (q ∙ sym e)) in omega arith }

-- the keys of the joints at hand, and a joint for each of the points
pub record Ready (ps : List Point) (js : List Joint) (keys : List ℕ) : Type 0 where
  pub jointed : Jointed ps js
  pub keys_are : KeysOf js keys

module _ {ps : List Point} {js : List Joint} {keys : List ℕ} (r : Ready ps js keys) where
  pub ready_ascend : Ascending keys (length js)
  ready_ascend = record {
    room = r.jointed.room;
    rise = λ i j a b. key_rises (get_or keys i 0) (get_or keys j 0)
        (both (sym (keys_at r.keys_are r.jointed.room i (omega arith))) (sym (keys_at r.keys_are r.jointed.room j b)) (rows_at r.jointed.rising i j zero_joint a b));
  }
    where
      both : {p q p' q' : Point} → p ≡ p' → q ≡ q' → Rise p q → Rise p' q'
      both {p} {q} {p'} {q'} e f t = subst (Rise p') f (subst (λ x. Rise x q) e t)

  -- the number found is the number of the joint
  pub ready_number : {p : Point} (q : Point) {k : ℕ} → q ∈ ps → p ≡ q → NumberAt keys (length js) p k → k ≡ number_of_joint js q
  ready_number q m e t =
      let f = number_found js q (r.jointed.all q m) in
      t.only f.0 f.2 (keys_at r.keys_are r.jointed.room f.0 f.2 ∙ sym f.3 ∙ sym e) ∙ sym f.1

-- a joint's number is above 0 and below 1,409
pub number_low : {ps : List Point} {js : List Joint} (p : Point) → Jointed ps js → p ∈ ps → JointNumber (number_of_joint js p)
number_low {ps} {js} p j m =
    let f = number_found js p (j.all p m) in
    record { low = omega (arith, f.1); high = omega (arith, f.1, f.2, j.room) }
