-- What is on one net and which number a net has (document 01, "Nets and the list"), over points of any kind.
use Rattle.std.specs.Prelude.{◌≡◌, ◌↔◌, List, [], ◌∷◌, ℕ, suc, ◌≤◌, length}
use Rattle.lists.specs.Lists.{◌∈◌}

-- what joins points: wires, each by its two ends, and the power pads
pub record Net (P : Type 0) : Type 0 where
  pub links : List (P × P)
  pub powers : List P

-- a wire has its ends at p and q
pub data Linked {P : Type 0} (links : List (P × P)) (p q : P) : Type 0 where
  forth : (p, q) ∈ links → Linked links p q
  back : (q, p) ∈ links → Linked links p q

-- "A chain is a row of wires, each next one having an end where the one before has an end; it joins the pads at its two outer ends. A pad
-- is on one net with itself." (The empty row joins a point with itself.)
pub data Chain {P : Type 0} (links : List (P × P)) : P → P → Type 0 where
  here : {p : P} → Chain links p p
  on : {p q r : P} → Linked links p q → Chain links q r → Chain links p r

-- fed: a chain joins it with a power pad
pub record Fed {P : Type 0} (net : Net P) (p : P) : Type 0 where
  pub power : P
  pub placed : power ∈ net.powers
  pub chain : Chain net.links p power

-- on one net: a chain joins them, or both are fed
pub data OneNet {P : Type 0} (net : Net P) (p q : P) : Type 0 where
  by_chain : Chain net.links p q → OneNet net p q
  both_fed : Fed net p → Fed net q → OneNet net p q

-- x stands at place i of a list
pub data At {A : Type 0} : List A → ℕ → A → Type 0 where
  first : {x : A} {xs : List A} → At (x ∷ xs) 0 x
  later : {x y : A} {xs : List A} {i : ℕ} → At xs i x → At (y ∷ xs) (suc i) x

-- "each net not met before gets the next number from 1": with the numbers up to k given, each number is one of them, or the next
pub data InOrder : ℕ → List ℕ → Type 0 where
  done : {k : ℕ} → InOrder k []
  old : {k n : ℕ} {ns : List ℕ} → n ≤ k → InOrder k ns → InOrder k (n ∷ ns)
  new : {k : ℕ} {ns : List ℕ} → InOrder (suc k) ns → InOrder k (suc k ∷ ns)

-- the net numbers of a row of pads: one number exactly on one net, 0 exactly when fed ("Fed pads have net 0"), given in order
pub record Numbered {P : Type 0} (net : Net P) (pads : List P) (ns : List ℕ) : Type 0 where
  pub each : length ns ≡ length pads
  pub sames : {i j : ℕ} {p q : P} {m n : ℕ} → At pads i p → At ns i m → At pads j q → At ns j n → (m ≡ n) ↔ OneNet net p q
  pub feds : {i : ℕ} {p : P} {n : ℕ} → At pads i p → At ns i n → (n ≡ 0) ↔ Fed net p
  pub order : InOrder 0 ns

-- of one row of pads, the same pairs are on one net and the same pads are fed
pub record SameOn {P : Type 0} (pads : List P) (net net' : Net P) : Type 0 where
  pub pairs : (p q : P) → p ∈ pads → q ∈ pads → OneNet net p q ↔ OneNet net' p q
  pub feds : (p : P) → p ∈ pads → Fed net p ↔ Fed net' p
