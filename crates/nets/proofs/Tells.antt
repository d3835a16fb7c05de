-- A number for each point tells the nets when it is one exactly on one net, and 0 exactly when fed. Merging the numbers at a wire's two ends keeps that up, wire by wire.
use mathlib.Core.Path.{◌≡◌, refl, sym, ap, ◌∙◌}
use mathlib.Core.Bool.{cond}
use mathlib.Core.Logic.{◌⊎◌, inl, inr, ⊎_elim, ◌↔◌}
use mathlib.Core.List.Memᴰ.{head as ∈-head}
use mathlib.Core.List.Memᴰ.{not-nil as ∈-nil}
use mathlib.Core.List.Memᴰ.{tail as ∈-tail}
use mathlib.Core.List.{List, [], ◌∷◌}
use Prim.Native.Nat.{ℕ, ◌≤◌, min, max}
use native.Mathlib.Omega.{arith}
use lib.Dec.{eqb}
use borrow.Author.Tests.{eq-eqb, ne_eqb}
use Rattle.lists.specs.Lists.{◌∈◌}
use Rattle.lists.proofs.Lists.{in_cons}
use Rattle.lists.proofs.Tests.{decide, eqb_reads, leb_reads}
use Rattle.nets.specs.Nets.{Linked, forth, back, Chain, here, on, Fed, OneNet, by_chain, both_fed}
use Rattle.nets.specs.Numbers.{merged, net_from}
use Rattle.nets.proofs.At.{onto, onto_in, in_onto}
use Rattle.nets.proofs.Chains.{net_with, net_back, net_then, net_fed, fed_more, net_more}

module _ {P : Type 0} (J : P → Type 0) (powers : List P) where
  -- what f says at the points of J. What a wire or a power pad says holds at all points
  pub record Tells (links : List (P × P)) (f : P → ℕ) : Type 0 where
    pub wire : (p q : P) → (p, q) ∈ links → f p ≡ f q
    pub power : (p : P) → p ∈ powers → f p ≡ 0
    pub one : (p q : P) → J p → J q → f p ≡ f q → OneNet (net_with powers links) p q
    pub fed : (p : P) → J p → f p ≡ 0 → Fed (net_with powers links) p

-- what is larger
pub larger : (x y : ℕ) → ((max x y ≡ x) × (min x y ≡ y)) ⊎ ((max x y ≡ y) × (min x y ≡ x))
larger x y = ⊎_elim (λ (h : x ≤ y). inr (omega arith)) (λ (h : x ≤ y → ⊥). inl (omega arith)) (decide (leb_reads x y))

-- ---- one wire more
module _ {P : Type 0} {J : P → Type 0} {powers : List P} {links : List (P × P)} {f : P → ℕ} (t : Tells J powers links f) (u v : P) (ju : J u) (jv : J v) where
  abbrev M : ℕ
  M = max (f u) (f v)

  abbrev m : ℕ
  m = min (f u) (f v)

  -- the points with the larger number get the smaller one, and the others stay
  moved : (p : P) → ((f p ≡ M) × (merged f u v p ≡ m)) ⊎ ((f p ≡ M → ⊥) × (merged f u v p ≡ f p))
  unfolding merged
  moved p = ⊎_elim (λ e. inl (e, rw (eq-eqb (f p) M e))) (λ n. inr (n, rw (ne_eqb (f p) M n))) (decide (eqb_reads (f p) M))

  abbrev New : P → P → Type 0
  New = OneNet (net_with powers ((u, v) ∷ links))

  still : {p q : P} → OneNet (net_with powers links) p q → New p q
  still = net_more (λ l i. ∈-tail i)

  still_fed : {p : P} → Fed (net_with powers links) p → Fed (net_with powers ((u, v) ∷ links)) p
  still_fed = fed_more (λ l i. ∈-tail i)

  -- a is the wire's end with the larger number, b the other
  module _ (a b : P) (ja : J a) (jb : J b) (ea : f a ≡ M) (eb : f b ≡ m) (w : Linked ((u, v) ∷ links) a b) where
    reaches : (p : P) → J p → f p ≡ M → New p b
    reaches p jp e = net_then (still (t.one p a jp ja (e ∙ sym ea))) (by_chain (on w here))

    crosses : (p q : P) → J p → J q → f p ≡ M → f q ≡ m → New p q
    crosses p q jp jq e e' = net_then (reaches p jp e) (still (t.one b q jb jq (eb ∙ sym e')))

    one_more : (p q : P) → J p → J q → merged f u v p ≡ merged f u v q → New p q
    one_more p q jp jq e = ⊎_elim
        (λ x. ⊎_elim
        (λ y. still (t.one p q jp jq (x.0 ∙ sym y.0)))
        (λ y. crosses p q jp jq x.0 (sym y.1 ∙ sym e ∙ x.1))
        (moved q))
        (λ x. ⊎_elim
        (λ y. net_back (crosses q p jq jp y.0 (sym x.1 ∙ e ∙ y.1)))
        (λ y. still (t.one p q jp jq (sym x.1 ∙ e ∙ y.1)))
        (moved q))
        (moved p)

    fed_too : (p : P) → J p → merged f u v p ≡ 0 → Fed (net_with powers ((u, v) ∷ links)) p
    fed_too p jp e = ⊎_elim
        (λ x. net_fed (reaches p jp x.0) (still_fed (t.fed b jb (eb ∙ sym x.1 ∙ e))))
        (λ x. still_fed (t.fed p jp (sym x.1 ∙ e)))
        (moved p)

  ends : merged f u v u ≡ merged f u v v
  ends = ⊎_elim (λ x. ⊎_elim (λ y. omega arith) (λ y. omega arith) (moved v)) (λ x. ⊎_elim (λ y. omega arith) (λ y. omega arith) (moved v)) (moved u)

  keeps : {p q : P} → f p ≡ f q → merged f u v p ≡ merged f u v q
  unfolding merged
  keeps e = ap (λ x. cond (eqb x M) m x) e

  keeps_zero : (p : P) → f p ≡ 0 → merged f u v p ≡ 0
  keeps_zero p e = ⊎_elim (λ x. omega arith) (λ x. omega arith) (moved p)

  pub tells_one_more : Tells J powers ((u, v) ∷ links) (merged f u v)
  tells_one_more =
      let forward : Linked ((u, v) ∷ links) u v = forth (∈-head refl) in
      let backward : Linked ((u, v) ∷ links) v u = back (∈-head refl) in
      record {
        wire = λ p q i. in_cons (λ l. merged f u v l.0 ≡ merged f u v l.1) ends (λ l k. keeps (t.wire l.0 l.1 k)) i;
        power = λ p i. keeps_zero p (t.power p i);
        one = ⊎_elim (λ e. one_more u v ju jv (sym e.0) (sym e.1) forward) (λ e. one_more v u jv ju (sym e.0) (sym e.1) backward) (larger (f u) (f v));
        fed = ⊎_elim (λ e. fed_too u v ju jv (sym e.0) (sym e.1) forward) (λ e. fed_too v u jv ju (sym e.0) (sym e.1) backward) (larger (f u) (f v));
      }

-- ---- all the wires
module _ {P : Type 0} {J : P → Type 0} {powers : List P} where
  tells_onto : (ls : List (P × P)) {ks : List (P × P)} {f : P → ℕ} → ((l : P × P) → l ∈ ls → J l.0 × J l.1) → Tells J powers ks f → Tells J powers (onto ls ks) (net_from f ls)
  unfolding onto net_from
  tells_onto [] e t = t
  tells_onto (l ∷ ls) e t = let j = e l (∈-head refl) in tells_onto ls (λ k i. e k (∈-tail i)) (tells_one_more t l.0 l.1 j.0 j.1)

  tells_same : {ls ks : List (P × P)} {f : P → ℕ} → ((l : P × P) → l ∈ ks → l ∈ ls) → ((l : P × P) → l ∈ ls → l ∈ ks) → Tells J powers ls f → Tells J powers ks f
  tells_same to from t = record {
    wire = λ p q i. t.wire p q (to (p, q) i);
    power = t.power;
    one = λ p q jp jq e. net_more from (t.one p q jp jq e);
    fed = λ p jp e. fed_more from (t.fed p jp e);
  }

  -- where a number tells the nets without any wire, its merges tell them with the wires
  pub tells_all : (ls : List (P × P)) {f : P → ℕ} → ((l : P × P) → l ∈ ls → J l.0 × J l.1) → Tells J powers [] f → Tells J powers ls (net_from f ls)
  tells_all ls e t = tells_same (λ l i. in_onto ls (inl i)) (λ l i. ⊎_elim (λ (j : l ∈ ls). j) (λ (j : l ∈ []). absurd (∈-nil j)) (onto_in ls [] i)) (tells_onto ls e t)

  module _ {ls : List (P × P)} {f : P → ℕ} (t : Tells J powers ls f) where
    chained : {p q : P} → Chain ls p q → f p ≡ f q
    chained here = refl
    chained (on {p} {q} (forth i) c) = t.wire p q i ∙ chained c
    chained (on {p} {q} (back i) c) = sym (t.wire q p i) ∙ chained c

    fed_zero : {p : P} → Fed (net_with powers ls) p → f p ≡ 0
    fed_zero d = chained d.chain ∙ t.power d.power d.placed

    one_number : {p q : P} → OneNet (net_with powers ls) p q → f p ≡ f q
    one_number (by_chain c) = chained c
    one_number (both_fed d e) = fed_zero d ∙ sym (fed_zero e)

    -- one number exactly on one net, 0 exactly when fed
    pub tells_one : (p q : P) → J p → J q → (f p ≡ f q) ↔ OneNet (net_with powers ls) p q
    tells_one p q jp jq = (t.one p q jp jq, one_number)

    pub tells_fed : (p : P) → J p → (f p ≡ 0) ↔ Fed (net_with powers ls) p
    tells_fed p jp = (t.fed p jp, fed_zero)
