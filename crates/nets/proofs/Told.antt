-- The computed nets and numbers are those of the chains: at joints, and at points that each have a joint's number of their own.
use mathlib.Core.Path.{◌≡◌, refl, sym, ap₂, subst, ◌∙◌}
use mathlib.Core.Logic.{⊎_elim, ◌↔◌}
use mathlib.Core.List.Memᴰ.{map as ∈-map}
use mathlib.Core.List.Memᴰ.{not-nil as ∈-nil}
use mathlib.Core.List.Memᴰ.{of_map as ∈-of-map}
use mathlib.Core.List.{List, [], ◌∷◌, map}
use Prim.Native.Nat.{ℕ, ◌≤◌, ◌<◌}
use native.Mathlib.Omega.{arith}
use lib.Dec.{eqb}
use lib.ListN.{length, get_or, length-map}
use Rattle.lists.specs.Lists.{◌∈◌}
use Rattle.std.specs.List.{list_any}
use Rattle.lists.proofs.Lists.{any_reads}
use Rattle.lists.proofs.Tests.{Reads, decide, choose, eqb_reads, reads_as}
use Rattle.nets.specs.Nets.{Net, here, Fed, OneNet, by_chain, both_fed, Numbered}
use Rattle.nets.specs.Numbers.{merged, net_from, first_net, net_of, by_number, numbering, numbers_of}
use Rattle.nets.proofs.At.{at_in, at_map}
use Rattle.nets.proofs.Chains.{net_with}
use Rattle.nets.proofs.Tells.{Tells, tells_all, tells_one, tells_fed}
use Rattle.nets.proofs.Order.{order_low}
use Rattle.nets.proofs.Numbering.{numbering_each, numbering_order, numbering_one, numbering_zero}

-- ---- before any wire

module _ {P : Type 0} {J : P → Type 0} {powers : List P} {f : P → ℕ} where
  -- a power pad is at 0, and any other point has a number of its own
  starts : ((p : P) → p ∈ powers → f p ≡ 0) → ((p : P) → J p → f p ≡ 0 → p ∈ powers) → ((p q : P) → J p → J q → 0 < f p → f p ≡ f q → p ≡ q) → Tells J powers [] f
  starts zero power own = record {
    wire = λ p q i. absurd (∈-nil i);
    power = zero;
    one = λ p q jp jq e. ⊎_elim
        (λ z. both_fed (fed p jp z) (fed q jq (sym e ∙ z)))
        (λ n. subst (OneNet (net_with powers []) p) (own p q jp jq (omega (arith, n)) e) (by_chain here))
        (decide (eqb_reads (f p) 0));
    fed = fed;
  }
    where
      fed : (p : P) → J p → f p ≡ 0 → Fed (net_with powers []) p
      fed p jp e = record { power = p; placed = power p jp e; chain = here }

pub start_reads : (powers : List ℕ) (n : ℕ) → Reads (n ∈ powers) (list_any (eqb n) powers)
start_reads powers n = reads_as (λ t. subst (λ m. m ∈ powers) (sym t.2) t.1, λ i. (n, i, refl)) (any_reads (eqb_reads n) powers)

pub start_power : (powers : List ℕ) (n : ℕ) → n ∈ powers → first_net powers n ≡ 0
unfolding first_net
start_power powers n i = choose (start_reads powers n) (λ m. m ≡ 0) (λ p. refl) (λ f. absurd (f i))

pub start_other : (powers : List ℕ) (n : ℕ) → (n ∈ powers → ⊥) → first_net powers n ≡ n
unfolding first_net
start_other powers n f = choose (start_reads powers n) (λ m. m ≡ n) (λ i. absurd (f i)) (λ g. refl)

pub start_low : (powers : List ℕ) (n : ℕ) → first_net powers n ≤ n
start_low powers n = ⊎_elim
    (λ (i : n ∈ powers). omega (arith, start_power powers n i))
    (λ (f : n ∈ powers → ⊥). omega (arith, start_other powers n f))
    (decide (start_reads powers n))

-- the points of J have numbers of their own, and ps are those of the power pads
module _ {P : Type 0} {J : P → Type 0} {powers : List P} (number : P → ℕ) (ps : List ℕ)
    (own : (p q : P) → J p → J q → number p ≡ number q → p ≡ q) (above : (p : P) → J p → 0 < number p) (joint : (p : P) → p ∈ powers → J p)
    (there : (p : P) → p ∈ powers → number p ∈ ps) (back : (n : ℕ) → n ∈ ps → (p : P) × p ∈ powers × (number p ≡ n)) where
  abbrev f : P → ℕ
  f p = first_net ps (number p)

  other : (p : P) → (f p ≡ 0 → ⊥) → f p ≡ number p
  other p n = start_other ps (number p) (λ i. n (start_power ps (number p) i))

  start_tells : Tells J powers [] f
  start_tells = starts
      (λ p i. start_power ps (number p) (there p i))
      (λ p jp e. ⊎_elim
      (λ (i : number p ∈ ps). let b = back (number p) i in subst (λ q. q ∈ powers) (own b.0 p (joint b.0 b.1) jp b.2) b.1)
      (λ (n : number p ∈ ps → ⊥). absurd (omega (arith, start_other ps (number p) n, above p jp)))
      (decide (start_reads ps (number p))))
      (λ p q jp jq h e. own p q jp jq (sym (other p (λ z. omega arith)) ∙ e ∙ other q (λ z. omega arith)))

-- ---- joints: the nets of a table are those of the chains

-- each wire end and each power pad is at a joint, which has a number above 0
module _ (net : Net ℕ) (ends : (l : ℕ × ℕ) → l ∈ net.links → (0 < l.0) × (0 < l.1)) (powers : (n : ℕ) → n ∈ net.powers → 0 < n) where
  nets_told : Tells (λ n. 0 < n) net.powers net.links (net_of net)
  unfolding net_of
  nets_told = tells_all net.links ends (start_tells (λ n. n) net.powers (λ p q jp jq e. e) (λ n h. h) powers (λ n i. i) (λ n i. (n, i, refl)))

  -- one net exactly where a chain joins them or both are fed
  pub one_net : (a b : ℕ) → 0 < a → 0 < b → (net_of net a ≡ net_of net b) ↔ OneNet net a b
  one_net = tells_one nets_told

  -- net 0 exactly where fed
  pub fed_zero : (a : ℕ) → 0 < a → (net_of net a ≡ 0) ↔ Fed net a
  fed_zero = tells_fed nets_told

-- ---- points: the numbers of their joints give the numbers of their nets

module _ {P : Type 0} where
  net_by_number : (number : P → ℕ) (g : ℕ → ℕ) (ls : List (P × P)) (p : P) → net_from (λ q. g (number q)) ls p ≡ net_from g (map (λ l. (number l.0, number l.1)) ls) (number p)
  unfolding net_from merged
  net_by_number number g [] p = refl
  net_by_number number g (l ∷ ls) p = net_by_number number (merged g (number l.0) (number l.1)) ls p

  maps_same : (f : P → ℕ) (g : ℕ → ℕ) (h : P → ℕ) → ((p : P) → f p ≡ g (h p)) → (ps : List P) → map f ps ≡ map g (map h ps)
  maps_same f g h e [] = refl
  maps_same f g h e (p ∷ ps) = ap₂ ◌∷◌ (e p) (maps_same f g h e ps)

  numbered_by : {J : P → Type 0} {net : Net P} {f : P → ℕ} (pads : List P) → ((p : P) → p ∈ pads → J p) → Tells J net.powers net.links f → Numbered net pads (numbering (map f pads))
  numbered_by {J} {net} {f} pads joints t =
      let xs = map f pads in
      record {
        each = numbering_each xs ∙ length-map pads f;
        sames = λ a s b u. let k = numbering_one xs (at_map f a) s (at_map f b) u in let w = tells_one t _ _ (joints _ (at_in a)) (joints _ (at_in b)) in (λ e. w.0 (k.0 e), λ o. k.1 (w.1 o));
        feds = λ a s. let k = numbering_zero xs (at_map f a) s in let w = tells_fed t _ (joints _ (at_in a)) in (λ e. w.0 (k.0 e), λ o. k.1 (w.1 o));
        order = numbering_order xs;
      }

  -- the points of J have joint numbers of their own, and each wire end, power pad and pad is one of them
  pub record OwnNumbers (J : P → Type 0) (number : P → ℕ) (net : Net P) (pads : List P) : Type 0 where
    pub own : (p q : P) → J p → J q → number p ≡ number q → p ≡ q
    pub above : (p : P) → J p → 0 < number p
    pub ends : (l : P × P) → l ∈ net.links → J l.0 × J l.1
    pub powered : (p : P) → p ∈ net.powers → J p
    pub padded : (p : P) → p ∈ pads → J p

  -- then the numbers computed from their joints are the net numbers of the pads
  pub numbers_right : {J : P → Type 0} {number : P → ℕ} {net : Net P} {pads : List P} → OwnNumbers J number net pads → Numbered net pads (numbers_of (by_number number net) (map number pads))
  unfolding numbers_of net_of
  numbers_right {J} {number} {net} {pads} h =
      let g : ℕ → ℕ = first_net (map number net.powers) in
      let start : Tells J net.powers [] (λ p. g (number p)) = start_tells number (map number net.powers) h.own h.above h.powered (λ p i. ∈-map number i) (λ n i. ∈-of-map number net.powers i) in
      subst (λ xs. Numbered net pads (numbering xs)) (maps_same _ (net_of (by_number number net)) number (net_by_number number g net.links) pads)
      (numbered_by pads h.padded (tells_all net.links h.ends start))

-- no net number is above the number of pads
pub numbers_low : (net : Net ℕ) (pads : List ℕ) (i : ℕ) → get_or (numbers_of net pads) i 0 ≤ length pads
unfolding numbers_of
numbers_low net pads i =
    let xs = map (net_of net) pads in
    omega (arith, order_low (numbering_order xs) i, numbering_each xs, length-map pads (net_of net))
