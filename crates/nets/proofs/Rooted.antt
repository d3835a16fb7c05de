-- The aliases lead to the nets, before any wire and after each.
use mathlib.Core.Path.{◌≡◌, refl, sym, ap, ◌∙◌}
use mathlib.Core.Bool.{cond}
use mathlib.Core.Logic.{⊎_elim}
use mathlib.Core.List.{List, [], ◌∷◌, ◌++◌}
use Prim.Native.Nat.{ℕ, ◌≤◌, ◌<◌, min, max}
use native.Mathlib.Omega.{arith}
use lib.Dec.{eqb}
use lib.ListN.{length, get_or}
use Rattle.lists.specs.Lists.{◌∈◌}
use Rattle.lists.proofs.Tests.{decide, choose, eqb_reads}
use Rattle.nets.specs.Nets.{Net}
use Rattle.nets.specs.Numbers.{merged, net_from, first_net, net_of}
use Rattle.nets.specs.Tables.{Falling, root_of, join_of, tabulate, Rooted}
use Rattle.nets.proofs.Chains.{net_with}
use Rattle.nets.proofs.Tabulate.{tabulate_at, tabulate_falls, length_tabulate}
use Rattle.nets.proofs.Told.{start_reads, start_power, start_other, start_low}
use Rattle.nets.proofs.Roots.{root_still, root_step, root_low, join_falls, root_joined, length_join}

-- ---- before any wire
module _ (powers : List ℕ) where
  abbrev table : List ℕ
  table = tabulate (first_net powers) 1409

  start_at : (n : ℕ) → n < 1409 → get_or table n 0 ≡ first_net powers n
  start_at n h = tabulate_at (first_net powers) 1409 n h

  start_falls : Falling table
  start_falls = tabulate_falls (first_net powers) 1409 (start_low powers)

  start_roots : (n : ℕ) → n < 1409 → root_of table n ≡ first_net powers n
  start_roots n h = ⊎_elim
      (λ (i : n ∈ powers). let e = start_power powers n i in root_step table start_falls n ∙ ap (root_of table) (start_at n h ∙ e) ∙ omega (arith, root_low table start_falls 0, e))
      (λ (f : n ∈ powers → ⊥). let e = start_other powers n f in root_still table n (start_at n h ∙ e) ∙ sym e)
      (decide (start_reads powers n))

  pub rooted_start : Rooted (net_with powers []) table
  unfolding net_of net_from
  rooted_start = record { long = length_tabulate (first_net powers) 1409; falls = start_falls; roots = start_roots }

-- ---- one wire more
net_next : (f : ℕ → ℕ) (ls : List (ℕ × ℕ)) (u v n : ℕ) → net_from f (ls ++ ((u, v) ∷ [])) n ≡ merged (net_from f ls) u v n
unfolding net_from merged
net_next f [] u v n = refl
net_next f (l ∷ ls) u v n = net_next (merged f l.0 l.1) ls u v n

merged_as : (f g : ℕ → ℕ) (u v n : ℕ) → f u ≡ g u → f v ≡ g v → f n ≡ g n → merged f u v n ≡ merged g u v n
unfolding merged
merged_as f g u v n eu ev en = λ i. cond (eqb (en i) (max (eu i) (ev i))) (min (eu i) (ev i)) (en i)

pub rooted_next : {powers : List ℕ} {ls : List (ℕ × ℕ)} {al : List ℕ} (u v : ℕ) → u < 1409 → v < 1409 → Rooted (net_with powers ls) al → Rooted (net_with powers (ls ++ ((u, v) ∷ []))) (join_of al u v)
unfolding net_of
rooted_next {powers} {ls} {al} u v hu hv r =
    let lu : u < length al = omega (arith, r.long) in
    let lv : v < length al = omega (arith, r.long) in
    record {
      long = length_join al u v ∙ r.long;
      falls = join_falls al r.falls u v lu lv;
      roots = λ n h. root_joined al r.falls u v lu lv n
          ∙ merged_as (root_of al) (net_from (first_net powers) ls) u v n (r.roots u hu) (r.roots v hv) (r.roots n h)
          ∙ sym (net_next (first_net powers) ls u v n);
    }

-- ---- no net is above its joint
merged_low : (f : ℕ → ℕ) (u v n : ℕ) → merged f u v n ≤ f n
unfolding merged
merged_low f u v n = choose (eqb_reads (f n) (max (f u) (f v))) (λ (k : ℕ). k ≤ f n) (λ e. omega arith) (λ ne. omega arith)

from_low : (f : ℕ → ℕ) (ls : List (ℕ × ℕ)) (n : ℕ) → net_from f ls n ≤ f n
unfolding net_from
from_low f [] n = omega arith
from_low f (l ∷ ls) n = omega (arith, from_low (merged f l.0 l.1) ls n, merged_low f l.0 l.1 n)

pub net_low : (net : Net ℕ) (n : ℕ) → net_of net n ≤ n
unfolding net_of
net_low net n = omega (arith, from_low (first_net net.powers) net.links n, start_low net.powers n)
