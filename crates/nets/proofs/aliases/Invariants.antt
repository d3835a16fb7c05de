-- `nets::aliases` meets its contract: the aliases lead to the nets that the wires passed make. (The power pads are known by the first aliases.)
use mathlib.Core.Path.{◌≡◌}
use mathlib.Core.List.{List, map}
use Prim.Native.Nat.{ℕ}
use lib.ListN.{take}
use Rattle.nets.specs.Numbers.{first_net}
use Rattle.nets.specs.Tables.{Rooted, link_ends, tabulate}
use Rattle.nets.proofs.Chains.{net_with}
use Rattle.nets.proofs.aliases.Given as goal

abbrev pub invariant-loop-wire : goal.invariant-loop-wire
invariant-loop-wire l = (ps : List ℕ) → l.initial.alias ≡ tabulate (first_net ps) 1409 → Rooted (net_with ps (map link_ends (take l.wire-index l.wires))) l.alias
