-- `loose_pads::count_in` meets its contract: what is left to count are the pads of the components from the index on.
use Prim.Native.Nat.{◌≤◌, ◌*◌}
use lib.ListN.{drop}
use Rattle.loose_pads.specs.Loose.{kinds_of}
use Rattle.loose_pads.proofs.Walking.{Walked}
use Rattle.loose_pads.proofs.count_in.Given as goal

abbrev pub invariant-loop-c : goal.invariant-loop-c
invariant-loop-c l = record {
  pads : l.pad ≤ 3 * l.c-index;
  few : l.loose ≤ 3 * l.c-index;
  walked : Walked (kinds_of l.cs) l.numbers (kinds_of (drop l.c-index l.cs)) l.pad l.loose;
}
