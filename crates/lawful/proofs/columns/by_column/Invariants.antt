-- The rows from m on are linked.
use Rattle.std.proofs.Common.{◌≡◌, length}
use Rattle.lawful.proofs.Linking.{Linking}
use Rattle.lawful.proofs.columns.by_column.Given as goal

abbrev pub invariant-loop-m : goal.invariant-loop-m
invariant-loop-m l = ((length l.out.first ≡ 12001) × (length l.out.next ≡ 1408)) × Linking l.js (length l.js) l.m l.out.first l.out.next
