-- Where the boxes from row i on are apart, all are.
use Rattle.std.proofs.Common.{drop, T}
use Rattle.lists.specs.Lists.{links}
use Rattle.sheet.specs.Parts.{ahead}
use Rattle.sheet.specs.Rules.{Rule5}
use Rattle.lawful.proofs.boxes.none_touch.Given as goal

abbrev pub invariant-loop-i : goal.invariant-loop-i
invariant-loop-i l = T (links ahead l.cs) → Rule5 (drop l.i l.cs) → Rule5 l.cs
