-- Where those from the index on are apart from the box, all are.
use Rattle.std.proofs.Common.{drop}
use Rattle.lists.specs.Lists.{◌∈◌}
use Rattle.sheet.specs.declared.Component.{Component}
use Rattle.lawful.proofs.Touching.{Apart}
use Rattle.lawful.proofs.boxes.is_apart_from.Given as goal

abbrev pub invariant-loop-b : goal.invariant-loop-b
invariant-loop-b l = ((c : Component) → c ∈ drop l.b-index l.cs → Apart l.p c) → (c : Component) → c ∈ l.cs → Apart l.p c
