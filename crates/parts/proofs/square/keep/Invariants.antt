-- A pass: the table holds those of the rows passed that pass the test.
use Rattle.std.proofs.Common.{◌≤◌, ◌≡◌, Bool}
use Rattle.lists.specs.Lists.{◌∈◌}
use Rattle.lists.proofs.Passes.{Pass, only}
use Rattle.sheet.specs.declared.Component.{Component}
use Rattle.parts.specs.Tables.{TabledParts}
use Rattle.parts.proofs.square.keep.Given as goal

abbrev pub invariant-loop-c : goal.invariant-loop-c
invariant-loop-c g l =
    (l.out.count ≤ l.c-index)
    × ((f : Component → Bool) → ((c : Component) (r : Bool) → c ∈ l.cs → goal.F-post g l.test c r → r ≡ f c) → Pass TabledParts (only f) l.cs l.c-index l.out)
