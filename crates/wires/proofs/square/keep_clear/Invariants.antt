-- A pass: the table holds those of the rows passed that the box does not meet.
use Rattle.std.proofs.Common.{◌≤◌, not}
use Rattle.symbol.specs.Symbols.{touches_of}
use Rattle.sheet.specs.Boxes.{line}
use Rattle.lists.proofs.Passes.{Pass, only}
use Rattle.wires.specs.Tables.{Tabled}
use Rattle.wires.proofs.square.keep_clear.Given as goal

abbrev pub invariant-loop-w : goal.invariant-loop-w
invariant-loop-w l = (l.out.count ≤ l.w-index) × Pass Tabled (only (λ w. not (touches_of l.b (line w)))) l.ws l.w-index l.out
