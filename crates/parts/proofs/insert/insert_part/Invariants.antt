-- A pass: the rows passed, the row carried and those to come are together the rows with the component put in.
use Rattle.std.proofs.Common.{◌≤◌, ◌≡◌}
use Rattle.lists.specs.Lists.{insert}
use Rattle.sheet.specs.Parts.{ahead}
use Rattle.sheet.specs.Drawings.{zero_component, component_rows}
use Rattle.parts.proofs.Inserting.{Carried}
use Rattle.parts.proofs.insert.insert_part.Given as goal

abbrev pub invariant-loop-i : goal.invariant-loop-i
invariant-loop-i l = (l.i ≤ l.n) × (l.out.count ≡ l.n) × Carried 128 zero_component (insert ahead l.fn.c (component_rows l.fn.cs)) l.n l.i l.out.rows l.carried
