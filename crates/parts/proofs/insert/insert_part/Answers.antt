-- A pass: the rows passed, the row carried and those to come are together the rows with the component put in.
use Rattle.std.proofs.Common.{◌≤◌, arith, refl, ◌∙◌, ap, not}
use Rattle.std.specs.List.{position}
use Rattle.std.specs.Option.{unwrap_or}
use Rattle.lists.proofs.Insert.{span_le}
use Rattle.table.proofs.Positions.{place_is}
use Rattle.sheet.specs.Parts.{ahead}
use Rattle.sheet.specs.Tables.{Components}
use Rattle.sheet.specs.Drawings.{component_rows}
use Rattle.table.specs.Tables.{pushed}
use Rattle.parts.specs.Tables.{TabledParts}
use Rattle.parts.proofs.Inserting.{carry_start, carry_store, carry_end}
use Rattle.parts.proofs.insert.insert_part.Goals as goal

pub loop-i-init : goal.loop-i-init
loop-i-init c =
    let a = c.args in
    let rows = component_rows a.cs in
    let few = c.requires.0.count_is in
    let place = c.unwrap_or-from.ensures ∙ ap (λ o. unwrap_or o a.cs.count) (c.row_after.ensures ∙ ap (position (ahead a.c)) c.in_use.ensures) ∙ ap (unwrap_or (position (ahead a.c) rows)) few ∙ place_is (ahead a.c) rows in
    let within : c.unwrap_or-from.result ≤ a.cs.count = omega (arith, place, few, span_le (λ d. not (ahead a.c d)) rows) in
    (within, refl, carry_start _ _ ahead a.c c.requires.0 place within)

pub loop-i-preserved : goal.loop-i-preserved
loop-i-preserved c = (omega arith, c.loop-i.invariant.1, carry_store _ _ _ c.loop-i.invariant.2 c.loop-i-test.true)

pub returns : goal.returns
returns c =
    let n = c.loop-i.invariant.1 in
    rw (c.push.ensures, n) (carry_end _ _ c.loop-i.invariant.2 (omega arith) (omega arith))
