-- What the tests of the three coordinates tell, the test of start and end, and the points.
use lib.Ieee.{of_bits, of_int}
use borrow.Author.Rules.{rules}
use Rattle.draw.specs.Symbols.{whole}
use Rattle.cad.proofs.Positions.{tested, less_test, converted}
use Rattle.cad.proofs.Marks.{wire_outside, small_three, reversed, across}
use Rattle.cad.proofs.wire.Goals as goal

pub returns-then-not-on_sheet : goal.returns-then-not-on_sheet
returns-then-not-on_sheet c =
    let L = tested 6000 c.ranges.line c.on_sheet.ensures in
    let S = tested 6000 c.ranges.start c.on_sheet-2.ensures in
    let E = tested 6000 c.ranges.end c.on_sheet-3.ensures in
    wire_outside c.args.vertical L S E c.if-not-on_sheet.true

pub returns-then-end-start : goal.returns-then-end-start
returns-then-end-start c =
    let L = tested 6000 c.ranges.line c.on_sheet.ensures in
    let S = tested 6000 c.ranges.start c.on_sheet-2.ensures in
    let E = tested 6000 c.ranges.end c.on_sheet-3.ensures in
    reversed c.args.vertical L S E c.if-not-on_sheet.false (less_test E S c.if-end-start.true)

pub convert-requires : goal.convert-requires
convert-requires c =
    let L = tested 6000 c.ranges.line c.on_sheet.ensures in
    let S = tested 6000 c.ranges.start c.on_sheet-2.ensures in
    let E = tested 6000 c.ranges.end c.on_sheet-3.ensures in
    let k = small_three c.args.vertical L S E c.if-not-on_sheet.false in
    (k.0, k.1.0)

pub convert-requires-2 : goal.convert-requires-2
convert-requires-2 c =
    let L = tested 6000 c.ranges.line c.on_sheet.ensures in
    let S = tested 6000 c.ranges.start c.on_sheet-2.ensures in
    let E = tested 6000 c.ranges.end c.on_sheet-3.ensures in
    let k = small_three c.args.vertical L S E c.if-not-on_sheet.false in
    (k.1.0, k.0)

pub convert-requires-3 : goal.convert-requires-3
convert-requires-3 c =
    let L = tested 6000 c.ranges.line c.on_sheet.ensures in
    let S = tested 6000 c.ranges.start c.on_sheet-2.ensures in
    let E = tested 6000 c.ranges.end c.on_sheet-3.ensures in
    let k = small_three c.args.vertical L S E c.if-not-on_sheet.false in
    (k.1.1, k.0)

pub returns : goal.returns
unfolding whole of_bits of_int
returns c =
    let L = tested 6000 c.ranges.line c.on_sheet.ensures in
    let S = tested 6000 c.ranges.start c.on_sheet-2.ensures in
    let E = tested 6000 c.ranges.end c.on_sheet-3.ensures in
    across c.args.vertical L S E c.if-not-on_sheet.false (less_test E S c.if-end-start.false) (search rules) (converted S L c.convert-2.ensures) (converted E L c.convert-3.ensures)
