-- What the tests of the two coordinates tell, the tests of the count, and the point.
use lib.Dec.{lit≤}
use native.Mathlib.Omega.{arith}
use Rattle.cad.proofs.Positions.{tested, converted, small_two}
use Rattle.cad.proofs.Marks.{mark_outside, bare}
use Rattle.cad.proofs.junction.Goals as goal

pub returns-then-not-on_sheet : goal.returns-then-not-on_sheet
returns-then-not-on_sheet c =
    let X = tested 6000 c.ranges.x c.on_sheet.ensures in
    let Y = tested 6000 c.ranges.y c.on_sheet-2.ensures in
    mark_outside c.args.count X Y c.if-not-on_sheet.true

pub convert-p-requires : goal.convert-p-requires
convert-p-requires c =
    let X = tested 6000 c.ranges.x c.on_sheet.ensures in
    let Y = tested 6000 c.ranges.y c.on_sheet-2.ensures in
    small_two X Y (lit≤ tt) c.if-not-on_sheet.false

pub returns : goal.returns
returns c =
    let X = tested 6000 c.ranges.x c.on_sheet.ensures in
    let Y = tested 6000 c.ranges.y c.on_sheet-2.ensures in
    bare c.args.count X Y c.if-not-on_sheet.false (converted X Y c.convert-p.ensures) (omega arith) (λ e. omega arith)
