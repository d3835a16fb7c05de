-- The tests of each way out, in the order of the refusals, and the shape at its place.
use mathlib.Core.Path.{refl}
use Rattle.std.specs.Prelude.{Some, None}
use lib.Dec.{lit≤}
use Rattle.cad.proofs.Positions.{tested, converted, small_two}
use Rattle.cad.proofs.Components.{unknown, off_sheet, past, shown}
use Rattle.std.proofs.lemmas.Result.{err_from_is_err_and}
use Rattle.cad.proofs.Ways.{label_refused}
use Rattle.cad.proofs.component.Goals as goal

pub returns-then-not-is_known : goal.returns-then-not-is_known
returns-then-not-is_known c = let s = c.args in unknown s.kind s.orientation s.x s.y s.label s.i s.a s.b c.is_known.ensures c.if-not-is_known.true

pub returns-then-not-is_position : goal.returns-then-not-is_position
returns-then-not-is_position c =
    let X = tested 5800 c.ranges.x c.is_position.ensures in
    let Y = tested 5800 c.ranges.y c.is_position-2.ensures in
    off_sheet c.args.kind c.args.orientation c.args.label c.args.i c.args.a c.args.b c.is_known.ensures c.if-not-is_known.false X Y c.if-not-is_position.true

pub convert-at-requires : goal.convert-at-requires
convert-at-requires c =
    let X = tested 5800 c.ranges.x c.is_position.ensures in
    let Y = tested 5800 c.ranges.y c.is_position-2.ensures in
    small_two X Y (lit≤ tt) c.if-not-is_position.false

pub returns-in-Some : goal.returns-in-Some
returns-in-Some c =
    let X = tested 5800 c.ranges.x c.is_position.ensures in
    let Y = tested 5800 c.ranges.y c.is_position-2.ensures in
    shown c.args.kind c.args.orientation c.args.label c.args.i c.args.a c.args.b c.is_known.ensures c.if-not-is_known.false X Y c.if-not-is_position.false c.in_ok-held_label.ensures (Some c.in-Some.d) c.in-Some.ensures refl c.in_ok-o.ensures (converted X Y c.convert-at.ensures) c.transform.ensures

pub returns-in-None : goal.returns-in-None
returns-in-None c =
    let X = tested 5800 c.ranges.x c.is_position.ensures in
    let Y = tested 5800 c.ranges.y c.is_position-2.ensures in
    past c.args.kind c.args.orientation c.args.label c.args.i c.args.a c.args.b c.is_known.ensures c.if-not-is_known.false X Y c.if-not-is_position.false c.in_ok-held_label.ensures None c.in-None.ensures refl

pub returns-in_err-held_label : goal.returns-in_err-held_label
returns-in_err-held_label c =
    let p = err_from_is_err_and c.from_residual-in_err-held_label.result c.from_residual-in_err-held_label.ensures.1 in
    rw (p.1, p.2)
    (label_refused c.args.kind c.args.orientation c.args.x c.args.y c.args.label c.args.i c.args.a c.args.b c.in_err-held_label.field-0.0 c.is_known.ensures c.if-not-is_known.false c.ranges.x c.ranges.y c.is_position.ensures c.is_position-2.ensures c.if-not-is_position.false c.in_err-held_label.ensures)
