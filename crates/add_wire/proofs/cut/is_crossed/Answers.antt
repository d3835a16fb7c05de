-- Of another direction, then the crossing, then the mark.
use Rattle.add_wire.proofs.Crossed.{crossed_in_line, crossed_marked, crossed_missed, crossed_low}
use native.Mathlib.Omega.{arith}
use Rattle.add_wire.proofs.cut.is_crossed.Goals as goal

pub returns-then-w-n : goal.returns-then-w-n
returns-then-w-n c = crossed_in_line _ _ _ c.if-w-n.true

pub bounds-marks-w : goal.bounds-marks-w
bounds-marks-w c = omega (arith, c.requires, crossed_low _ c.args.marks.now c.args.w c.if-w-n.false c.point_of-p.ensures c.on.ensures c.inside.ensures c.if-on-inside.true)

pub returns-then-on-inside : goal.returns-then-on-inside
returns-then-on-inside c = crossed_marked _ _ c.args.w c.if-w-n.false c.point_of-p.ensures c.on.ensures c.inside.ensures c.if-on-inside.true

pub returns : goal.returns
returns c = crossed_missed _ _ c.args.w c.if-w-n.false c.point_of-p.ensures c.on.ensures c.inside.ensures c.if-on-inside.false
