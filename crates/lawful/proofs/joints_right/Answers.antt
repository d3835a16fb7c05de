-- Rows that rise and list the points are the joints of the points.
use mathlib.Core.Bool.{false≢true}
use mathlib.Core.Path.{sym, subst, ◌∙◌}
use lib.Dec.{T}
use Rattle.sheet.specs.Joints.{Rising}
use Rattle.sheet.specs.Drawings.{joint_rows}
use Rattle.sheet.proofs.JointRows.{rules_6_7}
use Rattle.lawful.proofs.Sound.{rows_rise}
use Rattle.lawful.proofs.joints_right.Goals as goal

pub returns-then-not-joints_rise : goal.returns-then-not-joints_rise
returns-then-not-joints_rise c = λ e. absurd (false≢true e)

rising : (c : goal.Else-not-joints_rise) → Rising (joint_rows c.args.js)
rising c = subst Rising c.in_use.ensures (rows_rise c.in_use.result.now (subst T (sym (sym c.joints_rise.ensures ∙ c.if-not-joints_rise.false)) tt))

pub joints_listed-requires : goal.joints_listed-requires
joints_listed-requires c = let p = c.requires in (p.0, (rising c, p.1))

pub returns : goal.returns
returns c = λ e. (rules_6_7 _ _).0 (rising c.before, c.joints_listed.ensures e)
