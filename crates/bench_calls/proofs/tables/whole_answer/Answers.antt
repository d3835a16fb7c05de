-- By the number.
use mathlib.Core.Path.{◌∙◌}
use Rattle.bench_calls.proofs.Rowing.{whole_merged, whole_joints, whole_pads, whole_nets}
use Rattle.bench_calls.proofs.tables.whole_answer.Goals as goal

pub returns-then-call-eq13 : goal.returns-then-call-eq13
returns-then-call-eq13 c = c.merged_rows.ensures ∙ whole_merged c.args.call c.args.d c.if-call-eq13.true

pub returns-then-call-eq14 : goal.returns-then-call-eq14
returns-then-call-eq14 c = c.joint_rows.ensures ∙ whole_joints c.args.call c.args.d c.if-call-eq13.false c.if-call-eq14.true

pub returns-then-call-eq15 : goal.returns-then-call-eq15
returns-then-call-eq15 c = c.pad_rows.ensures ∙ whole_pads c.args.call c.args.d c.if-call-eq13.false c.if-call-eq14.false c.if-call-eq15.true

pub returns : goal.returns
returns c = c.last_net.ensures ∙ whole_nets c.args.call c.args.d c.if-call-eq13.false c.if-call-eq14.false c.if-call-eq15.false
