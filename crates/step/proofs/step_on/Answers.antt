-- `step::step_on` meets its contract: the edit that the line asks for, told as its command is; or 10.
use Rattle.step.specs.Steps.{edit_of}
use Rattle.step.proofs.Stepping.{steps_line, lawful_told}
use Rattle.step.proofs.step_on.Goals as goal

pub tell-requires : goal.tell-requires
unfolding edit_of
tell-requires c = let a = c.args in lawful_told a.d a.t a.line.now c.requires c.refused.ensures

pub returns-in_default : goal.returns-in_default
unfolding edit_of
returns-in_default c = let a = c.args in steps_line a.d a.t a.line.now c.requires c.in_default.ensures c.refused.ensures c.tell.ensures

pub tell-requires-2 : goal.tell-requires-2
tell-requires-2 c = let a = c.args in lawful_told a.d a.t a.line.now c.requires c.edit_on.ensures

pub returns : goal.returns
returns c = let a = c.args in steps_line a.d a.t a.line.now c.requires c.in-Some.ensures c.edit_on.ensures c.tell-2.ensures
