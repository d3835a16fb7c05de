-- With no room for the rest there is none at the end; else the run is laid among it.
use Rattle.std.proofs.Common.{◌∙◌}
use Rattle.std.proofs.lemmas.Result.{MatchResult-from_err}
use Rattle.lists.proofs.Tables.{holds_list}
use Rattle.add_wire.proofs.Laying.{rest_over, laid_edit, edit_line, edit_free}
use Rattle.add_wire.proofs.add_wire.Goals as goal

pub returns-in_err-rest : goal.returns-in_err-rest
returns-in_err-rest c = MatchResult-from_err _ _ _ c.from_residual.ensures.0 (λ _. rest_over _ _ c.args.pads.now c.in_err-rest.ensures)

pub laid-requires-clause-same_line : goal.laid-requires-clause-same_line
laid-requires-clause-same_line c = edit_line _ _ c.run_of.ensures

pub laid-requires-clause-unmet : goal.laid-requires-clause-unmet
laid-requires-clause-unmet c = edit_free _ _ (c.in_use.ensures ∙ holds_list c.in_ok-rest.ensures)

pub returns : goal.returns
returns c = laid_edit _ _ _ _ c.run_of.ensures (c.in_use.ensures ∙ holds_list c.in_ok-rest.ensures) c.laid.ensures
