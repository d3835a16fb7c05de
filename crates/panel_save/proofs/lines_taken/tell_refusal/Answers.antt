-- `tell_refusal` meets its contract: nothing, or a line made in a buffer of its own.
use mathlib.Core.Path.{refl, ap, ◌∙◌}
use Rattle.streams.specs.Sums.{sum_of}
use Rattle.panel_save.proofs.Refusals.{not_told, line_is}
use Rattle.panel_save.proofs.lines_taken.tell_refusal.Goals as goal

pub returns-then-reply-eq0 : goal.returns-then-reply-eq0
returns-then-reply-eq0 g c = not_told c.args.n c.args.reply c.if-reply-eq0.true

pub returns : goal.returns
returns g c =
    let p = c.put_refusal-used.ensures in
    c.tell_block.ensures.sum ∙ ap (sum_of c.args.told) (line_is p.0 p.1 refl)
