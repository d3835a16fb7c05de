-- `next_line_number` meets its contract: one more, or the last number of 32 bits again.
use Rattle.panel_save.proofs.Refusals.{next_more, next_most}
use Rattle.panel_save.proofs.lines_taken.next_line_number.Goals as goal

pub returns-then-n-lt4294967295 : goal.returns-then-n-lt4294967295
returns-then-n-lt4294967295 c = next_more c.args.n c.if-n-lt4294967295.true

pub returns : goal.returns
returns c = next_most c.args.n c.if-n-lt4294967295.false
