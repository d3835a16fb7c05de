-- `tell` meets its contract: the list, or an edit's answer line.
use Rattle.std.proofs.Common.{sym, ap, refl, ◌∙◌, arith}
use Rattle.script.specs.Commands.{commanded}
use Rattle.telling.specs.Told.{told}
use Rattle.telling.specs.Fitting.{reply_line}
use Rattle.telling.proofs.Commands.{told_list, told_edit}
use Rattle.telling.proofs.Telling.{tells_as, told_line, replied, line_short}
use Rattle.telling.proofs.tell.Goals as goal

pub tell_list-requires : goal.tell_list-requires
tell_list-requires c =
    c.requires (told_list (commanded c.args.command) (sym c.asks_list.ensures ∙ c.if-asks_list.true))

pub returns-then-asks_list : goal.returns-then-asks_list
returns-then-asks_list c =
    let k = told_list (commanded c.args.command) (sym c.asks_list.ensures ∙ c.if-asks_list.true) in
    tells_as (ap (λ k. told k c.args.e) (sym k)) c.tell_list.ensures

pub put_fitting-length-requires : goal.put_fitting-length-requires
put_fitting-length-requires c =
    let p = c.put_reply-n.ensures in
    record { at_low = omega arith; at_within = omega arith; line_short = (line_short p.0 p.1 refl).1 }

pub slice_bounds-put_fitting-end : goal.slice_bounds-put_fitting-end
slice_bounds-put_fitting-end c = let p = c.put_reply-n.ensures in (line_short p.0 p.1 refl).0

pub returns : goal.returns
returns c =
    let e = c.args.e in
    let p = c.put_reply-n.ensures in
    let edit = sym c.asks_list.ensures ∙ c.if-asks_list.false in
    let line = ap (λ b. reply_line b e) c.tells_counts.ensures in
    tells_as (told_edit (commanded c.args.command) e edit)
    (told_line e _ (replied (rw line at p.0) p.1 refl c.put_fitting-length.ensures))
