-- `shown::show` meets its contract: the reply, and behind it the drawing.
use native.Mathlib.Omega.{arith}
use Rattle.groups.proofs.Held.{all_bytes}
use Rattle.saved.proofs.Files.{lawful_opened}
use Rattle.shown.proofs.Showing.{put_shows, shows_then, shows_as, refused_shown, opened_shown}
use Rattle.shown.proofs.show.Goals as goal

pub returns-then-o-ne0 : goal.returns-then-o-ne0
returns-then-o-ne0 c =
    let p = c.put_numbered-p in
    shows_as (refused_shown c.args.bytes.now c.open-o.ensures c.if-o-ne0.true) (put_shows p.ensures.0 (omega (arith, p.ensures.1, c.requires)) p.auto.line)

pub show_drawing-requires : goal.show_drawing-requires
show_drawing-requires c =
    let p = c.put_numbered-p in
    let bytes = all_bytes c.args.bytes.now (λ i. let h = c.type_inv.bytes i in omega (arith, h)) in
    record { lawful = lawful_opened c.args.bytes.now bytes c.open-o.ensures c.if-o-ne0.false; room = (p.ensures.1, omega (arith, p.auto.line, c.requires)) }

pub returns : goal.returns
returns c =
    let p = c.put_numbered-p in
    let first = put_shows p.ensures.0 (omega (arith, p.ensures.1, c.requires)) p.auto.line in
    shows_as (opened_shown c.args.bytes.now c.open-o.ensures c.if-o-ne0.false) (shows_then first c.show_drawing.ensures)
