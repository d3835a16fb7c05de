-- `shown::show_drawing` meets its contract: the rows, and behind them the list and the number of loose pads.
use mathlib.Core.Path.{sym, ap, subst}
use mathlib.Core.List.{◌++◌}
use native.Mathlib.Omega.{arith}
use Prim.Native.Nat.{◌≤◌}
use Rattle.sheet.specs.Rules.{Lawful}
use Rattle.sheet.specs.Drawings.{lists_of}
use Rattle.sheet.proofs.Owned.{owned}
use Rattle.joints.proofs.Lawful.{lawful_counted}
use Rattle.redraw.specs.declared.Edited.{Edited}
use Rattle.loose_pads.specs.Counting.{loose_of}
use Rattle.listing.specs.Listing.{list_of}
use Rattle.dump.specs.Rows.{row_lines}
use Rattle.telling.specs.Told.{loose_line}
use Rattle.telling.proofs.Telling.{answer_fits}
use Rattle.telling.proofs.Behind.{length_take_all}
use Rattle.step.specs.Scripts.{no_tally}
use Rattle.shown.specs.Shown.{drawing_shown}
use Rattle.shown.proofs.Showing.{put_shows, shows_then, shows_as, list_shows}
use Rattle.shown.proofs.show_drawing.Goals as goal

pub tally-t-requires : goal.tally-t-requires
tally-t-requires c =
    lawful_counted c.requires.lawful (owned c.args.d _ c.well_formed.0.1.1)

pub tell-s-requires : goal.tell-s-requires
tell-s-requires c =
    λ _ _. subst (λ (e : Edited). Lawful e.drawing) (sym c.refused-e.ensures) c.requires.lawful

pub overflow_add-result : goal.overflow_add-result
overflow_add-result c =
    let p = c.put_row_lines-p in
    omega (arith, answer_fits c.tell-s.ensures.answers c.tell-s.auto.out, length_take_all p.new.out p.result, p.auto.out, p.ensures.put.behind, p.ensures.short, c.requires.room.0, c.requires.room.1)

pub returns : goal.returns
unfolding drawing_shown
returns c =
    let t = c.tell-s in
    let p = c.put_row_lines-p in
    let d = c.args.d in
    let used = p.result in
    let short : used ≤ 53334 = omega (arith, p.ensures.put.behind, p.ensures.short, c.requires.room.0) in
    let rows = put_shows p.ensures.put (omega (arith, c.requires.room.1)) p.auto.out in
    let list = list_shows d no_tally used p.new.out _ c.refused-e.ensures t.ensures (omega (arith, length_take_all p.new.out used, p.auto.out, c.requires.room.1)) (omega (arith, p.auto.out, c.requires.room.1)) t.auto.out in
    shows_as (ap (λ y. row_lines y d ++ (list_of (lists_of d) ++ loose_line (loose_of (lists_of d)))) c.tally-t.ensures) (shows_then rows list)
