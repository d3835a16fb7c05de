-- `net_numbers::links` meets its contract: the rows so far are the numbers at the ends of the wires passed.
use native.Mathlib.Omega.{arith}
use mathlib.Core.Path.{refl, ap, ◌∙◌}
use mathlib.Core.List.{map}
use lib.ListN.{length-set}
use lib.Seq.{take_all}
use Rattle.sheet.specs.Drawings.{zero_wire}
use Rattle.lists.proofs.Finding.{get_in, filled_start, filled_next, filled_end}
use Rattle.net_numbers.proofs.Numbered.{low_end, high_end}
use Rattle.net_numbers.proofs.Keys.{ready_ascend, ready_number}
use Rattle.net_numbers.proofs.Filling.{numbers_of, links_in}
use Rattle.net_numbers.proofs.links.Goals as goal

pub loop-i-init : goal.loop-i-init
loop-i-init c = (refl, record { jointed = c.requires.1.0; keys_are = c.requires.1.1 }, filled_start)

pub number_of-from-requires : goal.number_of-from-requires
number_of-from-requires c = ready_ascend c.loop-i.invariant.1

pub number_of-to-requires : goal.number_of-to-requires
number_of-to-requires c = ready_ascend c.loop-i.invariant.1

pub loop-i-preserved : goal.loop-i-preserved
loop-i-preserved c =
    let l = c.loop-i in
    let a = c.args in
    let m = get_in a.ws.now l.i zero_wire c.loop-i-test.true in
    let from = ready_number l.invariant.1 _ (low_end m) c.low_tip.ensures c.number_of-from.ensures in
    let to = ready_number l.invariant.1 _ (high_end m) c.high_tip.ensures c.number_of-to.ensures in
    (length-set l.rows l.i _ ∙ l.invariant.0, l.invariant.1, filled_next zero_wire _ l.invariant.2 (λ i. (from i, to i)) c.loop-i-test.true (omega (arith, c.requires.0)))

pub returns : goal.returns
returns c =
    let ws = c.args.ws.now in
    links_in c.loop-i.invariant.1.jointed c.requires.0 (filled_end _ c.loop-i.invariant.2 (omega arith) ∙ ap (map (numbers_of c.args.js.now)) (take_all _ ws (omega arith)))
