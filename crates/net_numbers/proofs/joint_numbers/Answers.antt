-- `net_numbers::joint_numbers` meets its contract: the rows so far are the numbers of the points passed.
use native.Mathlib.Omega.{arith}
use mathlib.Core.Path.{refl, ap, ◌∙◌}
use mathlib.Core.List.{map}
use lib.ListN.{length-set}
use lib.Seq.{take_all}
use Rattle.symbol.specs.Symbols.{unused}
use Rattle.lists.proofs.Finding.{get_in, filled_start, filled_next, filled_end}
use Rattle.net_numbers.specs.Netted.{number_of_joint}
use Rattle.net_numbers.proofs.Keys.{ready_ascend, ready_number}
use Rattle.net_numbers.proofs.Filling.{pads_in}
use Rattle.net_numbers.proofs.joint_numbers.Goals as goal

pub loop-i-init : goal.loop-i-init
loop-i-init c = (refl, record { jointed = c.requires.1.0; keys_are = c.requires.1.1 }, filled_start)

pub number_of-requires : goal.number_of-requires
number_of-requires c = ready_ascend c.loop-i.invariant.1

pub loop-i-preserved : goal.loop-i-preserved
loop-i-preserved c =
    let l = c.loop-i in
    let m = get_in c.args.ps.now l.i unused c.loop-i-test.true in
    let number = ready_number l.invariant.1 _ m refl c.number_of.ensures in
    (length-set l.rows l.i _ ∙ l.invariant.0, l.invariant.1, filled_next unused _ l.invariant.2 number c.loop-i-test.true (omega (arith, c.requires.0)))

pub returns : goal.returns
returns c =
    let ps = c.args.ps.now in
    pads_in c.loop-i.invariant.1.jointed c.requires.0 (filled_end _ c.loop-i.invariant.2 (omega arith) ∙ ap (map (number_of_joint c.args.js.now)) (take_all _ ps (omega arith)))
