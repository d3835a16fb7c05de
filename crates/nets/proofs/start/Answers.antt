-- `nets::start` meets its contract: the joints of the power pads passed are at 0.
use mathlib.Core.Path.{sym, ap, ◌∙◌}
use native.Mathlib.Omega.{arith}
use lib.ListN.{get_or, set, take}
use lib.Seq.{take_all}
use Rattle.nets.specs.Numbers.{first_net}
use Rattle.nets.specs.Tables.{tabulate}
use Rattle.nets.proofs.Walks.{pad_joint, pad_next, start_none, start_next}
use Rattle.nets.proofs.start.Goals as goal

pub loop-n-init : goal.loop-n-init
loop-n-init c = c.own-alias.ensures ∙ start_none

pub bounds-alias-n : goal.bounds-alias-n
bounds-alias-n c = (pad_joint c.args.powers.now c.requires c.loop-n.n-index c.loop-n-test.true).high

pub loop-n-preserved : goal.loop-n-preserved
loop-n-preserved c =
    let l = c.loop-n in
    let ps = c.args.powers.now in
    let p = get_or ps l.n-index 0 in
    ap (λ t. set t p 0) l.invariant ∙ start_next (take l.n-index ps) p (pad_joint ps c.requires l.n-index c.loop-n-test.true).high
    ∙ ap (λ qs. tabulate (first_net qs) 1409) (sym (pad_next ps c.requires l.n-index c.loop-n-test.true))

pub returns : goal.returns
returns c = let l = c.loop-n in l.invariant ∙ ap (λ ps. tabulate (first_net ps) 1409) (take_all l.n-index c.args.powers.now (omega arith))
