-- `nets::own` meets its contract: the places passed have their own number.
use mathlib.Core.Path.{sym, ◌∙◌}
use native.Mathlib.Omega.{arith}
use lib.ListN.{length-set}
use Rattle.nets.proofs.Tabulate.{tabulated, after_set}
use Rattle.nets.proofs.own.Goals as goal

pub loop-n-preserved : goal.loop-n-preserved
loop-n-preserved c =
    let l = c.loop-n in (
      length-set l.alias l.n l.n ∙ l.invariant.0,
      λ j lt. after_set l.alias l.n l.n j j (omega arith) sym (λ ne. l.invariant.1 j (omega (arith, ne))),
    )

pub returns : goal.returns
returns c =
    let l = c.loop-n in
    tabulated l.alias (λ n. n) 1409 l.invariant.0 (λ j lt. l.invariant.1 j (omega arith))
