-- A row among the n rows has what `next` has for it.
use mathlib.Core.Path.{◌∙◌}
use native.Mathlib.Omega.{arith}
use Rattle.lawful.proofs.Linking.{next_in, next_out}
use Rattle.lawful.proofs.columns.next_row.Goals as goal

pub returns-then-k-n : goal.returns-then-k-n
returns-then-k-n c = let a = c.args in c.index.ensures ∙ next_in a.next.now a.n a.k (omega arith)

pub returns : goal.returns
returns c = let a = c.args in next_out a.next.now a.n a.k (λ h. omega arith)
