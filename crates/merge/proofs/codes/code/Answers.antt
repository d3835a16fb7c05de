-- The sum fits, and both numbers are below 65,536.
use Rattle.merge.specs.Codes.{code_of}
use borrow.Author.Rules.{rules}
use native.Mathlib.Omega.{arith}
use Rattle.merge.proofs.codes.code.Goals as goal

pub returns : goal.returns
unfolding code_of
returns c = (omega arith, record { x = search rules; y = search rules })
