-- `symbol::bounds_at` meets its contract: after so many turns to the right the box reaches as the definition has it.
use native.Mathlib.Omega.{arith}
use Rattle.symbol.proofs.Tables.{box_made}
use Rattle.symbol.proofs.bounds_at.Goals as goal

pub returns-in-0 : goal.returns-in-0
returns-in-0 c = box_made c.requires 0 c.in-0.is c.reaching.ensures

pub returns-in-1 : goal.returns-in-1
returns-in-1 c = box_made c.requires 1 c.in-1.is c.reaching-in-1.ensures

pub returns-in-2 : goal.returns-in-2
returns-in-2 c = box_made c.requires 2 c.in-2.is c.reaching-in-2.ensures

pub returns-in_default : goal.returns-in_default
returns-in_default c = box_made c.requires 3 (omega (arith, c.in_default)) c.reaching-in_default.ensures
