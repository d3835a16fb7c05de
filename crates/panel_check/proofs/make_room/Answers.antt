-- `make_room` meets its contract.
use native.Mathlib.Omega.{arith}
use borrow.Author.Tests.{le-leb}
use Rattle.panel_check.proofs.Standing.{kept_none}
use Rattle.panel_check.proofs.make_room.Goals as goal

pub returns-then-used-le65500 : goal.returns-then-used-le65500
returns-then-used-le65500 g c = rw (le-leb _ _ c.if-used-le65500.true)

pub returns : goal.returns
returns g c = kept_none c.args.used (omega arith)
