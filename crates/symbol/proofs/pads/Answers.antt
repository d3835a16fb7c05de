-- `symbol::pads` meets its contract: what is not refused may be placed.
use Rattle.symbol.proofs.Symbols.{placeable, pads_refused}
use Rattle.symbol.proofs.pads.Goals as goal

pub pads_at-requires : goal.pads_at-requires
pads_at-requires c = let s = c.args in placeable s.kind s.n s.x s.y c.in-Ok.ensures

pub returns-in-Err : goal.returns-in-Err
returns-in-Err c = let s = c.args in pads_refused s.kind s.n s.x s.y c.in-Err.r _ c.from.ensures c.in-Err.ensures
