-- `symbol::aabb` meets its contract: what is not refused may be placed.
use Rattle.symbol.proofs.Symbols.{placeable, box_refused}
use Rattle.symbol.proofs.aabb.Goals as goal

pub bounds_at-requires : goal.bounds_at-requires
bounds_at-requires c = let s = c.args in placeable s.kind s.n s.x s.y c.in-Ok.ensures

pub returns-in-Err : goal.returns-in-Err
returns-in-Err c = let s = c.args in box_refused s.kind s.n s.x s.y c.in-Err.r _ c.from.ensures c.in-Err.ensures
