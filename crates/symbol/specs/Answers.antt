-- Below the calls: the pads and the box asked of a symbol, in the numbers that rows hold. "A box, pads or a turn asked of a bad kind,
-- orientation or position get 4 or 1, in that order, and zeros for every number."
use Rattle.std.specs.Prelude.{ℕ, zero, suc, []}
use Rattle.orientation.specs.Orientations.{eighth}
use Rattle.symbol.specs.declared.PadBlock.{PadBlock}
use Rattle.symbol.specs.declared.PadsReply.{PadsReply}
use Rattle.symbol.specs.declared.Bounds.{Bounds}
use Rattle.symbol.specs.declared.BoundsReply.{BoundsReply}
use Rattle.symbol.specs.Symbols.{unused, block, box_of, pad_block, bounds_at}
use Rattle.symbol.specs.Replies.{held_reply}

-- the pads, or the refusal and zeros
abbrev pub pads_for : ℕ → PadBlock → PadsReply
pads_for zero p = record { reply = 0; pads = p }
pads_for (suc n) p = record { reply = suc n; pads = block [] }

-- the box, or the refusal and zeros
abbrev pub bounds_for : ℕ → Bounds → BoundsReply
bounds_for zero b = record { reply = 0; bounds = b }
bounds_for (suc n) b = record { reply = suc n; bounds = box_of unused unused }

-- the pads asked of a symbol
unfoldable pub pads_reply_of : ℕ → ℕ → ℕ → ℕ → PadsReply
pads_reply_of kind n x y = pads_for (held_reply kind n x y) (pad_block kind (eighth n) x y)

-- the box asked of a symbol
unfoldable pub aabb_of : ℕ → ℕ → ℕ → ℕ → BoundsReply
aabb_of kind n x y = bounds_for (held_reply kind n x y) (bounds_at kind (eighth n) x y)
