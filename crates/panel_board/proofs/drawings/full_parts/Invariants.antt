-- `panel_board::full_parts` writes no row past the tables.
use Rattle.std.proofs.Common.{◌≡◌, length}
use Rattle.panel_board.proofs.drawings.full_parts.Given as goal

abbrev pub invariant-loop-k : goal.invariant-loop-k
invariant-loop-k l = (length l.cs ≡ 128) × (length l.js ≡ 1408)
