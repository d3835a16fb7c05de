-- `panel_board::full_wires` writes no row past the tables.
use Rattle.std.proofs.Common.{◌≡◌, length}
use Rattle.panel_board.proofs.drawings.full_wires.Given as goal

abbrev pub invariant-loop-y : goal.invariant-loop-y
invariant-loop-y l = (length l.ws ≡ 512) × (length l.js ≡ 1408)
