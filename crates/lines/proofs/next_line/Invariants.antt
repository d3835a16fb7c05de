-- `next_line` meets its contract: what the rest of the chunk brings to the bytes held is always what the whole chunk brings.
use Rattle.std.proofs.Common.{◌≡◌, ◌≤◌, length, take, drop}
use Rattle.lines.specs.Chunks.{bring}
use Rattle.lines.proofs.next_line.Given as goal

abbrev pub invariant-loop-i : goal.invariant-loop-i
invariant-loop-i l = record {
  same : bring (take l.n l.held) (drop l.i l.chunk) ≡ bring (take l.count l.initial.held) (drop l.at l.chunk);
  few : l.n ≤ 81;
  long : length l.held ≡ length l.initial.held;
}
