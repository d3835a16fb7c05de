-- A flag after another, each by looking up the wire's high end.
use Rattle.std.proofs.Common.{◌≡◌, length, take}
use Rattle.merge.proofs.Flagging.{Flagging}
use Rattle.merge.proofs.held.flags_of.Given as goal

abbrev pub invariant-loop-i : goal.invariant-loop-i
invariant-loop-i l = (length l.flags ≡ 512) × Flagging l.ws (take l.n l.codes) l.i l.flags
