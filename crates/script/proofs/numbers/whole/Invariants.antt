-- What remains to be read, behind the value so far, is always the whole reading, and that value leaves room for the digits that may follow.
use Rattle.std.proofs.Common.{◌≡◌, ◌-◌, ◌≤◌, length, drop}
use Rattle.script.specs.Reading.{digits_of, whole_of}
use Rattle.script.proofs.Room.{Room}
use Rattle.script.proofs.numbers.whole.Given as goal

abbrev pub invariant-loop-i : goal.invariant-loop-i
invariant-loop-i l = record {
  within : l.i ≤ length l.text;
  same : digits_of (6 - l.i) l.value (drop l.i l.text) ≡ whole_of l.text;
  room : Room (6 - l.i) l.value;
}
