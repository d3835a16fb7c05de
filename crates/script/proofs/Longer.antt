-- One digit more of a number: what `whole` knows of i digits, it knows of i + 1, and their value is still below a million.
use Rattle.std.proofs.Common.{◌≡◌, ℕ, suc, ◌+◌, ◌*◌, ◌-◌, ◌<◌, ◌≤◌, List, Some, length, drop, arith, length-drop}
use Rattle.std.proofs.Math.Seq.{drop-drop}
use Rattle.script.specs.Reading.{Front, digits_of}
use Rattle.script.specs.Fronts.{leading_digit}
use Rattle.script.proofs.Room.{Room, room_more, room_below}
use Rattle.script.proofs.Digits.{digit_begins}

pub record Longer (s : List ℕ) (i v : ℕ) (w : Front ℕ) : Type 0 where
  pub within : i ≤ length s
  pub same : digits_of (6 - i) v (drop i s) ≡ w
  pub room : Room (6 - i) v
  pub small : v < 1000000

pub longer : (s : List ℕ) (i v d : ℕ) {w : Front ℕ} → i < 6 → i ≤ length s → Some d ≡ leading_digit (drop i s) → digits_of (6 - i) v (drop i s) ≡ w → Room (6 - i) v
    → Longer s (i + 1) (v * 10 + d) w
longer s i v d {w} l within e same room =
    let g = digit_begins (drop i s) e in
    let n : 6 - i ≡ suc (6 - (i + 1)) = omega arith in
    let more : Room (6 - (i + 1)) (v * 10 + d) = room_more _ _ d g.small (rw n at room) in
    record {
      within = omega (arith, g.some, length-drop i s);
      same = rw (← drop-drop 1 i s, ← g.more (6 - (i + 1)) v) (rw n at same);
      room = more;
      small = room_below _ _ more;
    }
