-- A label begins within its line, or at its end: `label_inside`.
use mathlib.Core.Path.{◌≡◌}
use mathlib.Core.List.{List}
use Prim.Native.Nat.{ℕ, ◌≤◌}
use native.Mathlib.Omega.{arith}
use lib.ListN.{length}
use lib.IntN.{ℤ}
use Rattle.script.specs.Commands.{Command, Horizontal, Vertical, Place, Delete, Turn, Mirror, Nets, Unreadable}
use Rattle.script.specs.Grammar.{horizontal, vertical, delete, turn, mirror, IsLine, three, place, nets, Says, readable, unreadable}
use Rattle.script.specs.Reading.{command_of}
use Rattle.script.proofs.Meaning.{meaning}

abbrev label_at : Command → ℕ
label_at (Horizontal y x1 x2) = 0
label_at (Vertical x y1 y2) = 0
label_at (Place kind orient x y at) = at
label_at (Delete x y size) = 0
label_at (Turn x y size) = 0
label_at (Mirror x y size) = 0
label_at Nets = 0
label_at Unreadable = 0

module _ {s : List ℕ} where
  line_label : {k : Command} → IsLine s k → label_at k ≤ length s
  line_label (three horizontal p q w e) = omega arith
  line_label (three vertical p q w e) = omega arith
  line_label (three delete p q w e) = omega arith
  line_label (three turn p q w e) = omega arith
  line_label (three mirror p q w e) = omega arith
  line_label (place a b c d l e at) = omega arith
  line_label (nets e) = omega arith

  said_label : {k : Command} → Says s k → label_at k ≤ length s
  said_label (readable le g) = line_label g
  said_label (unreadable n) = omega arith

pub label_inside : (s : List ℕ) {kind orient x y : ℤ} {at : ℕ} → command_of s ≡ Place kind orient x y at → at ≤ length s
label_inside s {kind} {orient} {x} {y} {at} e = said_label ((meaning s (Place kind orient x y at)).0 e)
