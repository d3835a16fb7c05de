-- What a line says, of the grammar: a command, or that it is unreadable.
use Rattle.std.specs.Prelude.{ℕ, ℤ, Option, Some, None}
use Rattle.script.specs.declared.Command.{Command as Told}
use Rattle.script.specs.declared.Command.TheVariants as code

-- the commands, with their numbers; the label of a placed component is the part of the line from an index to its end
pub data Command : Type 0 where
  Horizontal : (y x1 x2 : ℤ) → Command
  Vertical : (x y1 y2 : ℤ) → Command
  Place : (kind orient x y : ℤ) (label : ℕ) → Command
  Delete : (x y size : ℤ) → Command
  Turn : (x y size : ℤ) → Command
  Mirror : (x y size : ℤ) → Command
  Nets : Command
  Unreadable : Command

-- what an answer of `read_line` says
abbrev pub commanded : Option Told → Command
commanded (Some (code.Horizontal y x1 x2)) = Horizontal y x1 x2
commanded (Some (code.Vertical x y1 y2)) = Vertical x y1 y2
commanded (Some (code.Place kind orient x y label)) = Place kind orient x y label
commanded (Some (code.Delete x y size)) = Delete x y size
commanded (Some (code.Turn x y size)) = Turn x y size
commanded (Some (code.Mirror x y size)) = Mirror x y size
commanded (Some code.Nets) = Nets
commanded None = Unreadable
