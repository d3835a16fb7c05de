-- What an answer is read as leaves one answer: so an equation about that determines what is answered.
use mathlib.Core.Path.{◌≡◌, refl, sym, ap, ◌∙◌}
use Rattle.std.specs.Prelude.{Option, Some, None}
use Rattle.script.specs.Commands.{Command, Horizontal, Vertical, Place, Delete, Turn, Mirror, Nets, Unreadable, commanded}
use Rattle.script.specs.declared.Command.{Command as Told}
use Rattle.script.specs.declared.Command.TheVariants as code

-- the answer that says a command
said : Command → Option Told
said (Horizontal y x1 x2) = Some (code.Horizontal y x1 x2)
said (Vertical x y1 y2) = Some (code.Vertical x y1 y2)
said (Place kind orient x y label) = Some (code.Place kind orient x y label)
said (Delete x y size) = Some (code.Delete x y size)
said (Turn x y size) = Some (code.Turn x y size)
said (Mirror x y size) = Some (code.Mirror x y size)
said Nets = Some code.Nets
said Unreadable = None

back : (r : Option Told) → said (commanded r) ≡ r
unfolding said
back (Some (code.Horizontal y x1 x2)) = refl
back (Some (code.Vertical x y1 y2)) = refl
back (Some (code.Place kind orient x y label)) = refl
back (Some (code.Delete x y size)) = refl
back (Some (code.Turn x y size)) = refl
back (Some (code.Mirror x y size)) = refl
back (Some code.Nets) = refl
back None = refl

pub one_commanded : (r s : Option Told) → commanded r ≡ commanded s → r ≡ s
one_commanded r s e = sym (back r) ∙ ap said e ∙ back s
