-- Lines of document 01, and lines that surprise, with what they say.
use mathlib.Core.Path.{◌≡◌, refl}
use mathlib.Core.List.{List, [], ◌∷◌, map}
use Prim.Native.String.{String}
use lib.IntN.{pos, negsuc}
use Rattle.script.specs.Commands.{Command, Horizontal, Vertical, Place, Delete, Turn, Mirror, Nets, Unreadable}
use Rattle.script.specs.Grammar.{bytes}
use Rattle.script.specs.Reading.{digits_of, whole_of, signed_numeral, numeral_of, field_of, three_of, lettered, three_line, labelled, place_line, line_of, command_of}

examples : List (String × Command)
examples =
    ("h 0 0 100", Horizontal (pos 0) (pos 0) (pos 100))
    ∷ ("v 50 -40 40", Vertical (pos 50) (negsuc 39) (pos 40))
    ∷ ("p 0 0 0 0", Place (pos 0) (pos 0) (pos 0) (pos 0) 9)
    ∷ ("p 2 0 0 400 K1", Place (pos 2) (pos 0) (pos 0) (pos 400) 12)
    ∷ ("d 50 40 5", Delete (pos 50) (pos 40) (pos 5))
    ∷ ("r 0 0 60", Turn (pos 0) (pos 0) (pos 60))
    ∷ ("m 0 0 0", Mirror (pos 0) (pos 0) (pos 0))
    ∷ ("n", Nets)
    -- a second space belongs to the label; one space needs a label behind it
    ∷ ("p 1 0 0 0  K", Place (pos 1) (pos 0) (pos 0) (pos 0) 10)
    ∷ ("p 1 0 0 0 ", Unreadable)
    -- numbers: a minus alone, −0, zeros in front, six digits and seven
    ∷ ("d 0 0 -", Unreadable)
    ∷ ("h -0 000005 999999", Horizontal (pos 0) (pos 5) (pos 999999))
    ∷ ("h 0 0 1234567", Unreadable)
    -- spaces: none, two, one behind the end; a line of no byte
    ∷ ("h0 0 1", Unreadable)
    ∷ ("h 0  0 1", Unreadable)
    ∷ ("n ", Unreadable)
    ∷ ("", Unreadable)
    ∷ []

read : map (λ e. command_of (bytes e.0)) examples ≡ map (λ e. e.1) examples
unfolding examples digits_of whole_of signed_numeral numeral_of field_of three_of lettered three_line labelled place_line line_of command_of
read = refl
