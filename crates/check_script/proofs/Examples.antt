-- Lines of a drawing, and lines that surprise, with what they say.
use mathlib.Core.Path.{◌≡◌, refl}
use mathlib.Core.Bool.{true, false}
use mathlib.Core.List.{List, [], ◌∷◌, map}
use Prim.Native.String.{String}
use Rattle.edge.specs.Coordinates.{biased}
use Rattle.script.specs.Grammar.{bytes}
use Rattle.script.specs.Reading.{digits_of, whole_of, signed_numeral, numeral_of, field_of}
use Rattle.check_script.specs.Saying.{Said, Wire, Component, Joint, WireCount, ComponentCount, JointCount, End, Unreadable}
use Rattle.check_script.specs.Reading.{fitted, fitted_field, vertical_of, direction_of, wire_of, joint_of, labelled_row, stands_of, component_of, row_of, counted_of, count_of, line_said, said_of}

examples : List (String × Said)
examples =
    ("W h 0 0 100", Wire false (record { vertical = false; line = 6000; start = 6000; end = 6100 }))
    ∷ ("W v -6000 5 59535", Wire false (record { vertical = true; line = 0; start = 6005; end = 65535 }))
    ∷ ("Z W h 1 2 3", Wire true (record { vertical = false; line = 6001; start = 6002; end = 6003 }))
    ∷ ("C 1 7 -10 400 K1", Component false 1 7 5990 6400 14)
    ∷ ("C 255 255 0 0", Component false 255 255 6000 6000 13)
    ∷ ("Z J 100 -100 65535", Joint true (record { x = 6100; y = 5900; count = 65535 }))
    ∷ ("# w 513", WireCount 513)
    ∷ ("# c 999999", ComponentCount 999999)
    ∷ ("# j 0", JointCount 0)
    ∷ (".", End)
    -- a second space belongs to the label; 16 bytes of it, and 17; a space with no label behind it
    ∷ ("C 0 0 0 0  K", Component false 0 0 6000 6000 10)
    ∷ ("C 0 0 0 0 1234567890123456", Component false 0 0 6000 6000 10)
    ∷ ("C 0 0 0 0 12345678901234567", Unreadable)
    ∷ ("C 0 0 0 0 ", Unreadable)
    -- numbers that no row can hold
    ∷ ("W h -6001 0 9", Unreadable)
    ∷ ("W h 59536 0 9", Unreadable)
    ∷ ("C 256 0 0 0", Unreadable)
    ∷ ("C 0 256 0 0", Unreadable)
    ∷ ("J 0 0 65536", Unreadable)
    ∷ ("J 0 0 -1", Unreadable)
    ∷ ("# w -1", Unreadable)
    -- more behind the row, two spaces, another letter, a count behind the counts, a line of no byte
    ∷ ("W h 0 0 9 ", Unreadable)
    ∷ ("W h 0  0 9", Unreadable)
    ∷ ("W d 0 0 9", Unreadable)
    ∷ ("Z # w 1", Unreadable)
    ∷ ("Z Z J 0 0 1", Unreadable)
    ∷ ("..", Unreadable)
    ∷ ("", Unreadable)
    ∷ []

read : map (λ e. said_of (bytes e.0)) examples ≡ map (λ e. e.1) examples
unfolding examples digits_of whole_of signed_numeral numeral_of field_of biased fitted fitted_field vertical_of direction_of wire_of joint_of labelled_row stands_of component_of row_of counted_of count_of line_said said_of
read = refl
