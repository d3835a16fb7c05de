-- "Examples on the drawing board (● to be proved)". An example is a script from the empty drawing, with all that each of its lines
-- prints: the answer, then the tally and every row, as `panel_rows` prints them.
use Prim.Native.String.{String}
use Rattle.std.specs.Prelude.{List, [], ◌∷◌, map, ◌≡◌}
use Rattle.board.specs.Calling.{printed_by, text, empty_drawing, nines}

-- each line of a script, with the lines that it prints
abbrev pub Example : Type 0
Example = List (String × List String)

-- the lines of the example, through the call, print what stands beside them; the tally lent at first is 9 9 9 9
abbrev pub ExampleHolds : Example → Type 0
ExampleHolds e = printed_by empty_drawing nines (map (λ l. l.0) e) ≡ map (λ l. text l.1) e

-- each of the examples holds
pub data All : List Example → Type 0 where
  none : All []
  more : {e : Example} {es : List Example} → ExampleHolds e → All es → All (e ∷ es)

-- "Empty, `h 0 0 100`: joints (0,0) and (100,0), each 1. Then `v 50 0 80`: three wires, (50,0) has 3. Then `d 50 40 5`: back to one wire."
abbrev pub tee : Example
tee =
    ("h 0 0 100", "A 0" ∷ "T 1 2 0 2" ∷ "W h 0 0 100" ∷ "J 0 0 1" ∷ "J 100 0 1" ∷ [])
    ∷ ("v 50 0 80", "A 0" ∷ "T 3 4 0 6" ∷ "W h 0 0 50" ∷ "W h 0 50 100" ∷ "W v 50 0 80" ∷ "J 0 0 1" ∷ "J 50 0 3" ∷ "J 100 0 1" ∷ "J 50 80 1" ∷ [])
    ∷ ("d 50 40 5", "A 0" ∷ "T 1 2 0 2" ∷ "W h 0 0 100" ∷ "J 0 0 1" ∷ "J 100 0 1" ∷ [])
    ∷ []

-- "`h 0 0 100`, `v 50 -40 40`: two wires, no joint at (50,0). Then `h 0 50 60`: four wires, (50,0) has 4."
abbrev pub bare_crossing : Example
bare_crossing =
    ("h 0 0 100", "A 0" ∷ "T 1 2 0 2" ∷ "W h 0 0 100" ∷ "J 0 0 1" ∷ "J 100 0 1" ∷ [])
    ∷ ("v 50 -40 40", "A 0" ∷ "T 2 4 0 4" ∷ "W h 0 0 100" ∷ "W v 50 -40 40" ∷ "J 50 -40 1" ∷ "J 0 0 1" ∷ "J 100 0 1" ∷ "J 50 40 1" ∷ [])
    ∷ ("h 0 50 60", "A 0" ∷ "T 4 5 0 8" ∷ "W h 0 0 50" ∷ "W h 0 50 100" ∷ "W v 50 -40 0" ∷ "W v 50 0 40" ∷ "J 50 -40 1" ∷ "J 0 0 1" ∷ "J 50 0 4" ∷ "J 100 0 1" ∷ "J 50 40 1" ∷ [])
    ∷ []

-- "`h 0 0 50`, `h 0 50 100`: one wire."
abbrev pub in_line : Example
in_line =
    ("h 0 0 50", "A 0" ∷ "T 1 2 0 2" ∷ "W h 0 0 50" ∷ "J 0 0 1" ∷ "J 50 0 1" ∷ [])
    ∷ ("h 0 50 100", "A 0" ∷ "T 1 2 0 2" ∷ "W h 0 0 100" ∷ "J 0 0 1" ∷ "J 100 0 1" ∷ [])
    ∷ []

-- "`h 0 0 100`, `v 100 0 50`: two wires, the corner has 2."
abbrev pub corner : Example
corner =
    ("h 0 0 100", "A 0" ∷ "T 1 2 0 2" ∷ "W h 0 0 100" ∷ "J 0 0 1" ∷ "J 100 0 1" ∷ [])
    ∷ ("v 100 0 50", "A 0" ∷ "T 2 3 0 4" ∷ "W h 0 0 100" ∷ "W v 100 0 50" ∷ "J 0 0 1" ∷ "J 100 0 2" ∷ "J 100 50 1" ∷ [])
    ∷ []

-- "`h 0 5 5`: 0, nothing."
abbrev pub zero_length : Example
zero_length =
    ("h 0 5 5", "A 0" ∷ "T 0 0 0 0" ∷ [])
    ∷ []

-- "`h 0 6 5`: 2."
abbrev pub backward : Example
backward =
    ("h 0 6 5", "A 2" ∷ "T 9 9 9 9" ∷ [])
    ∷ []

-- "`h 6001 0 9`: 1; `h 6000 0 9`: 0."
abbrev pub outside : Example
outside =
    ("h 6001 0 9", "A 1" ∷ "T 9 9 9 9" ∷ [])
    ∷ ("h 6000 0 9", "A 0" ∷ "T 1 2 0 2" ∷ "W h 6000 0 9" ∷ "J 0 6000 1" ∷ "J 9 6000 1" ∷ [])
    ∷ []

-- "Contact at (0,0), then at (100,0): 6"
abbrev pub touching : Example
touching =
    ("p 1 0 0 0", "A 0" ∷ "T 0 3 1 3" ∷ "J 0 -100 1" ∷ "J -50 100 1" ∷ "J 50 100 1" ∷ "C 1 0 0 0 " ∷ [])
    ∷ ("p 1 0 100 0", "A 6" ∷ "T 0 3 1 3" ∷ "J 0 -100 1" ∷ "J -50 100 1" ∷ "J 50 100 1" ∷ "C 1 0 0 0 " ∷ [])
    ∷ []

-- "at (101,0) instead: 0. Then `r 0 0 0`: hit 1, lost 1, only (101,0) remains."
abbrev pub turn_one : Example
turn_one =
    ("p 1 0 0 0", "A 0" ∷ "T 0 3 1 3" ∷ "J 0 -100 1" ∷ "J -50 100 1" ∷ "J 50 100 1" ∷ "C 1 0 0 0 " ∷ [])
    ∷ ("p 1 0 101 0", "A 0" ∷ "T 0 6 2 6" ∷ "J 0 -100 1" ∷ "J 101 -100 1" ∷ "J -50 100 1" ∷ "J 50 100 1" ∷ "J 51 100 1" ∷ "J 151 100 1" ∷ "C 1 0 0 0 " ∷ "C 1 0 101 0 " ∷ [])
    ∷ ("r 0 0 0", "A 0 1 1" ∷ "T 0 3 1 3" ∷ "J 101 -100 1" ∷ "J 51 100 1" ∷ "J 151 100 1" ∷ "C 1 0 101 0 " ∷ [])
    ∷ []

-- "`r 0 0 60` instead: hit 2, lost 1, (0,0) remains, turned."
abbrev pub turn_two : Example
turn_two =
    ("p 1 0 0 0", "A 0" ∷ "T 0 3 1 3" ∷ "J 0 -100 1" ∷ "J -50 100 1" ∷ "J 50 100 1" ∷ "C 1 0 0 0 " ∷ [])
    ∷ ("p 1 0 101 0", "A 0" ∷ "T 0 6 2 6" ∷ "J 0 -100 1" ∷ "J 101 -100 1" ∷ "J -50 100 1" ∷ "J 50 100 1" ∷ "J 51 100 1" ∷ "J 151 100 1" ∷ "C 1 0 0 0 " ∷ "C 1 0 101 0 " ∷ [])
    ∷ ("r 0 0 60", "A 0 2 1" ∷ "T 0 3 1 3" ∷ "J -100 -50 1" ∷ "J 100 0 1" ∷ "J -100 50 1" ∷ "C 1 1 0 0 " ∷ [])
    ∷ []

-- "Wire y=−100 from −200 to 200, contact at (0,0): (0,−100) has 3, all counts sum to 7."
abbrev pub pad_on_wire : Example
pad_on_wire =
    ("h -100 -200 200", "A 0" ∷ "T 1 2 0 2" ∷ "W h -100 -200 200" ∷ "J -200 -100 1" ∷ "J 200 -100 1" ∷ [])
    ∷ ("p 1 0 0 0", "A 0" ∷ "T 2 5 1 7" ∷ "W h -100 -200 0" ∷ "W h -100 0 200" ∷ "J -200 -100 1" ∷ "J 0 -100 3" ∷ "J 200 -100 1" ∷ "J -50 100 1" ∷ "J 50 100 1" ∷ "C 1 0 0 0 " ∷ [])
    ∷ []

-- "Whole output."
abbrev pub whole_output : Example
whole_output =
    ("p 0 0 0 0", "A 0" ∷ "T 0 1 1 1" ∷ "J 0 0 1" ∷ "C 0 0 0 0 " ∷ [])
    ∷ ("p 2 0 0 400 K1", "A 0" ∷ "T 0 2 2 2" ∷ "J 0 0 1" ∷ "J 0 300 1" ∷ "C 0 0 0 0 " ∷ "C 2 0 0 400 K1" ∷ [])
    ∷ ("p 1 0 300 0 K1", "A 0" ∷ "T 0 5 3 5" ∷ "J 300 -100 1" ∷ "J 0 0 1" ∷ "J 250 100 1" ∷ "J 350 100 1" ∷ "J 0 300 1" ∷ "C 0 0 0 0 " ∷ "C 1 0 300 0 K1" ∷ "C 2 0 0 400 K1" ∷ [])
    ∷ ("v 0 0 300", "A 0" ∷ "T 1 5 3 7" ∷ "W v 0 0 300" ∷ "J 300 -100 1" ∷ "J 0 0 2" ∷ "J 250 100 1" ∷ "J 350 100 1" ∷ "J 0 300 2" ∷ "C 0 0 0 0 " ∷ "C 1 0 300 0 K1" ∷ "C 2 0 0 400 K1" ∷ [])
    ∷ ("h 0 0 200", "A 0" ∷ "T 2 6 3 9" ∷ "W h 0 0 200" ∷ "W v 0 0 300" ∷ "J 300 -100 1" ∷ "J 0 0 3" ∷ "J 200 0 1" ∷ "J 250 100 1" ∷ "J 350 100 1" ∷ "J 0 300 2" ∷ "C 0 0 0 0 " ∷ "C 1 0 300 0 K1" ∷ "C 2 0 0 400 K1" ∷ [])
    ∷ ("v 200 -100 0", "A 0" ∷ "T 3 7 3 11" ∷ "W h 0 0 200" ∷ "W v 0 0 300" ∷ "W v 200 -100 0" ∷ "J 200 -100 1" ∷ "J 300 -100 1" ∷ "J 0 0 3" ∷ "J 200 0 2" ∷ "J 250 100 1" ∷ "J 350 100 1" ∷ "J 0 300 2" ∷ "C 0 0 0 0 " ∷ "C 1 0 300 0 K1" ∷ "C 2 0 0 400 K1" ∷ [])
    ∷ ("h -100 200 300", "A 0" ∷ "T 4 7 3 13" ∷ "W h -100 200 300" ∷ "W h 0 0 200" ∷ "W v 0 0 300" ∷ "W v 200 -100 0" ∷ "J 200 -100 2" ∷ "J 300 -100 2" ∷ "J 0 0 3" ∷ "J 200 0 2" ∷ "J 250 100 1" ∷ "J 350 100 1" ∷ "J 0 300 2" ∷ "C 0 0 0 0 " ∷ "C 1 0 300 0 K1" ∷ "C 2 0 0 400 K1" ∷ [])
    ∷ ("n", "R N0 K1.A K1.B" ∷ "S K1.A N0 N1" ∷ "S K1.B N0 N2" ∷ "E 2" ∷ [])
    ∷ []

-- all the examples, in the order of document 01
abbrev pub table : List Example
table =
    tee ∷ bare_crossing ∷ in_line ∷ corner ∷ zero_length ∷ backward ∷ outside ∷ touching ∷ turn_one ∷ turn_two ∷ pad_on_wire ∷ whole_output ∷ []
