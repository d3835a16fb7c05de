-- What panel_check prints ("names the first broken rule in this order"): for each drawing its answer `rule first second`, or `unreadable
-- LINE-NUMBER` alone.
use Rattle.std.specs.Prelude.{Bool, true, false, cond, List, ◌++◌, ℕ, ◌+◌, ltb}
use Rattle.text.specs.Text.{decimal_of}
use Rattle.script.specs.Grammar.{bytes}
use Rattle.check_script.specs.Saying.{Said}
use Rattle.check_script.specs.Saying as said

-- "names the first broken rule .. and tells both rows": the answer line
unfoldable pub verdict_line : ℕ → ℕ → ℕ → List ℕ
verdict_line rule first second = decimal_of rule ++ (bytes " " ++ (decimal_of first ++ (bytes " " ++ (decimal_of second ++ bytes "\n"))))

-- the line of that number is unreadable
unfoldable pub unreadable_of : ℕ → List ℕ
unreadable_of line = bytes "unreadable " ++ (decimal_of line ++ bytes "\n")

-- the line ends a drawing
abbrev pub is_end : Said → Bool
is_end (said.Wire back w) = false
is_end (said.Component back kind o x y at) = false
is_end (said.Joint back j) = false
is_end (said.WireCount n) = false
is_end (said.ComponentCount n) = false
is_end (said.JointCount n) = false
is_end said.End = true
is_end said.Unreadable = false

-- the number of the next line, as far as 32 bits count
abbrev pub next_number : ℕ → ℕ
next_number n = cond (ltb n 4294967295) (n + 1) n
