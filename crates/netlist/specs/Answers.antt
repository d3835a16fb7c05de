-- What the calls answer, and what the lent buffer holds afterwards.
use Rattle.std.specs.Prelude.{ℕ, cond, List}
use Rattle.sheet.specs.declared.Drawing.{Drawing}
use Rattle.sheet.specs.Drawings.{lists_of}
use Rattle.rules.specs.Check.{lawful}
use Rattle.text.specs.declared.Written.{Written}
use Rattle.text.specs.Answers.{told_length, answer_of, buffer_of}
use Rattle.loose_pads.specs.Counting.{loose_of}
use Rattle.netlist.specs.declared.LooseCount.{LooseCount}
use Rattle.listing.specs.Listing.{list_of}

-- ---- the calls: "9: the lent drawing isn't lawful" comes before 8

-- the answer for a lent buffer of that many bytes: 9, 8, or 0 with the length of the list; "A refusal tells length 0."
unfoldable pub netlist_of : Drawing → ℕ → Written
netlist_of d room = cond (lawful d) (answer_of (list_of (lists_of d)) room) (told_length 9 0)

-- what the lent buffer then holds; after 9 or 8 "tally and buffer keep their old content"
unfoldable pub netlist_in : Drawing → List ℕ → List ℕ
netlist_in d old = cond (lawful d) (buffer_of (list_of (lists_of d)) old) old

-- a reply, and the number of loose pads
abbrev pub loose_count : ℕ → ℕ → LooseCount
loose_count reply count = record { reply = reply; count = count }

-- 9 and no count, or how many pads are loose (document 02, P2)
unfoldable pub loose_answer : Drawing → LooseCount
loose_answer d = cond (lawful d) (loose_count 0 (loose_of (lists_of d))) (loose_count 9 0)
