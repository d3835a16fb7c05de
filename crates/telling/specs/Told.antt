-- What is printed for a line of a script, of the edit that came of it (document 01, "panel_list"); and the same in a lent buffer.
use Rattle.std.specs.Prelude.{◌≡◌, cond, List, [], ◌∷◌, ◌++◌, ℕ, eqb, leb, length, drop}
use Rattle.sheet.specs.Drawings.{lists_of}
use Rattle.redraw.specs.declared.Edited.{Edited}
use Rattle.redraw.specs.Calls.{refused}
use Rattle.text.specs.Text.{decimal_of}
use Rattle.loose_pads.specs.Counting.{loose_of}
use Rattle.listing.specs.Listing.{list_of}
use Rattle.script.specs.Commands.{Command, Horizontal, Vertical, Place, Delete, Turn, Mirror, Nets, Unreadable}
use Rattle.script.specs.Grammar.{byte, bytes}
use Rattle.telling.specs.declared.Stepped.{Stepped}

-- a letter and a number
unfoldable pub numbered : ℕ → ℕ → List ℕ
numbered letter n = letter ∷ bytes " " ++ (decimal_of n ++ bytes "\n")

-- "Each edit prints `A <reply>`"
abbrev pub answered : ℕ → List ℕ
answered reply = numbered (byte "A") reply

-- "for r and m followed by hit and lost, one space before each"
unfoldable pub counted : ℕ → ℕ → ℕ → List ℕ
counted reply hit lost = bytes "A " ++ (decimal_of reply ++ (bytes " " ++ (decimal_of hit ++ (bytes " " ++ (decimal_of lost ++ bytes "\n")))))

-- "`E <loose>`"
abbrev pub loose_line : ℕ → List ℕ
loose_line loose = numbered (byte "E") loose

-- what came of a line: the reply with the drawing and the tally after it; the list that it prints; and behind that its answer line
pub record After : Type 0 where
  pub outcome : Edited
  pub list : List ℕ
  pub answer : List ℕ

-- all that it prints
abbrev pub printed : After → List ℕ
printed a = a.list ++ a.answer

-- an edit, answered by its reply
abbrev pub plainly : Edited → After
plainly e = record { outcome = e; list = []; answer = answered e.reply }

-- a turn or mirror, answered by reply, hit and lost
abbrev pub countedly : Edited → After
countedly e = record { outcome = e; list = []; answer = counted e.reply e.hit e.lost }

-- "`n` prints the list and then `E <loose>`"; refused, it prints nothing
abbrev pub listedly : Edited → After
listedly e =
    cond (eqb e.reply 0)
    (record { outcome = e; list = list_of (lists_of e.drawing); answer = loose_line (loose_of (lists_of e.drawing)) })
    (record { outcome = e; list = []; answer = [] })

-- each command in its way; "an unreadable line prints `A 10`"
abbrev pub told : Command → Edited → After
told (Horizontal y x1 x2) e = plainly e
told (Vertical x y1 y2) e = plainly e
told (Place kind orient x y at) e = plainly e
told (Delete x y size) e = plainly e
told (Turn x y size) e = countedly e
told (Mirror x y size) e = countedly e
told Nets e = listedly e
told Unreadable e = plainly e

-- ---- in a lent buffer

-- the same in a lent buffer of so many bytes. "8: the list is longer than the lent buffer"; an answer line is written only if it fits, and
-- the reply is told beside it in any case.
unfoldable pub in_room : ℕ → After → After
in_room room a =
    cond (leb (length a.list) room)
    (record { outcome = a.outcome; list = a.list; answer = cond (leb (length (printed a)) room) a.answer [] })
    (record { outcome = refused 8 a.outcome.drawing a.outcome.tally; list = []; answer = [] })

-- the edit's part of a call's answer
abbrev pub outcome_of : Stepped → Edited
outcome_of r = r.edited

-- the call: what came of the line, and what is printed in front of the lent buffer; "bytes behind it stay"
pub record Answers (a : After) (old new : List ℕ) (r : Stepped) : Type 0 where
  pub outcome : outcome_of r ≡ a.outcome
  pub length : r.length ≡ length (printed a)
  pub bytes : new ≡ printed a ++ drop r.length old
