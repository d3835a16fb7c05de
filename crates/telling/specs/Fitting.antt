-- Below the calls, but for `asks_list`: an answer line in a buffer, and that 8,192 bytes hold all that a line prints.
use Rattle.std.specs.Prelude.{◌≡◌, Bool, true, false, cond, List, ℕ, ◌+◌, ◌≤◌, leb, length}
use Rattle.std.proofs.lemmas.List.Edits.{sets}
use Rattle.redraw.specs.declared.Edited.{Edited}
use Rattle.script.specs.Commands.{Command, Horizontal, Vertical, Place, Delete, Turn, Mirror, Nets, Unreadable}
use Rattle.telling.specs.declared.Stepped.{Stepped}
use Rattle.telling.specs.Told.{answered, counted, After, in_room, Answers}

-- whether a line asks for the list
abbrev pub asks_list : Command → Bool
asks_list (Horizontal y x1 x2) = false
asks_list (Vertical x y1 y2) = false
asks_list (Place kind orient x y label) = false
asks_list (Delete x y size) = false
asks_list (Turn x y size) = false
asks_list (Mirror x y size) = false
asks_list Nets = true
asks_list Unreadable = false

-- whether it is answered with hit and lost
abbrev pub is_counted : Command → Bool
is_counted (Horizontal y x1 x2) = false
is_counted (Vertical x y1 y2) = false
is_counted (Place kind orient x y label) = false
is_counted (Delete x y size) = false
is_counted (Turn x y size) = true
is_counted (Mirror x y size) = true
is_counted Nets = false
is_counted Unreadable = false

-- the answer line of an edit
abbrev pub reply_line : Bool → Edited → List ℕ
reply_line counts e = cond counts (counted e.reply e.hit e.lost) (answered e.reply)

-- the answer of a call that tells the edit e, with so many bytes printed
abbrev pub told_with : Edited → ℕ → Stepped
told_with e n = record { edited = e; length = n }

-- the bytes l stand in a buffer behind its first `at`, if they fit there; r is the index behind what was put
pub record Fitted (old : List ℕ) (at : ℕ) (l new : List ℕ) (r : ℕ) : Type 0 where
  pub behind : r ≡ cond (leb (at + length l) (length old)) (at + length l) at
  pub bytes : new ≡ cond (leb (at + length l) (length old)) (sets old at l) old

-- a short line stands in front of a buffer, if it fits there
pub record Replied (l old new : List ℕ) (r : ℕ) : Type 0 where
  pub fitted : Fitted old 0 l new r
  pub short : length l ≤ 40

-- what came of a line is told in a buffer; in 8,192 bytes all of it
pub record Tells (a : After) (old new : List ℕ) (r : Stepped) : Type 0 where
  pub answers : Answers (in_room (length old) a) old new r
  pub whole : 8192 ≤ length old → in_room (length old) a ≡ a
