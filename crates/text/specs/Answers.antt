-- What a call that writes into a lent buffer answers, and what the buffer holds afterwards.
use Rattle.std.specs.Prelude.{ℕ, cond, List, ◌++◌, leb, length, drop}
use Rattle.text.specs.declared.Written.{Written}

-- a reply, and how many bytes of the lent buffer were written
abbrev pub told_length : ℕ → ℕ → Written
told_length reply length = record { reply = reply; length = length }

-- "The written part of the lent buffer is told by its length"; "8: the list is longer than the lent buffer", or "A buffer too short to write
-- into gets 8"; "A refusal tells length 0."
unfoldable pub answer_of : List ℕ → ℕ → Written
answer_of bytes room = cond (leb (length bytes) room) (told_length 0 (length bytes)) (told_length 8 0)

-- the bytes in front, "bytes behind it stay"; after a refusal the buffer keeps its old content
unfoldable pub buffer_of : List ℕ → List ℕ → List ℕ
buffer_of bytes old = cond (leb (length bytes) (length old)) (bytes ++ drop (length bytes) old) old
