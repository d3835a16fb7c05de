-- What saving answers, and what the lent buffer holds afterwards.
use Rattle.std.specs.Prelude.{ℕ, cond, List}
use Rattle.sheet.specs.declared.Drawing.{Drawing}
use Rattle.sheet.specs.Drawings.{lists_of}
use Rattle.rules.specs.Check.{lawful}
use Rattle.text.specs.declared.Written.{Written}
use Rattle.text.specs.Answers.{told_length, answer_of, buffer_of}
use Rattle.saved.specs.File.{file_of}

-- 9, 8, or 0 with the length of the file, for a lent buffer of that many bytes
unfoldable pub saved_of : Drawing → ℕ → Written
saved_of d room = cond (lawful d) (answer_of (file_of (lists_of d)) room) (told_length 9 0)

-- what the lent buffer then holds: the file in front and the bytes behind it as they were; "a buffer too short .. keeps its content"
unfoldable pub saved_in : Drawing → List ℕ → List ℕ
saved_in d old = cond (lawful d) (buffer_of (file_of (lists_of d)) old) old
