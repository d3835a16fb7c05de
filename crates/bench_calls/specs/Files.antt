-- Beside the calls: a saved drawing, by number; each answers one number.
use Rattle.std.specs.Prelude.{ℕ, ◌%◌, cond, List, eqb, ltb, get_or, replicate}
use Rattle.sheet.specs.declared.Drawing.{Drawing}
use Rattle.sheet.specs.Drawings.{lists_of}
use Rattle.text.specs.Answers.{buffer_of}
use Rattle.saved.specs.File.{file_of}
use Rattle.saved.specs.Answers.{saved_in}
use Rattle.saved.specs.Reading.{read_file}

-- 17 by the public call, 18 of a drawing known to be lawful: a byte of the file
unfoldable pub saved_byte : ℕ → Drawing → ℕ → ℕ
saved_byte call d last =
    let blank : List ℕ = replicate 6022 0 in
    let i = last % 6022 in
    cond (eqb call 17) (get_or (saved_in d blank) i 0) (get_or (buffer_of (file_of (lists_of d)) blank) i 0)

-- 19 the file is written, and read back: the reply of reading
unfoldable pub back_reply : Drawing → ℕ
back_reply d = (read_file (file_of (lists_of d))).reply

unfoldable pub file_answer : ℕ → Drawing → ℕ → ℕ
file_answer call d last = cond (ltb call 19) (saved_byte call d last) (back_reply d)
