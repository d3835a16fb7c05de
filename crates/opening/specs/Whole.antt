-- Below the calls: a drawing at the front, or one that is to be the last.
use Rattle.std.specs.Prelude.{Bool, cond, List, ℕ}
use Rattle.sheet.specs.declared.Drawing.{Drawing}
use Rattle.groups.specs.Taken.{Taken}
use Rattle.saved.specs.Reading.{take_drawing, take_file}

abbrev pub take_up_to : Bool → List ℕ → Taken Drawing
take_up_to last s = cond last (take_file s) (take_drawing s)
