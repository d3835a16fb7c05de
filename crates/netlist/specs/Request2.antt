-- Document 02, P2: "Loose ends are counted wrongly. .. Take loose to mean: a pad of a contact or coil that isn't fed and is alone on its net,
-- unless it is A or B of a contact whose other one of the two is on a net with a further pad or fed."
--
-- What callers of `loose` get: of a lawful drawing, how many of its pads are loose. Which pads are is said by `Loose`, in the request's words
-- and over demand 3's nets (loose_pads/specs/Loose).
use Rattle.std.specs.Prelude.{◌≡◌}
use Rattle.sheet.specs.declared.Drawing.{Drawing}
use Rattle.sheet.specs.Drawings.{lists_of}
use Rattle.sheet.specs.Rules.{Lawful}
use Rattle.loose_pads.specs.Loose.{Loose}
use Rattle.loose_pads.specs.Counting.{HowMany}
use Rattle.netlist.specs.Answers.{loose_answer}

abbrev pub Request2 : Type 0
Request2 = (d : Drawing) → Lawful d → ((loose_answer d).reply ≡ 0) × HowMany (Loose (lists_of d)) (loose_answer d).count
