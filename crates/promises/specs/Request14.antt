-- Document 02, P14: "Users trace an existing wire to be sure of it. Prove that an accepted wire edit, made again on its result, is accepted
-- and gives the same drawing, for every lawful drawing and every wire. Prove as well that mirroring a lawful drawing never loses a
-- component: lost is always 0, whatever was hit."
use Rattle.std.specs.Prelude.{Bool, ◌≡◌, ℤ, length}
use Rattle.sheet.specs.declared.Drawing.{Drawing}
use Rattle.sheet.specs.declared.Tally.{Tally}
use Rattle.sheet.specs.Drawings.{lists_of}
use Rattle.sheet.specs.Rules.{Lawful}
use Rattle.redraw.specs.declared.Edited.{Edited}
use Rattle.redraw.specs.Calls.{add_wire, mirror_at}
use Rattle.schematic.specs.Calls.{checked}
use Rattle.lent.specs.Noting.{noted}

-- ---- drawing over a line

-- a wire call: of a drawing, a direction, the wire's line, start and end, and a tally
abbrev pub WireCall : Type 0
WireCall = Drawing → Bool → ℤ → ℤ → ℤ → Tally → Edited

-- the second answer is the first one: reply 0, that same drawing, the same tally; and where the tallies t and u were lent, they hold the
-- same afterwards
pub record SameAgain (t u : Tally) (first second : Edited) : Type 0 where
  pub answer : second ≡ first
  pub lent : noted u second ≡ noted t first

-- "an accepted wire edit", one with reply 0, "made again on its result", with any tally
abbrev pub DrawnOver : WireCall → Type 0
DrawnOver call =
    (d : Drawing) → Lawful d → (vertical : Bool) (line start end : ℤ) (t u : Tally)
    → let first = call d vertical line start end t in
    first.reply ≡ 0 → SameAgain t u first (call first.drawing vertical line start end u)

-- ---- mirror never loses

-- a call at a pointer: of a drawing, the pointer's x and y, a size, and a tally
abbrev pub PointerCall : Type 0
PointerCall = Drawing → ℤ → ℤ → ℤ → Tally → Edited

-- "lost is always 0", and the drawing has as many components as before, whatever the reply
pub record NothingLost (before : Drawing) (answer : Edited) : Type 0 where
  pub lost : answer.lost ≡ 0
  pub components : length (lists_of answer.drawing).parts ≡ length (lists_of before).parts

-- "whatever was hit": for every pointer, size and tally
abbrev pub NeverLoses : PointerCall → Type 0
NeverLoses call = (d : Drawing) → Lawful d → (x y size : ℤ) (t : Tally) → NothingLost d (call d x y size t)

-- ---- the calls of which this is promised

-- below the check those of `redraw`; the public ones of `schematic` and, with their tally lent, of `lent`
pub record Request14 : Type 0 where
  pub wire_on : DrawnOver add_wire
  pub wire : DrawnOver (λ d vertical line start end t. checked d t (add_wire d vertical line start end t))
  pub mirror_on : NeverLoses mirror_at
  pub mirror : NeverLoses (λ d x y size t. checked d t (mirror_at d x y size t))
