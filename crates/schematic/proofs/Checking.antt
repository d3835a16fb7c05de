-- The check decides between 9 and the edit.
use native.Mathlib.Omega.{arith}
use mathlib.Core.Path.{◌≡◌, refl}
use Rattle.lists.proofs.Tests.{choose, reads_as, eqb_reads}
use Rattle.sheet.specs.declared.Drawing.{Drawing}
use Rattle.sheet.specs.declared.Tally.{Tally}
use Rattle.sheet.specs.Drawings.{Sized}
use Rattle.sheet.specs.Rules.{Lawful}
use Rattle.rules.specs.declared.Checked.{Checked}
use Rattle.rules.specs.Check.{check_of}
use Rattle.rules.proofs.Check.{check_lawful, lawful_none}
use Rattle.rules.proofs.Found.{found_passes, found_fails}
use Rattle.redraw.specs.declared.Edited.{Edited}
use Rattle.redraw.specs.Calls.{refused}
use Rattle.redraw.proofs.Laws.{Accepted}
use Rattle.schematic.specs.Calls.{checked}

module _ (d : Drawing) {k : Checked} (q : k ≡ check_of d) where
  module _ (t : Tally) (e : Edited) where
    pub unlawful_refused : (k.rule ≡ 0 → ⊥) → refused 9 d t ≡ checked d t e
    unfolding checked
    unlawful_refused f = rw (found_fails d q f)

    pub lawful_edited : k.rule ≡ 0 → e ≡ checked d t e
    unfolding checked
    lawful_edited z = rw (found_passes d q z)

-- the call on a lawful drawing is the edit
pub lawful_passes : {d : Drawing} → Lawful d → (t : Tally) (e : Edited) → e ≡ checked d t e
lawful_passes {d} l t e = lawful_edited d (lawful_none l) t e refl

-- what holds of 9, and of an edit's answer if the drawing is lawful, holds of the call's
pub by_check : (P : Edited → Type 0) (d : Drawing) (t : Tally) (e : Edited) → Sized d → ((Lawful d → ⊥) → P (refused 9 d t)) → (Lawful d → P e) → P (checked d t e)
unfolding checked
by_check P d t e z f g = choose (reads_as (check_lawful d z) (eqb_reads (check_of d).rule 0)) P g f

-- so reply 0 gives a lawful drawing and a tally that adds up
pub checked_accepted : (d : Drawing) (t : Tally) (e : Edited) → Sized d → (Lawful d → Accepted e) → Accepted (checked d t e)
checked_accepted d t e z g = by_check Accepted d t e z (λ f r. absurd (omega arith)) g
