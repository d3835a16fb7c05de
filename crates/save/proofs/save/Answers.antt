-- `save` meets its contract: the drawing is checked, and then written.
use mathlib.Core.Path.{refl}
use Rattle.sheet.proofs.Owned.{owned}
use Rattle.saved.specs.Answers.{saved_of, saved_in}
use Rattle.rules.proofs.Found.{lawful_found, found_passes, found_fails}
use Rattle.save.proofs.save.Goals as goal

pub returns-then-c-ne0 : goal.returns-then-c-ne0
unfolding saved_of saved_in
returns-then-c-ne0 c = let refusal = found_fails c.args.d c.check-c.ensures c.if-c-ne0.true in record { told = rw refusal refl; written = rw refusal refl }

pub save_on-requires : goal.save_on-requires
save_on-requires c = lawful_found c.args.d c.check-c.ensures (owned c.args.d _ c.well_formed.0.1.1) c.if-c-ne0.false

pub returns : goal.returns
unfolding saved_of saved_in
returns c = let is = found_passes c.args.d c.check-c.ensures c.if-c-ne0.false in let w = c.save_on.ensures in record { told = rw is w.told; written = rw is w.written }
