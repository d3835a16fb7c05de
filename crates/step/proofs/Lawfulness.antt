-- A line leaves a lawful drawing lawful: `edit_lawful`, `step_lawful`.
use mathlib.Core.Path.{◌≡◌, refl, sym, subst}
use mathlib.Core.Logic.{⊎_elim}
use mathlib.Core.List.{List}
use Prim.Native.Nat.{ℕ}
use Rattle.lists.proofs.Tests.{decide, choose, eqb_reads}
use Rattle.sheet.specs.declared.Drawing.{Drawing}
use Rattle.sheet.specs.declared.Tally.{Tally}
use Rattle.sheet.specs.Rules.{Lawful}
use Rattle.redraw.specs.declared.Edited.{Edited}
use Rattle.redraw.proofs.Laws.{Accepted, wire_accepted, component_accepted, delete_accepted, rotate_accepted, mirror_accepted}
use Rattle.schematic.specs.Calls.{checked}
use Rattle.schematic.proofs.Checking.{lawful_passes}
use Rattle.script.specs.Commands.{Command, Horizontal, Vertical, Place, Delete, Turn, Mirror, Nets, Unreadable}
use Rattle.script.specs.Reading.{command_of}
use Rattle.step.specs.Steps.{edit_of, unedited, step_of}
use Rattle.telling.specs.Told.{After, told}
use Rattle.step.proofs.Kept.{Kept, wire_kept, component_kept, delete_kept, rotate_kept, mirror_kept}

module _ {d : Drawing} (l : Lawful d) (t : Tally) where
  stays : {e : Edited} → Accepted e → Kept d e → Lawful (checked d t e).drawing
  stays {e} a k = subst (λ (x : Edited). Lawful x.drawing) (lawful_passes l t e)
      (⊎_elim (λ z. (a z).lawful) (λ f. subst Lawful (sym (k.drawing f)) l) (decide (eqb_reads e.reply 0)))

  pub edit_lawful : (line : List ℕ) (k : Command) → Lawful (edit_of d t line k).drawing
  unfolding edit_of
  edit_lawful line (Horizontal y x1 x2) = stays (wire_accepted l t _ _ _ _) (wire_kept d t _ _ _ _)
  edit_lawful line (Vertical x y1 y2) = stays (wire_accepted l t _ _ _ _) (wire_kept d t _ _ _ _)
  edit_lawful line (Place kind orient x y at) = stays (component_accepted l t _ _ _ _ _) (component_kept d t _ _ _ _ _)
  edit_lawful line (Delete x y size) = stays (delete_accepted l t _ _ _) (delete_kept d t _ _ _)
  edit_lawful line (Turn x y size) = stays (rotate_accepted l t _ _ _) (rotate_kept d t _ _ _)
  edit_lawful line (Mirror x y size) = stays (mirror_accepted l t _ _ _) (mirror_kept d t _ _ _)
  edit_lawful line Nets = subst (λ (x : Edited). Lawful x.drawing) (lawful_passes l t (unedited d t)) l
  edit_lawful line Unreadable = l

  told_same : (k : Command) (e : Edited) → (told k e).outcome ≡ e
  told_same (Horizontal y x1 x2) e = refl
  told_same (Vertical x y1 y2) e = refl
  told_same (Place kind orient x y at) e = refl
  told_same (Delete x y size) e = refl
  told_same (Turn x y size) e = refl
  told_same (Mirror x y size) e = refl
  told_same Nets e = choose (eqb_reads e.reply 0) (λ (a : After). a.outcome ≡ e) (λ _. refl) (λ _. refl)
  told_same Unreadable e = refl

  pub step_lawful : (line : List ℕ) → Lawful (step_of d t line).outcome.drawing
  unfolding step_of
  step_lawful line = subst (λ (e : Edited). Lawful e.drawing) (sym (told_same (command_of line) (edit_of d t line (command_of line)))) (edit_lawful line (command_of line))
