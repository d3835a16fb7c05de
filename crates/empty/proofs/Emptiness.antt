-- The drawing of no wires and no components is the empty drawing, and it is lawful.
use mathlib.Core.Path.{◌≡◌, sym, ap, subst, ◌∙◌}
use mathlib.Core.List.Memᴰ.{not-nil as ∈-nil}
use mathlib.Core.List.{[]}
use native.Mathlib.Omega.{arith}
use Rattle.lists.specs.Lists.{◌∈◌}
use Rattle.lists.proofs.Tables.{holds_list, holds_self, holds_count}
use Rattle.sheet.specs.Tables.{Wires}
use Rattle.sheet.specs.Tables.{Components}
use Rattle.sheet.specs.declared.Drawing.{Drawing}
use Rattle.sheet.specs.Drawings.{Sheet, empty_sheet, drawn}
use Rattle.sheet.specs.Rules.{Lawful}
use Rattle.sheet.proofs.Rules.{drawn_lawful}
use Rattle.sheet.proofs.Edits.{empty_good}
use Rattle.wires.specs.Tables.{Tabled}
use Rattle.parts.specs.Tables.{TabledParts}
use Rattle.joints.specs.Tables.{sheet_of, Sound}

module _ {ws : Wires} {cs : Components} (w : Tabled [] ws) (p : TabledParts [] cs) where
  pub empty_sound : Sound ws cs
  empty_sound = record {
    wires = holds_self w;
    parts = holds_self p;
    fits = record { room = holds_count p; each = λ c m. absurd (∈-nil (subst (λ l. c ∈ l) (holds_list p) m)) };
  }

  pub empty_is : sheet_of ws cs ≡ empty_sheet
  empty_is = λ i. record { wires = holds_list w i; parts = holds_list p i }

pub empty_drawn_lawful : Lawful (drawn empty_sheet)
empty_drawn_lawful = drawn_lawful (record { wires = omega arith; parts = omega arith }) empty_good

pub empty_lawful : {d : Drawing} {s : Sheet} → d ≡ drawn s → s ≡ empty_sheet → (d ≡ drawn empty_sheet) × Lawful d
empty_lawful e f = let is = e ∙ ap drawn f in (is, subst Lawful (sym is) empty_drawn_lawful)
