-- What the check's answer tells: whether the drawing is lawful.
use mathlib.Core.Path.{◌≡◌, sym, ap, ◌∙◌}
use mathlib.Core.Bool.{true, false}
use borrow.Author.Tests.{eq-eqb, ne_eqb}
use Rattle.sheet.specs.declared.Drawing.{Drawing}
use Rattle.sheet.specs.Drawings.{Sized}
use Rattle.sheet.specs.Rules.{Lawful}
use Rattle.rules.specs.declared.Checked.{Checked}
use Rattle.rules.specs.Check.{check_of, lawful}
use Rattle.rules.proofs.Check.{check_lawful}

module _ (d : Drawing) {c : Checked} (e : c ≡ check_of d) where
  rule_found : c.rule ≡ (check_of d).rule
  rule_found = ap (λ (r : Checked). r.rule) e

  pub lawful_found : Sized d → c.rule ≡ 0 → Lawful d
  lawful_found z h = (check_lawful d z).0 (sym rule_found ∙ h)

  pub found_passes : c.rule ≡ 0 → lawful d ≡ true
  found_passes h = eq-eqb (check_of d).rule 0 (sym rule_found ∙ h)

  pub found_fails : (c.rule ≡ 0 → ⊥) → lawful d ≡ false
  found_fails h = ne_eqb (check_of d).rule 0 (λ p. h (rule_found ∙ p))
