-- What a line that is refused gives: 9 on a drawing that is not lawful, and no list.
use Rattle.std.proofs.Common.{Some}
use mathlib.Core.Path.{◌≡◌, sym, ap, ◌∙◌}
use mathlib.Core.List.{List}
use Prim.Native.Nat.{ℕ}
use Rattle.sheet.specs.declared.Drawing.{Drawing}
use Rattle.sheet.specs.declared.Tally.{Tally}
use Rattle.sheet.specs.Rules.{Lawful}
use Rattle.rules.specs.declared.Checked.{Checked}
use Rattle.rules.specs.Check.{check_of}
use Rattle.redraw.specs.declared.Edited.{Edited}
use Rattle.redraw.specs.Calls.{refused}
use Rattle.schematic.proofs.Checking.{unlawful_refused}
use Rattle.script.specs.declared.Command.{Command as Told}
use Rattle.script.specs.declared.Command.TheVariants as code
use Rattle.script.specs.Commands.{Command, Nets, commanded}
use Rattle.step.specs.Steps.{edit_of}

-- 9 before the numbers are looked at
pub unlawful : (d : Drawing) (t : Tally) (line : List ℕ) {c : Checked} → c ≡ check_of d → (c.rule ≡ 0 → ⊥) → (k : Told) → refused 9 d t ≡ edit_of d t line (commanded (Some k))
unfolding edit_of
unlawful d t line q f (code.Horizontal y x1 x2) = unlawful_refused d q t _ f
unlawful d t line q f (code.Vertical x y1 y2) = unlawful_refused d q t _ f
unlawful d t line q f (code.Place kind orient x y at) = unlawful_refused d q t _ f
unlawful d t line q f (code.Delete x y size) = unlawful_refused d q t _ f
unlawful d t line q f (code.Turn x y size) = unlawful_refused d q t _ f
unlawful d t line q f (code.Mirror x y size) = unlawful_refused d q t _ f
unlawful d t line q f code.Nets = unlawful_refused d q t _ f

-- a refusal prints no list
pub refused_told : {n : ℕ} {d : Drawing} {t : Tally} {k : Command} {e : Edited} → e ≡ refused n d t → (n ≡ 0 → ⊥) → k ≡ Nets → e.reply ≡ 0 → Lawful e.drawing
refused_told is f _ z = absurd (f (sym (ap (λ (x : Edited). x.reply) is) ∙ z))
