-- Rules 2 and 7 together are the order of rows; that each row rises to each later one is that it rises to the next.
use Prim.Native.Nat.{◌<◌}
use mathlib.Core.List.{List}
use mathlib.Core.Path.{sym, ◌∙◌}
use mathlib.Core.Logic.{⊎_elim, ◌↔◌}
use native.Mathlib.Omega.{arith}
use Rattle.lists.specs.Lists.{Rows}
use Rattle.lists.proofs.Adjacent.{Adjacent}
use Rattle.lists.proofs.Tests.{decide, ltb_reads, clash}
use Rattle.lists.proofs.Order.{rows_all, rows_both, rows_chain, chain_rows}
use Rattle.sheet.specs.declared.Wire.{Wire}
use Rattle.sheet.specs.Geometry.{Before, turned, next_line, same_line}
use Rattle.sheet.specs.Wiring.{AllFit}
use Rattle.sheet.specs.Rules.{Share, Upward, upright, up, along, Rule2}

before→ : {a b : Wire} → a.start < a.end → Before a b → (Share a b → ⊥) × Upward a b
before→ m (turned e f) = (λ s. clash f (sym s.dir ∙ e), upright e f)
before→ m (next_line e f) = (λ s. omega (arith, s.line), up e f)
before→ m (same_line e f g) = (λ s. omega (arith, s.to), along e f (omega arith))

→before : {a b : Wire} → b.start < b.end → (Share a b → ⊥) → Upward a b → Before a b
→before n s (upright e f) = turned e f
→before n s (up e f) = next_line e f
→before {a} {b} n s (along e f g) = same_line e f (⊎_elim (λ (h : b.start < a.end). absurd (s (record { dir = e; line = f; from = omega arith; to = h }))) (λ (h : b.start < a.end → ⊥). omega arith) (decide (ltb_reads b.start a.end)))

pub rules_2_7 : {ws : List Wire} → AllFit ws → Rows Before ws ↔ (Rule2 ws × Rows Upward ws)
rules_2_7 {ws} l = (λ r. (rows_all r (λ a b m n s. (before→ (l a m).long s).0), rows_all r (λ a b m n s. (before→ (l a m).long s).1)), λ r. rows_both r.0 r.1 (λ a b m n. →before (l b n).long))

-- ---- rows that rise each to the next
upward_trans : (a b c : Wire) → Upward a b → Upward b c → Upward a c
upward_trans a b c (upright e f) (upright g h) = absurd (clash f g)
upward_trans a b c (upright e f) (up g h) = upright e (sym g ∙ f)
upward_trans a b c (upright e f) (along g h k) = upright e (sym g ∙ f)
upward_trans a b c (up e f) (upright g h) = upright (e ∙ g) h
upward_trans a b c (up e f) (up g h) = up (e ∙ g) (omega arith)
upward_trans a b c (up e f) (along g h k) = up (e ∙ g) (omega arith)
upward_trans a b c (along e f i) (upright g h) = upright (e ∙ g) h
upward_trans a b c (along e f i) (up g h) = up (e ∙ g) (omega arith)
upward_trans a b c (along e f i) (along g h k) = along (e ∙ g) (omega arith) (omega arith)

pub rule_7_next : {ws : List Wire} → Rows Upward ws ↔ Adjacent Upward ws
rule_7_next = (rows_chain, chain_rows upward_trans)
