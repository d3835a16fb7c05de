-- The tests of rules 2 and 7 decide them.
use Prim.Native.Nat.{◌<◌}
use mathlib.Core.Bool.{true}
use mathlib.Core.List.{List}
use mathlib.Core.Path.{◌≡◌}
use mathlib.Core.Logic.{⊎_elim, ◌⊎◌, inl, inr}
use Rattle.lists.proofs.Tests.{clash, Reads, reads_as, true_reads, not_reads, and_reads, or_reads, eqb_reads, ltb_reads, beq_reads, same_or_turned}
use Rattle.lists.proofs.Lists.{pairs_reads, links_reads}
use Rattle.sheet.specs.declared.Wire.{Wire}
use Rattle.sheet.specs.declared.Joint.{Joint}
use Rattle.sheet.specs.Joints.{joint_point}
use Rattle.sheet.specs.Parts.{position}
use Rattle.sheet.specs.Drawings.{Sheet}
use Rattle.sheet.specs.Rules.{Share, Upward, upright, up, along, Rule2, Rule7}
use Rattle.sheet.proofs.Points.{rises_reads, rise_chain}
use Rattle.sheet.proofs.RowOrder.{rule_7_next}
use Rattle.row_order.specs.RowOrder.{share, check2, upward, check7}

share_reads : (a b : Wire) → Reads (Share a b) (share a b)
unfolding share
share_reads a b = reads_as (λ t. record { dir = t.0; line = t.1.0; from = t.1.1.0; to = t.1.1.1 }, λ s. (s.dir, (s.line, (s.from, s.to))))
    (and_reads (beq_reads a.vertical b.vertical) (and_reads (eqb_reads a.line b.line) (and_reads (ltb_reads a.start b.end) (ltb_reads b.start a.end))))

pub reads2 : (ws : List Wire) → Reads (Rule2 ws) (check2 ws)
unfolding check2
reads2 ws = pairs_reads (λ a b. not_reads (share_reads a b)) ws

upward_reads : (a b : Wire) → Reads (Upward a b) (upward a b)
unfolding upward
upward_reads a b = reads_as (into, out) (or_reads
    (and_reads (not_reads (true_reads a.vertical)) (true_reads b.vertical))
    (and_reads (beq_reads a.vertical b.vertical) (or_reads (ltb_reads a.line b.line) (and_reads (eqb_reads a.line b.line) (ltb_reads a.start b.start)))))
  where
    into : ((a.vertical ≡ true → ⊥) × (b.vertical ≡ true)) ⊎ ((a.vertical ≡ b.vertical) × ((a.line < b.line) ⊎ ((a.line ≡ b.line) × (a.start < b.start)))) → Upward a b
    into (inl t) = upright (⊎_elim (λ e. absurd (t.0 e)) (λ e. e) (same_or_turned a.vertical true)) t.1
    into (inr (d, inl l)) = up d l
    into (inr (d, inr t)) = along d t.0 t.1

    out : Upward a b → ((a.vertical ≡ true → ⊥) × (b.vertical ≡ true)) ⊎ ((a.vertical ≡ b.vertical) × ((a.line < b.line) ⊎ ((a.line ≡ b.line) × (a.start < b.start))))
    out (upright e f) = inl (λ t. clash t e, f)
    out (up d l) = inr (d, inl l)
    out (along d l s) = inr (d, inr (l, s))

pub reads7 : (s : Sheet) (js : List Joint) → Reads (Rule7 s js) (check7 s js)
unfolding check7
reads7 s js = reads_as (
  λ t. record { wires_rise = rule_7_next.1 t.0; components_rise = (rise_chain position).1 t.1.0; joints_rise = (rise_chain joint_point).1 t.1.1 },
  λ r. (rule_7_next.0 r.wires_rise, ((rise_chain position).0 r.components_rise, (rise_chain joint_point).0 r.joints_rise)),
)
    (and_reads (links_reads upward_reads s.wires) (and_reads (links_reads (λ b c. rises_reads (position b) (position c)) s.parts) (links_reads (λ i j. rises_reads (joint_point i) (joint_point j)) js)))
