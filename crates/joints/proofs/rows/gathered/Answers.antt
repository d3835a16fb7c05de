-- A pass: the rows told so far, and those of the open key and the keys to come, are the joint rows of all keys.
use Rattle.std.proofs.Common.{arith, ap, sym, subst, map, take, length, List, ℕ, ◌≡◌, ◌≤◌, ◌∙◌}
use lib.Seq.{take_all}
use Rattle.lists.specs.Lists.{Rows}
use Rattle.sheet.specs.Joints.{joints_of}
use Rattle.sheet.specs.Drawings.{joint_table}
use Rattle.table.proofs.Rows.{empty_holds}
use Rattle.joints.specs.Keys.{spot}
use Rattle.joints.proofs.Gathering.{gather_start, gather_same, gather_next, gather_end, gather_none}
use Rattle.joints.proofs.rows.gathered.Goals as goal
use Rattle.joints.proofs.rows.gathered.Goals.{then-k-last, else-k-last}

pub returns-then-ks-eq0 : goal.returns-then-ks-eq0
returns-then-ks-eq0 c =
    gather_none c.args.ks.now {n = length c.args.ks.now} (empty_holds c.empty-out.ensures) c.if-ks-eq0.true ∙ ap (λ (l : List ℕ). joint_table (joints_of (map spot l))) (take_all (length c.args.ks.now) c.args.ks.now (omega arith))

pub loop-i-init : goal.loop-i-init
loop-i-init c =
    let all = take_all (length c.args.ks.now) c.args.ks.now (omega arith) in
    (omega arith, gather_start c.args.ks.now (empty_holds c.empty-out.ensures) (subst (Rows ◌≤◌) (sym all) c.requires.1) (omega arith) (omega arith))

pub loop-i-preserved : goal.loop-i-preserved
loop-i-preserved c =
    let g = c.loop-i.invariant.1 in
    let test = c.loop-i-test.true in
    elim c.if-k-last.branch [
      | then-k-last w ↦ (omega arith, rw (w.out-is, w.last-is, w.count-is) (gather_same g w.if-k-last.true test (omega arith)))
      | else-k-last w ↦ (omega arith, rw (w.out-is, w.push.ensures, w.last-is, w.count-is, w.joint_at.ensures) (gather_next g w.if-k-last.false test (omega arith) (omega arith)))
    ]

pub returns : goal.returns
returns c =
    let all = take_all (length c.args.ks.now) c.args.ks.now (omega arith) in
    rw (c.push-2.ensures, c.joint_at-2.ensures) (gather_end c.loop-i.invariant.1 (omega arith) (omega arith) (omega arith)) ∙ ap (λ (l : List ℕ). joint_table (joints_of (map spot l))) all
