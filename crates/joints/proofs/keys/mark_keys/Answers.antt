-- A pass: the table holds the keys of all wire ends and of the pads passed.
use Rattle.std.proofs.Common.{arith, ap, subst, sym, ◌∙◌, ◌++◌, List, append-nil, append_assoc, take}
use lib.Seq.{take_all}
use Rattle.lists.proofs.Passes.{take_more}
use Rattle.symbol.specs.declared.Point.{Point}
use Rattle.sheet.specs.Geometry.{ends}
use Rattle.joints.specs.Table.{Keys}
use Rattle.joints.specs.Keys.{Keyed}
use Rattle.joints.proofs.Keying.{keyed_more, ends_few}
use Rattle.joints.proofs.keys.mark_keys.Goals as goal

pub loop-p-init : goal.loop-p-init
loop-p-init c =
    (ends_few c.args.ws.now c.end_keys-out.ensures (omega arith), subst (λ (l : List Point). Keyed l c.end_keys-out.result) (sym (append-nil (ends c.args.ws.now))) c.end_keys-out.ensures)

pub loop-p-preserved : goal.loop-p-preserved
loop-p-preserved c =
    let s = c.loop-p.invariant in
    let one = ap (λ (t : Keys). t.count) c.push.ensures in
    let more = append_assoc (ends c.args.ws.now) (take c.loop-p.p-index c.args.pads.now) _ ∙ ap (λ (l : List Point). ends c.args.ws.now ++ l) (sym (take_more c.args.pads.now c.loop-p.p-index _ c.loop-p-test.true)) in
    (omega (arith, one), subst (λ (l : List Point). Keyed l c.push.new.self) more (keyed_more _ s.1 c.key.ensures (omega arith) c.push.ensures))

pub returns : goal.returns
returns c = subst (λ (l : List Point). Keyed (ends c.args.ws.now ++ l) c.loop-p.out) (take_all c.loop-p.p-index c.args.pads.now c.loop-p-test.false) c.loop-p.invariant.1
