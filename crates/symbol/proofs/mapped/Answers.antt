-- `symbol::mapped` meets its contract: the loop has mapped the first points, and the next one is as it was.
use mathlib.Core.Path.{◌≡◌, sym, subst, ap, ◌∙◌}
use mathlib.Core.List.{◌++◌}
use native.Mathlib.Omega.{arith}
use lib.ListN.{get_or, take, drop, length-take}
use lib.Seq.{get_or-take}
use Rattle.orientation.specs.Orientations.{eighth}
use Rattle.symbol.specs.Symbols.{moved_of, unused}
use Rattle.symbol.specs.Steps.{offset_of, Near}
use Rattle.symbol.specs.declared.Point.{Point}
use Rattle.symbol.proofs.Tables.{again, still, joined, all_mapped}
use Rattle.symbol.proofs.mapped.Goals as goal

pub moved-requires : goal.moved-requires
moved-requires c =
    let s = c.args in
    let l = c.loop-q in
    let put : Point → Point = λ q. moved_of (eighth s.n) s.x s.y (offset_of q) in
    let e : get_or l.q-items l.q-index unused ≡ get_or s.points l.q-index unused = (λ i. get_or (l.invariant i) l.q-index unused) ∙ still put unused l.q-index (take s.count s.points) ∙ get_or-take s.count s.points l.q-index unused (let t = length-take s.count s.points in omega (arith, t)) in
    (c.requires.sound, subst Near (sym e) (c.requires.near l.q-index))

pub loop-q-preserved : goal.loop-q-preserved
loop-q-preserved c =
    let s = c.args in
    let l = c.loop-q in
    let put : Point → Point = λ q. moved_of (eighth s.n) s.x s.y (offset_of q) in
    again put unused l.q-index (take s.count s.points) l.invariant (c.moved.ensures ∙ ap put ((λ i. get_or (l.invariant i) l.q-index unused) ∙ still put unused l.q-index (take s.count s.points)))

pub returns : goal.returns
returns c =
    let s = c.args in
    let l = c.loop-q in
    let put : Point → Point = λ q. moved_of (eighth s.n) s.x s.y (offset_of q) in
    (λ i. (l.invariant ∙ all_mapped put unused l.q-index s.count s.points c.loop-q-test.false) i ++ drop s.count s.points) ∙ joined put unused s.count s.points
