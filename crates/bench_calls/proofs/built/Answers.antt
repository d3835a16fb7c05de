-- After i edits the drawing is that of i edits, and so it is lawful.
use native.Mathlib.Omega.{arith}
use mathlib.Core.Path.{sym, subst}
use mir.Syntax.{w32}
use mir.Val.{SFits}
use Rattle.sheet.specs.Rules.{Lawful}
use Rattle.bench_calls.proofs.Building.{built_none, built_next, built_end, built_lawful}
use borrow.Author.Rules.{rules}
use Rattle.bench_calls.proofs.built.Goals as goal

pub loop-i-init : goal.loop-i-init
loop-i-init c = (omega arith, built_none _ _ c.empty_drawing-d.ensures.0)

pub next-d-requires : goal.next-d-requires
next-d-requires c = let l = c.loop-i in subst Lawful (sym l.invariant.1) (built_lawful _ _ l.i)

pub loop-i-preserved : goal.loop-i-preserved
loop-i-preserved c =
    let l = c.loop-i in
    let x = c.number_at-x in
    let y = c.number_at-y in
    let z = c.number_at-z in
    let f : SFits w32 x.result = search rules in
    let g : SFits w32 y.result = search rules in
    let h : SFits w32 z.result = search rules in
    (omega arith, built_next _ _ l.i l.invariant.1 c.byte_at-what.ensures x.ensures y.ensures z.ensures f g h c.next-d.ensures)

pub returns : goal.returns
returns c = built_end _ _ c.loop-i.i c.args.count (omega arith) c.loop-i.invariant.1
