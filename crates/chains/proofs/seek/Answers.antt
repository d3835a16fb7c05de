-- If the number is one of the first n, it is still to be met on its chain.
use Prim.Native.Nat.{ℕ}
use mathlib.Core.Path.{sym, ap, ◌∙◌}
use lib.ListN.{take, get_or, length-take}
use lib.Seq.{get_or-take}
use Rattle.chains.proofs.Seeking.{Sought, sought_start, sought_at, sought_falls, sought_next, found_here, found_none}
use native.Mathlib.Omega.{arith}
use Rattle.chains.proofs.seek.Goals as goal

-- the first link: of the key that the number has
begun : (c : goal.After-k-1) → let a = c.args in Sought a.c (take a.n a.codes.now) a.before.now (get_or a.last.now c.key_of-key.result 0)
begun c = sought_at (sought_start c.args.c c.requires.1) (ap (λ (k : ℕ). get_or c.args.last.now k 0) c.key_of-key.ensures.0)

pub overflow_cast-k : goal.overflow_cast-k
overflow_cast-k c = omega (arith, (begun c).within, length-take c.args.n c.args.codes.now)

pub loop-k-init : goal.loop-k-init
loop-k-init c = let s = begun c in
    (omega (arith, s.within, length-take c.args.n c.args.codes.now), s)

pub returns-then-codes-j : goal.returns-then-codes-j
returns-then-codes-j c = let s = c.loop-k.invariant.1 in
    found_here s (omega arith) (omega arith) (get_or-take c.args.n _ _ 0 (omega arith) ∙ c.if-codes-j.true)

pub overflow_cast-k-in-loop-k : goal.overflow_cast-k-in-loop-k
overflow_cast-k-in-loop-k c = let s = c.loop-k.invariant.1 in
    omega (arith, sought_falls c.requires.1 s (omega arith))

pub loop-k-smaller : goal.loop-k-smaller
loop-k-smaller c = let s = c.loop-k.invariant.1 in
    omega (arith, sought_falls c.requires.1 s (omega arith))

pub loop-k-preserved : goal.loop-k-preserved
loop-k-preserved c = let s = c.loop-k.invariant.1 in
    let f = sought_falls c.requires.1 s (omega arith) in
    (omega arith, sought_next s (omega arith) (λ e. c.if-codes-j.false (sym (get_or-take c.args.n _ _ 0 (omega arith)) ∙ e)) f)

pub returns : goal.returns
returns c = found_none _ c.loop-k.invariant.1 (omega arith)
