-- A first digit, and at most five more: each is what the reader finds next.
use Rattle.std.proofs.Common.{◌≡◌, ◌∙◌, sym, ◌-◌, drop, length, arith, length-drop}
use Rattle.std.proofs.Math.Seq.{take_all}
use Rattle.script.proofs.Digits.{digit_begins, nothing_begins, stops, full}
use Rattle.script.proofs.Room.{room_first, room_below}
use Rattle.script.proofs.Longer.{longer}
use Rattle.script.proofs.numbers.whole.Goals as goal

pub returns-in_err-value-clause-read : goal.returns-in_err-value-clause-read
returns-in_err-value-clause-read c = rw c.from_residual.ensures (sym (nothing_begins _ (sym c.in_err-value.was ∙ c.digit_at.ensures)))

pub loop-i-init : goal.loop-i-init
loop-i-init c =
    let g = digit_begins c.args.text.now (sym c.in_ok-value.was ∙ c.digit_at.ensures) in
    record { within = g.some; same = sym g.first; room = room_first _ g.small }

pub returns-in_default-clause-read : goal.returns-in_default-clause-read
returns-in_default-clause-read c =
    let l = c.loop-i in let s = c.args.text.now in
    rw (take_all (length s - l.i) (drop l.i s) (omega (arith, length-drop l.i s)))
    (sym (stops _ l.value (drop l.i s) (sym c.in_default.is ∙ c.digit_at-in-loop-i.ensures)) ∙ l.invariant.same)

pub returns-in_default-clause-small : goal.returns-in_default-clause-small
returns-in_default-clause-small c = room_below _ _ c.loop-i.invariant.room

pub overflow_mul-value : goal.overflow_mul-value
overflow_mul-value c =
    let l = c.loop-i in let i = l.invariant in
    let more = longer c.args.text.now l.i l.value _ (omega arith) i.within (sym c.in-Some.is ∙ c.digit_at-in-loop-i.ensures) i.same i.room in
    omega (arith, more.small)

pub overflow_add-value : goal.overflow_add-value
overflow_add-value c =
    let l = c.loop-i in let i = l.invariant in
    let more = longer c.args.text.now l.i l.value _ (omega arith) i.within (sym c.in-Some.is ∙ c.digit_at-in-loop-i.ensures) i.same i.room in
    omega (arith, more.small)

pub loop-i-preserved : goal.loop-i-preserved
loop-i-preserved c =
    let l = c.loop-i in let i = l.invariant in
    let more = longer c.args.text.now l.i l.value _ (omega arith) i.within (sym c.in-Some.is ∙ c.digit_at-in-loop-i.ensures) i.same i.room in
    record { within = more.within; same = more.same; room = more.room }

pub returns-clause-read : goal.returns-clause-read
returns-clause-read c =
    let l = c.loop-i in let s = c.args.text.now in
    let six : l.i ≡ 6 = omega arith in
    rw (take_all (length s - 6) (drop 6 s) (omega (arith, length-drop 6 s))) (sym (full l.value (drop 6 s)) ∙ rw six at l.invariant.same)

pub returns-clause-small : goal.returns-clause-small
returns-clause-small c = room_below _ _ c.loop-i.invariant.room
