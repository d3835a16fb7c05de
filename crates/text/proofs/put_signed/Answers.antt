-- `text::put_signed` meets its contract: the minus and then the distance from 0, or the distance alone.
use mathlib.Core.Path.{refl, sym, ap}
use native.Mathlib.Omega.{arith}
use lib.ListN.{length}
use Rattle.text.proofs.Puts.{put_then, put_as}
use Rattle.text.proofs.Signs.{minus_text, plain_text}
use Rattle.text.proofs.put_signed.Goals as goal

pub put_byte-next-requires : goal.put_byte-next-requires
put_byte-next-requires c =
    omega (arith, ap length (minus_text c.args.n c.ranges.n c.if-n-lt0.true _ refl))

pub put_decimal-requires : goal.put_decimal-requires
put_decimal-requires c =
    let text = minus_text c.args.n c.ranges.n c.if-n-lt0.true _ c.unsigned_abs.ensures.value in
    omega (arith, c.put_byte-next.ensures.behind, ap length text)

pub returns-then-n-lt0 : goal.returns-then-n-lt0
returns-then-n-lt0 c =
    let text = minus_text c.args.n c.ranges.n c.if-n-lt0.true _ c.unsigned_abs.ensures.value in
    put_as (sym text) (put_then c.put_byte-next.ensures c.put_decimal.ensures)

pub put_decimal-requires-2 : goal.put_decimal-requires-2
put_decimal-requires-2 c =
    omega (arith, ap length (plain_text c.args.n c.ranges.n c.if-n-lt0.false _ c.unsigned_abs-2.ensures.value))

pub returns : goal.returns
returns c =
    put_as (sym (plain_text c.args.n c.ranges.n c.if-n-lt0.false _ c.unsigned_abs-2.ensures.value)) c.put_decimal-2.ensures
