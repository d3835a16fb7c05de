-- `put_number`, which calls itself, meets its contract: the groups behind the first are those of the rest.
use native.Mathlib.Omega.{arith}
use Rattle.text.proofs.Puts.{put_then}
use Rattle.groups.proofs.Laws.{groups_one, groups_more, length_one, length_more}
use Rattle.groups.proofs.+put_number.Goals as goal

pub put_byte-requires : goal.put_byte-requires
put_byte-requires t c = omega (arith, c.requires, length_one c.args.n (omega arith))

pub returns-then-n-lt128 : goal.returns-then-n-lt128
returns-then-n-lt128 t c = rw (groups_one c.args.n c.if-n-lt128.true) c.put_byte.ensures

pub put_byte-next-requires : goal.put_byte-next-requires
put_byte-next-requires t c = omega (arith, c.requires, length_more c.args.n (omega arith) (omega arith))

pub put_number-requires : goal.put_number-requires
put_number-requires t c = (omega arith, omega (arith, c.requires, c.put_byte-next.ensures.behind, length_more c.args.n (omega arith) (omega arith)))

pub returns : goal.returns
returns t c = rw (groups_more c.args.n (omega arith) (omega arith)) (put_then c.put_byte-next.ensures c.put_number.ensures)
