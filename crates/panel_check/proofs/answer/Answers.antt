-- `answer` meets its contract: there is room for the answer.
use native.Mathlib.Omega.{arith}
use Rattle.panel_check.proofs.Standing.{kept_few, answers}
use Rattle.panel_check.proofs.answer.Goals as goal

pub put_checked-n-requires : goal.put_checked-n-requires
put_checked-n-requires g c = omega (arith, c.make_room-room.ensures, kept_few c.args.used)

pub returns : goal.returns
returns g c = answers c.requires.waiting c.requires.room c.make_room-room.ensures c.check-k.ensures c.put_checked-n.ensures
