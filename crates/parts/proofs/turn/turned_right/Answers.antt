-- A known orientation is turned, not refused.
use Rattle.orientation.specs.Orientations.{rights}
use Rattle.parts.proofs.Fitting.{turned_ok, turned_part}
use Rattle.parts.proofs.turn.turned_right.Goals as goal

pub unwrap-n-requires : goal.unwrap-n-requires
unwrap-n-requires c = turned_ok rights c.args.c c.requires c.rotate_r.result c.rotate_r.ensures

pub returns : goal.returns
returns c = turned_part rights c.args.c c.requires c.rotate_r.result c.rotate_r.ensures c.unwrap-n.ensures c.reoriented.ensures
