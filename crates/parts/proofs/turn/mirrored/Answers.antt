-- A known orientation is turned, not refused.
use Rattle.orientation.specs.Orientations.{mirrors}
use Rattle.parts.proofs.Fitting.{turned_ok, turned_part}
use Rattle.parts.proofs.turn.mirrored.Goals as goal

pub unwrap-n-requires : goal.unwrap-n-requires
unwrap-n-requires c = turned_ok mirrors c.args.c c.requires c.mirror.result c.mirror.ensures

pub returns : goal.returns
returns c = turned_part mirrors c.args.c c.requires c.mirror.result c.mirror.ensures c.unwrap-n.ensures c.reoriented.ensures
