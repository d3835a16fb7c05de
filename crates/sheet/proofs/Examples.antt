-- The drawing board, computed.
use mathlib.Core.Path.{refl}
use Rattle.lists.specs.Lists.{insert}
use Rattle.std.specs.List.{list_any, filter, flat_map}
use Rattle.edge.specs.Coordinates.{biased}
use Rattle.sheet.specs.Points.{same, rises}
use Rattle.sheet.specs.Geometry.{ends, inside, on, meets, first}
use Rattle.sheet.specs.Split.{split_one, split_at, split_all}
use Rattle.sheet.specs.Merge.{held_apart, joins, glue, merge_by, merge}
use Rattle.sheet.specs.Run.{kept, run, rest, standing, lay, lay_wire, draw_wire}
use Rattle.sheet.specs.Joints.{bump, joints_of, total, count_at}
use Rattle.sheet.specs.Parts.{box, pads, touches}
use Rattle.sheet.specs.Drawings.{joints}
use Rattle.sheet.specs.Edits.{wire, place_one, remove, meets_wire, meets_part, delete, place_all, turn, hits, turn_right}
use Rattle.sheet.specs.Examples.{Board}

pub board : Board
unfolding insert biased same rises ends inside on meets first split_one split_at split_all held_apart joins glue merge_by merge kept run rest standing lay lay_wire draw_wire bump joints_of total count_at box pads touches joints wire place_one remove meets_wire meets_part delete place_all turn hits turn_right
board = record {
  first = refl;
  three = refl;
  tee_count = refl;
  back = refl;
  bare = refl;
  bare_count = refl;
  four = refl;
  four_count = refl;
  one = refl;
  bend = refl;
  bend_count = refl;
  nothing = λ s. refl;
  touch = refl;
  no_touch = refl;
  turn_one = refl;
  turn_two = refl;
  pad_count = refl;
  pad_sum = refl;
  corner_stays = refl;
  pad_stays = refl;
  under = refl;
}
