-- The table, computed.
use mathlib.Core.Path.{refl}
use Rattle.lists.specs.Lists.{pairs, links, insert}
use Rattle.std.specs.List.{list_any, list_all, filter, flat_map}
use Rattle.lists.specs.Tables.{pad}
use Rattle.lists.specs.Span.{span}
use Rattle.edge.specs.Coordinates.{biased, biased_within, size_of}
use Rattle.label.specs.Labels.{padded, label_of, held_label, label_ok, label_part}
use Rattle.symbol.specs.Replies.{point_reply, wire_reply, pointer_reply, symbol_reply, component_reply}
use Rattle.sheet.specs.Points.{same, rises}
use Rattle.sheet.specs.Geometry.{ends, inside, on, meets, first}
use Rattle.sheet.specs.Split.{split_one, split_at, split_all}
use Rattle.sheet.specs.Merge.{held_apart, joins, glue, merge_by, merge}
use Rattle.sheet.specs.Run.{kept, run, rest, standing, lay, lay_wire, draw_wire}
use Rattle.sheet.specs.Joints.{bump, joints_of, number, total, count_at}
use Rattle.sheet.specs.Parts.{box, pads, touches}
use Rattle.sheet.specs.Rules.{ends_at}
use Rattle.sheet.specs.Drawings.{joints, drawn, tally_of}
use Rattle.sheet.specs.Edits.{wire, place_one, remove, meets_wire, meets_part, delete, place_all, turn, hits, turn_right, mirror}
use Rattle.limits.specs.Limits.{blank_wire, blank_component, blank_joint, wire_fits, component_fits, rooms, blanks, limits, check1}
use Rattle.row_order.specs.RowOrder.{share, check2, upward, check7}
use Rattle.rules.specs.Check.{free, check3, bare, check4, touching_one, touching_from, check6, from_rule5, check_of}
use Rattle.edits.specs.Making.{room_reply}
use Rattle.redraw.specs.Calls as Calls
use Rattle.schematic.specs.Calls.{checked}
use Rattle.nets.specs.Numbers.{merged, net_from, first_net, net_of, rank, meet, number_from, numbering, numbers_of}
use Rattle.net_numbers.specs.Netted.{number_of_joint, net_numbers}
use Rattle.listing.specs.Listing.{net_word, pin_word, relay, switch, entry_lines, lines_in, kind_lines, list_with, list_of}
use Rattle.loose_pads.specs.Loose.{pad_names}
use Rattle.loose_pads.specs.Counting.{occurs, spare, is_loose, numbers_from, loose_pads, loose_of}
use Rattle.text.specs.Text.{digits_in, decimal_of, signed_of}
use Rattle.script.specs.Reading as Reading
use Rattle.dump.specs.Rows as Rows
use Rattle.telling.specs.Told as Told
use Rattle.step.specs.Steps as Steps
use Rattle.board.specs.Calling as Calling
use Rattle.board.specs.Table.{All, none, more, table}

pub board : All table
unfolding pairs links insert pad span biased biased_within size_of padded label_of held_label label_ok label_part same rises ends inside on meets first split_one split_at split_all held_apart joins glue merge_by merge kept run rest standing lay lay_wire draw_wire bump joints_of number total count_at box pads touches ends_at joints drawn tally_of wire place_one remove meets_wire meets_part delete place_all turn hits turn_right mirror blank_wire blank_component blank_joint wire_fits component_fits rooms blanks limits check1 share check2 free check3 bare check4 touching_one touching_from check6 upward check7 from_rule5 check_of room_reply point_reply wire_reply pointer_reply symbol_reply component_reply Calls.edited Calls.add_wire Calls.add_component Calls.pointed Calls.delete_at Calls.rotate_at Calls.mirror_at checked digits_in decimal_of signed_of Reading.digits_of Reading.whole_of Reading.signed_numeral Reading.numeral_of Reading.field_of Reading.three_of Reading.lettered Reading.three_line Reading.labelled Reading.place_line Reading.line_of Reading.command_of Rows.count_word Rows.coordinate_word Rows.label_word Rows.tally_line Rows.wire_line Rows.joint_line Rows.component_line Rows.row_lines Rows.rows_of Steps.choice_of Steps.edit_of Told.numbered Told.counted Steps.step_of Told.in_room Calling.printed_by net_word pin_word relay switch entry_lines lines_in kind_lines list_with list_of pad_names occurs spare is_loose numbers_from loose_pads loose_of merged net_from first_net net_of rank meet number_from numbering numbers_of number_of_joint net_numbers
board = more refl (more refl (more refl (more refl (more refl (more refl (more refl (more refl (more refl (more refl (more refl (more refl none)))))))))))
