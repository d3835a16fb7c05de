-- Document 01 under the four numbers, all under one name.
pub use Rattle.four.specs.Plans.{Part, Plan, Drawing, joints, tally_of, part_rows, lists_of}
pub use Rattle.four.specs.Listing.{list_of, loose_of}
pub use Rattle.four.specs.Check.{check_of}
pub use Rattle.four.specs.Rules.{Lawful}
pub use Rattle.four.specs.Calls.{Edited, turned, component_pads, component_box, component_shape, add_wire, add_component, delete_at, rotate_at, mirror_at, checked, netlist_of, netlist_in, loose_answer}
