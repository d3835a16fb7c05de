-- `netlist::build_netlist` meets its contract: the drawing is checked, and then listed.
use mathlib.Core.Path.{refl}
use Rattle.sheet.proofs.Owned.{owned}
use Rattle.netlist.specs.Answers.{netlist_of, netlist_in}
use Rattle.rules.proofs.Found.{lawful_found, found_passes, found_fails}
use Rattle.netlist.proofs.build_netlist.Goals as goal

pub returns-then-c-ne0 : goal.returns-then-c-ne0
unfolding netlist_of netlist_in
returns-then-c-ne0 c =
    let refusal = found_fails c.args.d c.check-c.ensures c.if-c-ne0.true in
    record { told = rw refusal refl; written = rw refusal refl }

pub write_list_on-requires : goal.write_list_on-requires
write_list_on-requires c = lawful_found c.args.d c.check-c.ensures (owned c.args.d _ c.well_formed.0.1.1) c.if-c-ne0.false

pub returns : goal.returns
unfolding netlist_of netlist_in
returns c =
    let is = found_passes c.args.d c.check-c.ensures c.if-c-ne0.false in
    let w = c.write_list_on.ensures in
    record { told = rw is w.told; written = rw is w.written }
