-- `read_tables` meets its contract: counts and rows, one behind the other.
use mathlib.Core.Bool.{true, false}
use mathlib.Core.List.{[]}
use Rattle.std.proofs.lemmas.Result.{err_from_is_err_and}
use Rattle.sheet.specs.Drawings.{zero_wire, zero_component}
use Rattle.table.proofs.Rows.{empty_holds}
use Rattle.saved.specs.Reading.{take_wire, take_part}
use Rattle.file_tables.proofs.Both.{no_level_count, no_levels, no_upright_count, no_uprights, no_part_count, no_parts_read, all_read}
use Rattle.file_tables.proofs.read_tables.Goals as goal

pub returns-in_err-h : goal.returns-in_err-h
returns-in_err-h c =
    let p = err_from_is_err_and c.from_residual.result c.from_residual.ensures.1 in
    rw (p.1, p.2) (no_level_count _ c.in_err-h.ensures.is)

pub returns-in_err-levels_end : goal.returns-in_err-levels_end
returns-in_err-levels_end c =
    let p = err_from_is_err_and c.from_residual-in_err-levels_end.result c.from_residual-in_err-levels_end.ensures.1 in
    rw (p.1, p.2) (no_levels _ c.in_ok-h.ensures.is (c.in_err-levels_end.ensures.read (take_wire false) (λ p at r q. q) c.in_ok-h.ensures.inside zero_wire [] (empty_holds c.empty-wires.ensures)))

pub returns-in_err-v : goal.returns-in_err-v
returns-in_err-v c =
    let p = err_from_is_err_and c.from_residual-in_err-v.result c.from_residual-in_err-v.ensures.1 in
    let hs = c.in_ok-levels_end.ensures.read (take_wire false) (λ p at r q. q) c.in_ok-h.ensures.inside zero_wire [] (empty_holds c.empty-wires.ensures) in
    rw (p.1, p.2) (no_upright_count _ c.in_ok-h.ensures.is hs.is c.in_err-v.ensures.is)

pub returns-in_err-uprights_end : goal.returns-in_err-uprights_end
returns-in_err-uprights_end c =
    let p = err_from_is_err_and c.from_residual-in_err-uprights_end.result c.from_residual-in_err-uprights_end.ensures.1 in
    let hs = c.in_ok-levels_end.ensures.read (take_wire false) (λ p at r q. q) c.in_ok-h.ensures.inside zero_wire [] (empty_holds c.empty-wires.ensures) in
    rw (p.1, p.2) (no_uprights _ c.in_ok-h.ensures.is hs.is c.in_ok-v.ensures.is (c.in_err-uprights_end.ensures.read (take_wire true) (λ p at r q. q) c.in_ok-v.ensures.inside zero_wire hs.value hs.so))

pub returns-in_err-n : goal.returns-in_err-n
returns-in_err-n c =
    let p = err_from_is_err_and c.from_residual-in_err-n.result c.from_residual-in_err-n.ensures.1 in
    let hs = c.in_ok-levels_end.ensures.read (take_wire false) (λ p at r q. q) c.in_ok-h.ensures.inside zero_wire [] (empty_holds c.empty-wires.ensures) in
    let vs = c.in_ok-uprights_end.ensures.read (take_wire true) (λ p at r q. q) c.in_ok-v.ensures.inside zero_wire hs.value hs.so in
    rw (p.1, p.2) (no_part_count _ c.in_ok-h.ensures.is hs.is c.in_ok-v.ensures.is vs.is c.in_err-n.ensures.is)

pub returns-in_err-next : goal.returns-in_err-next
returns-in_err-next c =
    let p = err_from_is_err_and c.from_residual-in_err-next.result c.from_residual-in_err-next.ensures.1 in
    let hs = c.in_ok-levels_end.ensures.read (take_wire false) (λ p at r q. q) c.in_ok-h.ensures.inside zero_wire [] (empty_holds c.empty-wires.ensures) in
    let vs = c.in_ok-uprights_end.ensures.read (take_wire true) (λ p at r q. q) c.in_ok-v.ensures.inside zero_wire hs.value hs.so in
    rw (p.1, p.2) (no_parts_read _ c.in_ok-h.ensures.is hs.is c.in_ok-v.ensures.is vs.is c.in_ok-n.ensures.is (c.in_err-next.ensures.read take_part (λ p at r q. q) c.in_ok-n.ensures.inside zero_component [] (empty_holds c.empty-parts.ensures)))

pub returns : goal.returns
returns c =
    let hs = c.in_ok-levels_end.ensures.read (take_wire false) (λ p at r q. q) c.in_ok-h.ensures.inside zero_wire [] (empty_holds c.empty-wires.ensures) in
    let vs = c.in_ok-uprights_end.ensures.read (take_wire true) (λ p at r q. q) c.in_ok-v.ensures.inside zero_wire hs.value hs.so in
    let cs = c.in_ok-next.ensures.read take_part (λ p at r q. q) c.in_ok-n.ensures.inside zero_component [] (empty_holds c.empty-parts.ensures) in
    record {
      value = _;
      is = all_read _ c.in_ok-h.ensures.is hs.is c.in_ok-v.ensures.is vs.is c.in_ok-n.ensures.is cs.is;
      inside = cs.inside;
      so = record { wires = vs.so; parts = cs.so };
    }
