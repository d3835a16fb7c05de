-- `save_on` meets its contract: the first run tells the length, whatever the buffer, and the second is made only where all fits.
use native.Mathlib.Omega.{arith}
use mathlib.Core.Path.{◌≡◌, ap}
use mathlib.Core.List.{List}
use Prim.Native.Nat.{ℕ, ◌≤◌}
use lib.ListN.{length}
use Rattle.std.proofs.lemmas.List.{length-take}
use Rattle.sheet.specs.declared.Wire.{Wire}
use Rattle.sheet.specs.declared.Component.{Component}
use Rattle.sheet.specs.declared.Drawing.{Drawing}
use Rattle.sheet.specs.Drawings.{wire_rows, component_rows, lists_of}
use Rattle.text.specs.Text.{Put}
use Rattle.text.proofs.Puts.{put_as}
use Rattle.saved.specs.File.{file_of}
use Rattle.sheet.proofs.Owned.{owned}
use Rattle.saved.proofs.Lengths.{lawful_file_room}
use Rattle.text.proofs.Buffers.{answer_fits, answer_long, buffer_fits, buffer_long}
use Rattle.save.proofs.save_on.Goals as goal

-- the rows in use are those of the drawing
module _ (d : Drawing) {ws : List Wire} {cs : List Component} (e : ws ≡ wire_rows d.wires) (k : cs ≡ component_rows d.components) where
  rows : record { wires = ws; parts = cs } ≡ lists_of d
  rows = λ i. record { wires = e i; parts = k i }

  few : d.wires.count ≤ 512 → d.components.count ≤ 128 → (length ws ≤ 512) × (length cs ≤ 128)
  few h l = (omega (arith, ap length e, length-take d.wires.count d.wires.rows), omega (arith, ap length k, length-take d.components.count d.components.rows))

  file_put : {old new : List ℕ} {next : ℕ} → Put old 0 (file_of (record { wires = ws; parts = cs })) new next → Put old 0 (file_of (lists_of d)) new next
  file_put p = put_as (ap file_of rows) p

pub put_file-n-requires : goal.put_file-n-requires
put_file-n-requires c =
    let rule1 = c.requires.rule1 in
    let e = rows c.args.d c.in_use-ws.ensures c.in_use-cs.ensures in
    record {
      few = few c.args.d c.in_use-ws.ensures c.in_use-cs.ensures rule1.wire_room rule1.component_room;
      room = rw e (omega (arith, lawful_file_room c.requires (owned c.args.d _ c.well_formed.0.1.1)));
    }

pub put_file-requires : goal.put_file-requires
put_file-requires c =
    let rule1 = c.requires.rule1 in
    let e = rows c.args.d c.in_use-ws.ensures c.in_use-cs.ensures in
    record {
      few = few c.args.d c.in_use-ws.ensures c.in_use-cs.ensures rule1.wire_room rule1.component_room;
      room = rw e (omega (arith, lawful_file_room c.requires (owned c.args.d _ c.well_formed.0.1.1)));
    }

pub returns-then-n-out : goal.returns-then-n-out
returns-then-n-out c =
    let first = file_put c.args.d c.in_use-ws.ensures c.in_use-cs.ensures c.put_file-n.ensures in
    let second = file_put c.args.d c.in_use-ws.ensures c.in_use-cs.ensures c.put_file.ensures in
    record { told = answer_fits first (length c.args.out.now) c.if-n-out.true; written = buffer_fits first second c.if-n-out.true }

pub returns : goal.returns
returns c =
    let first = file_put c.args.d c.in_use-ws.ensures c.in_use-cs.ensures c.put_file-n.ensures in
    record { told = answer_long first (length c.args.out.now) c.if-n-out.false; written = buffer_long first c.args.out.now c.if-n-out.false }
