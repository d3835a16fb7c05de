-- Each row with those behind it.
use Rattle.std.proofs.Common.{ℕ, ◌+◌, List, [], arith, get_or, subst}
use Rattle.lists.specs.Lists.{◌∈◌}
use Rattle.lists.proofs.Tables.{same_row}
use Rattle.lists.proofs.Finding.{in_drop}
use Rattle.lists.proofs.Pairing.{among, rows_behind}
use Rattle.sheet.specs.declared.Component.{Component}
use Rattle.lawful.proofs.Touching.{risen, rule5_on, rule5_off}
use Rattle.lawful.proofs.boxes.none_touch.Goals as goal

abbrev row : List Component → ℕ → Component
row cs i = get_or cs i (record { kind = 0; orientation = 0; x = 0; y = 0; label = [] })

pub box_of-requires : goal.box_of-requires
box_of-requires c =
    let cs = c.args.cs.now in
    let i = c.loop-i.i in
    c.requires (row cs i) (among cs i (row cs i) (omega arith) (same_row cs i _ _ (omega arith)))

pub is_apart_from-requires : goal.is_apart_from-requires
is_apart_from-requires c = λ b m. c.requires b (in_drop (c.loop-i.i + 1) c.args.cs.now (subst (λ l. b ∈ l) (rows_behind c.args.cs.now (c.loop-i.i + 1)) m))

pub loop-i-preserved : goal.loop-i-preserved
loop-i-preserved c = λ t r.
    let cs = c.args.cs.now in
    let i = c.loop-i.i in
    c.loop-i.invariant t (rule5_on cs i (row cs i) (omega arith) (same_row cs i _ _ (omega arith)) c.box_of.ensures (risen cs t) (c.is_apart_from.ensures c.if-not-is_apart_from.false) r)

pub returns : goal.returns
returns c = λ e t. c.loop-i.invariant t (rule5_off c.args.cs.now c.loop-i.i (omega arith))
