-- Those passed are apart from the box, and so are those that lie too far behind.
use Rattle.std.proofs.Common.{ℕ, List, [], arith, sym, ◌∙◌, get_or}
use Rattle.lists.proofs.Tables.{same_row}
use Rattle.lists.proofs.Pairing.{among}
use Rattle.sheet.specs.declared.Component.{Component}
use Rattle.lawful.proofs.Touching.{far_on, apart_on, apart_off}
use Rattle.lawful.proofs.boxes.is_apart_from.Goals as goal

abbrev row : List Component → ℕ → Component
row cs i = get_or cs i (record { kind = 0; orientation = 0; x = 0; y = 0; label = [] })

pub returns-then-is_far : goal.returns-then-is_far
returns-then-is_far c = λ e rise.
    let cs = c.args.cs.now in
    let i = c.loop-b.b-index in
    c.loop-b.invariant (far_on cs i (row cs i) rise c.requires (omega arith) (same_row cs i _ _ (omega arith)) (sym c.is_far.ensures ∙ c.if-is_far.true))

pub is_apart-requires : goal.is_apart-requires
is_apart-requires c =
    let cs = c.args.cs.now in
    let i = c.loop-b.b-index in
    c.requires (row cs i) (among cs i (row cs i) (omega arith) (same_row cs i _ _ (omega arith)))

pub loop-b-preserved : goal.loop-b-preserved
loop-b-preserved c = λ rest.
    let cs = c.args.cs.now in
    let i = c.loop-b.b-index in
    c.loop-b.invariant (apart_on cs i (row cs i) (omega arith) (same_row cs i _ _ (omega arith)) (c.is_apart.ensures c.if-not-is_apart.false) rest)

pub returns : goal.returns
returns c = λ e rise. c.loop-b.invariant (apart_off c.args.cs.now c.loop-b.b-index (omega arith))
