-- Each component hit in turn is lost or placed; what the rest makes of the tables so far is the whole.
use Rattle.std.proofs.Common.{arith, rules, refl, sym, ap, subst, map, length, ◌≡◌, ◌∙◌}
use Rattle.std.specs.List.{list_any}
use Rattle.std.specs.Prelude.{Result}
use lib.ListN.{length-map}
use Rattle.lists.specs.Lists.{◌∈◌}
use Rattle.lists.proofs.Finding.{get_in}
use Rattle.table.specs.declared.NoRoom.{NoRoom}
use Rattle.sheet.specs.declared.Component.{Component}
use Rattle.sheet.specs.Tables.{Wires}
use Rattle.sheet.specs.Parts.{PartFits, pads, touches}
use Rattle.sheet.proofs.Placing.{place_all_count}
use Rattle.wires.specs.Tables.{Splits}
use Rattle.joints.specs.Tables.{sheet_of}
use Rattle.lists.proofs.Tables.{holds_self}
use Rattle.edits.proofs.Making.{full_wires, answer_room}
use Rattle.edits.proofs.Placing.{placing_start, placing_lost, placing_placed, placing_over, placing_end, insert_count, fits_more}
use Rattle.edits.proofs.turn.place_all.Goals as goal
use Rattle.edits.proofs.turn.place_all.Goals.{then-touches_any, else-touches_any+in-Ok}

pub loop-h-init : goal.loop-h-init
loop-h-init g c = let s = c.requires.sound in (omega arith, omega arith, s.0.parts, s.0.fits.each, λ f h. placing_start f _ s.0)

pub alter-c-requires : goal.alter-c-requires
alter-c-requires g c = c.requires.callable _ (c.requires.sound.1.0 _ (get_in _ _ _ c.loop-h-test.true))

pub touches_any-requires : goal.touches_any-requires
touches_any-requires g c =
    (λ d m. c.loop-h.invariant.3 d (subst (λ l. d ∈ l) c.in_use.ensures m), c.requires.fits _ _ (c.requires.sound.1.0 _ (get_in _ _ _ c.loop-h-test.true)) c.alter-c.ensures)

pub split_at_pads-requires : goal.split_at_pads-requires
split_at_pads-requires g c = c.requires.fits _ _ (c.requires.sound.1.0 _ (get_in _ _ _ c.loop-h-test.true)) c.alter-c.ensures

pub returns-in-Err : goal.returns-in-Err
returns-in-Err g c = λ f h.
    let fit = c.requires.sound.1.0 _ (get_in _ _ _ c.loop-h-test.true) in
    let p = c.loop-h.invariant.4 f h in
    let e = h _ _ fit c.alter-c.ensures in
    let t = sym (rw c.in_use.ensures at c.touches_any.ensures) ∙ c.if-touches_any.false in
    let over = placing_over p _ _ e c.loop-h-test.true t (subst (λ (r : Result Wires NoRoom). Splits (pads c.alter-c.result) c.loop-h.wires r) c.in-Err.is c.split_at_pads.ensures) in
    full_wires _ over (omega (arith, place_all_count (map f c.args.hits.now) (sheet_of c.args.ws c.args.cs), length-map c.args.hits.now f, c.requires.sound.1.1, c.requires.sound.0.parts.count_is))

pub insert_part-parts-requires : goal.insert_part-parts-requires
insert_part-parts-requires g c = (c.loop-h.invariant.2, omega (arith, c.loop-h.invariant.0, c.loop-h-test.true))

pub loop-h-preserved : goal.loop-h-preserved
loop-h-preserved g c =
    let fit = c.requires.sound.1.0 _ (get_in _ _ _ c.loop-h-test.true) in
    let i = c.loop-h.invariant in
    elim c.if-touches_any.branch [
      | then-touches_any w ↦ (
        rw w.parts-is (omega (arith, i.0)),
        rw w.lost-is (omega (arith, i.1)),
        rw w.parts-is i.2,
        rw w.parts-is i.3,
        λ f h.
            let t = sym (rw c.in_use.ensures at c.touches_any.ensures) ∙ w.if-touches_any.true in
            rw (w.wires-is, w.parts-is, w.lost-is) (placing_lost (i.4 f h) _ _ (h _ _ fit c.alter-c.ensures) c.loop-h-test.true t),
      )
      | else-touches_any+in-Ok w ↦
          let n = insert_count _ i.2 w.insert_part-parts.ensures in (
            rw w.parts-is (omega (arith, i.0, n)),
            rw w.lost-is (omega (arith, i.1)),
            rw w.parts-is (holds_self w.insert_part-parts.ensures),
            rw w.parts-is (fits_more _ (c.requires.fits _ _ fit c.alter-c.ensures) i.3 w.insert_part-parts.ensures),
            λ f h.
                let t = sym (rw c.in_use.ensures at c.touches_any.ensures) ∙ w.if-touches_any.false in
                let s = subst (λ (r : Result Wires NoRoom). Splits (pads c.alter-c.result) c.loop-h.wires r) w.in-Ok.is w.split_at_pads.ensures in
                rw (w.wires-is, w.parts-is, w.lost-is) (placing_placed (i.4 f h) _ _ (h _ _ fit c.alter-c.ensures) c.loop-h-test.true t s w.insert_part-parts.ensures),
          )
    ]

pub returns : goal.returns
returns g c = λ f h.
    let e = placing_end (c.loop-h.invariant.4 f h) c.loop-h-test.false in
    answer_room _ e.0 e.1.0 (sym (length-map c.args.hits.now f)) e.1.1
