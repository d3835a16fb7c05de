-- The contacts hit and those left, the wires merged among these, and what is placed again.
use Rattle.std.proofs.Common.{ap, arith, sym, ◌∙◌, map, length}
use Rattle.lists.proofs.Tables.{holds_list}
use Rattle.joints.specs.Tables.{sheet_of}
use Rattle.edits.specs.Making.{made, placed_again}
use Rattle.edits.proofs.Steps.{few_of, fits_of, turned_sound, turned_room, turned_is}
use Rattle.edits.proofs.turn.turn.Goals as goal

pub settled-wires-requires : goal.settled-wires-requires
settled-wires-requires g c =
    let s = c.requires.sound.0 in
    (few_of s.wires c.in_use-3.ensures, (fits_of _ s.fits.each (rw c.in_use-2.ensures at c.keep_unhit-parts.ensures) c.in_use-4.ensures, few_of c.keep_unhit-parts.ensures c.in_use-4.ensures))

pub place_all-requires-clause-sound : goal.place_all-requires-clause-sound
place_all-requires-clause-sound g c =
    let s = c.requires.sound.0 in
    let a = rw c.in_use.ensures at c.hit_contacts-hits.ensures in
    let b = rw c.in_use-2.ensures at c.keep_unhit-parts.ensures in
    let m = rw (c.in_use-3.ensures, c.in_use-4.ensures) at c.settled-wires.ensures in
    (turned_sound c.args.p c.args.size s a b m, (fits_of _ s.fits.each a c.in_use-5.ensures, omega (arith, turned_room c.args.p c.args.size s a b m, ap length (c.in_use-5.ensures ∙ holds_list a), a.count_is)))

pub returns : goal.returns
returns g c = λ f h.
    let s = c.requires.sound.0 in
    let a = rw c.in_use.ensures at c.hit_contacts-hits.ensures in
    let b = rw c.in_use-2.ensures at c.keep_unhit-parts.ensures in
    let m = rw (c.in_use-3.ensures, c.in_use-4.ensures) at c.settled-wires.ensures in
    c.place_all.ensures f h ∙ ap made (ap (λ hs. placed_again (map f hs) (sheet_of c.settled-wires.result c.keep_unhit-parts.result)) c.in_use-5.ensures ∙ turned_is c.args.p c.args.size s a b m f)
