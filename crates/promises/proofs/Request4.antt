-- P4 holds: of a placing here, where 6 comes before 7 and tells the first row touched; of the other edits in `Rooms`.
use Prim.Native.Nat.{ℕ}
use native.Mathlib.Omega.{arith}
use mathlib.Core.Bool.{true, false}
use mathlib.Core.List.{List}
use mathlib.Core.Path.{◌≡◌, refl, subst}
use lib.Dec.{T}
use lib.IntN.{ℤ}
use Rattle.lists.specs.Lists.{◌∈◌}
use Rattle.std.specs.List.{list_any}
use Rattle.lists.specs.First.{FirstAt, first_row}
use Rattle.lists.proofs.Tests.{passes}
use Rattle.lists.proofs.First.{first_row_lem, first_in}
use Rattle.label.specs.declared.Label.{Label}
use Rattle.symbol.specs.Replies.{component_reply}
use Rattle.symbol.proofs.Replies.{component_small}
use Rattle.sheet.specs.declared.Component.{Component}
use Rattle.sheet.specs.declared.Drawing.{Drawing}
use Rattle.sheet.specs.declared.Tally.{Tally}
use Rattle.sheet.specs.Parts.{touches}
use Rattle.sheet.specs.Drawings.{Sized, lists_of}
use Rattle.sheet.specs.Rules.{Lawful}
use Rattle.sheet.specs.Edits.{Outcome, place_one}
use Rattle.sheet.proofs.Parts.{touches_reads}
use Rattle.sheet.proofs.Edits.{touched_reads}
use Rattle.rules.specs.Verdict.{Touch}
use Rattle.asked.specs.Asked.{component_at}
use Rattle.edits.specs.Making.{quiet}
use Rattle.redraw.specs.declared.Edited.{Edited}
use Rattle.redraw.specs.Calls.{refused, refused_touching, edited, add_component}
use Rattle.redraw.proofs.Asking.{Decides, decides}
use Rattle.redraw.proofs.Laws.{by_reply, by_room, by_touch}
use Rattle.schematic.specs.Calls.{checked}
use Rattle.schematic.proofs.Checking.{by_check}
use Rattle.promises.specs.Request4.{WhichRoom, WhichNeighbour, Request4}
use Rattle.promises.proofs.Rooms.{free_room, refused_room, wire_told, turn_told, mirror_told, delete_told}

module _ {d : Drawing} (z : Sized d) (t : Tally) (k o : ℕ) (x y : ℤ) (b : Label) where
  abbrev c : Component
  c = component_at k o x y b

  abbrev cs : List Component
  cs = (lists_of d).parts

  abbrev n : ℕ
  n = component_reply k o x y b

  abbrev placed : Outcome
  placed = quiet (place_one c (lists_of d))

  abbrev call : Edited
  call = add_component d k o x y b t

  decided : Decides d t n (refused_touching c d t (edited d t placed)) call
  unfolding add_component
  decided = decides n (refused_touching c d t (edited d t placed))

  abbrev Free : Type 0
  Free = (a : Component) → a ∈ cs → Touch c a → ⊥

  first_touched : list_any (touches c) cs ≡ true → FirstAt (Touch c) cs (first_row (touches c) cs)
  first_touched e = first_row_lem (touches c) (touches_reads c) cs e

  untouched : list_any (touches c) cs ≡ false → Free
  untouched e a m h = subst T e (passes (touched_reads c cs) (a, m, h))

  place_room : WhichRoom (Lawful d × ((n ≡ 0) × Free)) (place_one c (lists_of d)) (checked d t call)
  place_room =
      let P = WhichRoom (Lawful d × ((n ≡ 0) × Free)) (place_one c (lists_of d)) in
      by_check P d t call z (λ f. refused_room d t (λ e. omega arith) (λ e. omega arith) (λ q. f q.0)) (λ l.
      by_reply P decided (λ f. let small = component_small k o x y b in refused_room d t (λ e. omega arith) (λ e. omega arith) (λ q. f q.1.0)) (λ r.
      by_touch P d t c (λ e. refused_room d t (λ g. omega arith) (λ g. omega arith) (λ q. first_in (first_touched e) q.1.1)) (λ e. free_room d t placed (l, (r, untouched e)))))

  place_row : WhichNeighbour d c (checked d t call)
  place_row =
      by_check (WhichNeighbour d c) d t call z (λ f. none (λ e. omega arith)) (λ l.
      by_reply (WhichNeighbour d c) decided (λ f. let small = component_small k o x y b in none (λ e. omega arith)) (λ r.
      by_touch (WhichNeighbour d c) d t c (λ e. record { six = λ g. first_touched e; other = λ g. absurd (g refl) }) (λ e.
      by_room (WhichNeighbour d c) placed (λ p. none (λ e. omega arith)) (λ p w. none (λ e. omega arith)) (λ r. record { six = λ e. absurd (omega arith); other = λ g. refl }))))
    where
      none : {m : ℕ} → (m ≡ 6 → ⊥) → WhichNeighbour d c (refused m d t)
      none f = record { six = λ e. absurd (f e); other = λ g. refl }

pub request_4 : Request4
request_4 = record {
  wire = λ d z t. wire_told z t;
  place = λ d z t k o x y b. (place_room z t k o x y b, place_row z t k o x y b);
  turn = λ d z t. turn_told z t;
  mirror = λ d z t. mirror_told z t;
  delete = λ d z t. delete_told z t;
}
