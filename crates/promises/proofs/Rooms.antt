-- P4 of the edits that bring no component: the replies before 7 are no more than 5, the room decides behind them, and no row is told.
use Prim.Native.Nat.{ℕ, ◌≤◌}
use native.Mathlib.Omega.{arith}
use mathlib.Core.Bool.{Bool}
use mathlib.Core.Path.{◌≡◌, refl}
use lib.IntN.{ℤ}
use lib.ListN.{length}
use Rattle.edge.specs.Coordinates.{to_ℕ}
use Rattle.symbol.specs.declared.Point.{Point}
use Rattle.symbol.specs.Replies.{wire_reply, pointer_reply}
use Rattle.symbol.proofs.Replies.{wire_small, pointer_small}
use Rattle.sheet.specs.declared.Drawing.{Drawing}
use Rattle.sheet.specs.declared.Tally.{Tally}
use Rattle.sheet.specs.Parts.{turned_right, mirrored}
use Rattle.sheet.specs.Drawings.{Sheet, Sized, lists_of}
use Rattle.sheet.specs.Rules.{Lawful}
use Rattle.sheet.specs.Edits.{Outcome, wire, delete, hits, turn_right, mirror}
use Rattle.sheet.proofs.Rules.{lawful_room}
use Rattle.sheet.proofs.Turn.{turn_count}
use Rattle.asked.specs.Asked.{wire_at, point_at}
use Rattle.edits.specs.Making.{quiet}
use Rattle.redraw.specs.declared.Edited.{Edited}
use Rattle.redraw.specs.Calls.{refused_at, edited, add_wire, pointed, delete_at, rotate_at, mirror_at}
use Rattle.redraw.proofs.Asking.{Decides, decides}
use Rattle.redraw.proofs.Laws.{by_reply, by_room}
use Rattle.redraw.proofs.Idle.{delete_room}
use Rattle.schematic.specs.Calls.{checked}
use Rattle.schematic.proofs.Checking.{by_check}
use Rattle.promises.specs.Request4.{WhichRoom, NoNewcomer, WireTold, TurnTold, DeleteTold}

module _ (d : Drawing) (t : Tally) {F : Type 0} where
  -- the room decides an edit that nothing before it refuses
  pub free_room : (o : Outcome) → F → WhichRoom F o.sheet (edited d t o)
  free_room o f = by_room (WhichRoom F o.sheet) o
      (λ p. record { seven = (λ e. (f, p), λ q. refl); eleven = (λ e. absurd (omega arith), λ q. absurd (omega (arith, q.1.0))) })
      (λ p w. record { seven = (λ e. absurd (omega arith), λ q. absurd (omega (arith, q.1))); eleven = (λ e. (f, (p, w)), λ q. refl) })
      (λ r. record { seven = (λ e. absurd (omega arith), λ q. absurd (omega (arith, r.parts, q.1))); eleven = (λ e. absurd (omega arith), λ q. absurd (omega (arith, r.wires, q.1.1))) })

  -- and it does not, where something does
  pub refused_room : {s : Sheet} {row n : ℕ} → (n ≡ 7 → ⊥) → (n ≡ 11 → ⊥) → (F → ⊥) → WhichRoom F s (refused_at row n d t)
  refused_room a b f = record { seven = (λ e. absurd (a e), λ q. absurd (f q.0)); eleven = (λ e. absurd (b e), λ q. absurd (f q.0)) }

module _ {d : Drawing} (z : Sized d) (t : Tally) where
  -- n is the reply to what is asked
  module _ {n : ℕ} (small : n ≤ 5) (o : Outcome) {call : Edited} (D : Decides d t n (edited d t o) call) where
    room_told : WhichRoom (Lawful d × (n ≡ 0)) o.sheet (checked d t call)
    room_told = by_check (WhichRoom (Lawful d × (n ≡ 0)) o.sheet) d t call z (λ f. refused_room d t (λ e. omega arith) (λ e. omega arith) (λ q. f q.0))
        (λ l. by_reply (WhichRoom (Lawful d × (n ≡ 0)) o.sheet) D (λ f. refused_room d t (λ e. omega arith) (λ e. omega arith) (λ q. f q.1)) (λ k. free_room d t o (l, k)))

    no_row : (checked d t call).row ≡ 0
    no_row = by_check (λ r. r.row ≡ 0) d t call z (λ f. refl) (λ l. by_reply (λ r. r.row ≡ 0) D (λ f. refl) (λ k. by_room (λ r. r.row ≡ 0) o (λ p. refl) (λ p w. refl) (λ r. refl)))

    no_newcomer : (Lawful d → length o.sheet.parts ≤ 128) → NoNewcomer (checked d t call)
    no_newcomer h = record { seven = λ e. let q = room_told.seven.0 e in let k = h q.0.0 in omega (arith, q.1); row = no_row }

  module _ (x y n : ℤ) (edit : Point → ℕ → Outcome) where
    pointer_decided : Decides d t (pointer_reply x y n) (edited d t (edit (point_at x y) (to_ℕ n))) (pointed d x y n t edit)
    unfolding pointed
    pointer_decided = decides (pointer_reply x y n) (edited d t (edit (point_at x y) (to_ℕ n)))

    pointed_told : WhichRoom (Lawful d × (pointer_reply x y n ≡ 0)) (edit (point_at x y) (to_ℕ n)).sheet (checked d t (pointed d x y n t edit))
    pointed_told = room_told (pointer_small x y n) (edit (point_at x y) (to_ℕ n)) pointer_decided

    pointed_alone : (Lawful d → length (edit (point_at x y) (to_ℕ n)).sheet.parts ≤ 128) → NoNewcomer (checked d t (pointed d x y n t edit))
    pointed_alone h = no_newcomer (pointer_small x y n) (edit (point_at x y) (to_ℕ n)) pointer_decided h

  turn_room : (p : Point) (n : ℕ) → Lawful d → length (turn_right p n (lists_of d)).sheet.parts ≤ 128
  unfolding turn_right
  turn_room p n l = omega (arith, turn_count (hits p n) turned_right (lists_of d), (lawful_room l).parts)

  mirror_room : (p : Point) (n : ℕ) → Lawful d → length (mirror p n (lists_of d)).sheet.parts ≤ 128
  unfolding mirror
  mirror_room p n l = omega (arith, turn_count (hits p n) mirrored (lists_of d), (lawful_room l).parts)

  pub turn_told : TurnTold d t rotate_at (λ p n. (turn_right p n (lists_of d)).sheet)
  unfolding rotate_at
  turn_told x y n = let edit : Point → ℕ → Outcome = λ p m. turn_right p m (lists_of d) in (pointed_told x y n edit, pointed_alone x y n edit (turn_room (point_at x y) (to_ℕ n)))

  pub mirror_told : TurnTold d t mirror_at (λ p n. (mirror p n (lists_of d)).sheet)
  unfolding mirror_at
  mirror_told x y n = let edit : Point → ℕ → Outcome = λ p m. mirror p m (lists_of d) in (pointed_told x y n edit, pointed_alone x y n edit (mirror_room (point_at x y) (to_ℕ n)))

  pub delete_told : DeleteTold d t
  unfolding delete_at
  delete_told x y n =
      let edit : Point → ℕ → Outcome = λ p m. quiet (delete p m (lists_of d)) in (
        pointed_alone x y n edit (λ l. (delete_room l t (point_at x y) (to_ℕ n)).parts),
        λ e.
            let q = (pointed_told x y n edit).eleven.0 e in
            omega (arith, q.1.1, (delete_room q.0.0 t (point_at x y) (to_ℕ n)).wires),
      )

  wire_decided : (v : Bool) (a s e : ℤ) → Decides d t (wire_reply a s e) (edited d t (quiet (wire (wire_at v a s e) (lists_of d)))) (add_wire d v a s e t)
  unfolding add_wire
  wire_decided v a s e = decides (wire_reply a s e) (edited d t (quiet (wire (wire_at v a s e) (lists_of d))))

  pub wire_told : WireTold d t
  unfolding wire
  wire_told v a s e =
      let o : Outcome = quiet (wire (wire_at v a s e) (lists_of d)) in
      (room_told (wire_small a s e) o (wire_decided v a s e), no_newcomer (wire_small a s e) o (wire_decided v a s e) (λ l. (lawful_room l).parts))
