-- Each answer, by what was found of the numbers.
use Prim.Native.Nat.{ℕ}
use native.Mathlib.Omega.{arith}
use mathlib.Core.Bool.{Bool, true, false, ◌&&◌}
use mathlib.Core.Path.{◌≡◌, refl, sym, ap, subst, ◌∙◌}
use borrow.Author.Tests.{ne_eqb}
use lib.Dec.{T, eqb→eq}
use mathlib.Core.List.{List}
use lib.IntN.{ℤ}
use lib.Signed.{le_z}
use mir.Syntax.{w32}
use mir.Val.{SFits}
use Rattle.std.specs.Prelude.{Ok, Err}
use Rattle.refusal.specs.Numbers.{number_of}
use Rattle.refusal.specs.declared.Refusal.{Refusal}
use Rattle.refusal.proofs.Numbers.{refuses}
use Rattle.edge.specs.Coordinates.{ranged, size_of}
use Rattle.symbol.specs.Symbols.{known_symbol}
use Rattle.symbol.specs.Replies.{point_reply, wire_reply, pointer_reply, symbol_reply, component_reply}
use Rattle.symbol.proofs.Replies.{three, five}
use Rattle.label.specs.declared.Label.{Label}
use Rattle.label.specs.Labels.{held_label, held_answer}
use Rattle.asked.specs.Rows.{row_of, size_row}
use Rattle.asked.specs.Asked.{AskedWire, no_wire, asked_wire, AskedPart, no_part, asked_part, AskedPointer, no_pointer, asked_pointer}
use Rattle.asked.proofs.Handed.{bits}
use Rattle.asked.proofs.Ranges.{row_tells, size_tells, order_kept}

fails_r : (a : Bool) {b : Bool} → b ≡ false → (a && b) ≡ false
fails_r true e = e
fails_r false e = refl

fails_l : {a : Bool} (b : Bool) → a ≡ false → (a && b) ≡ false
fails_l b e = λ i. e i && b

passes : {a b : Bool} → a ≡ true → b ≡ true → (a && b) ≡ true
passes {b = b} e f = (λ i. e i && b) ∙ f

-- ---- a wire
module _ (v : Bool) (l s e : ℤ) where
  far_wire : (r : Refusal) → number_of r ≡ 1 → (ranged 6000 l && (ranged 6000 s && ranged 6000 e)) ≡ false → no_wire (number_of r) ≡ asked_wire v l s e
  unfolding asked_wire wire_reply
  far_wire r q t = ap no_wire q ∙ rw t

  pub far_line : (r : Refusal) → SFits w32 l → Err r ≡ row_of 6000 (bits l) → no_wire (number_of r) ≡ asked_wire v l s e
  far_line r f q = let t = row_tells f 6000 q in far_wire r t.1 (fails_l (ranged 6000 s && ranged 6000 e) t.0)

  pub far_start : (r : Refusal) → SFits w32 s → Err r ≡ row_of 6000 (bits s) → no_wire (number_of r) ≡ asked_wire v l s e
  far_start r f q = let t = row_tells f 6000 q in far_wire r t.1 (fails_r (ranged 6000 l) (fails_l (ranged 6000 e) t.0))

  pub far_end : (r : Refusal) → SFits w32 e → Err r ≡ row_of 6000 (bits e) → no_wire (number_of r) ≡ asked_wire v l s e
  far_end r f q = let t = row_tells f 6000 q in far_wire r t.1 (fails_r (ranged 6000 l) (fails_r (ranged 6000 s) t.0))

  module _ (f : SFits w32 l) (g : SFits w32 s) (h : SFits w32 e) {a b c : ℕ} (p : Ok a ≡ row_of 6000 (bits l)) (q : Ok b ≡ row_of 6000 (bits s)) (r : Ok c ≡ row_of 6000 (bits e)) where
    near : (ranged 6000 l && (ranged 6000 s && ranged 6000 e)) ≡ true
    near = passes (row_tells f 6000 p).0 (passes (row_tells g 6000 q).0 (row_tells h 6000 r).0)

    pub backward : le_z (bits s) (bits e) ≡ false → no_wire 2 ≡ asked_wire v l s e
    unfolding asked_wire wire_reply
    backward t = rw (near, order_kept s e g h t)

    pub wire_right : le_z (bits s) (bits e) ≡ true → ◌≡◌ {A = AskedWire} (record { reply = 0; wire = record { vertical = v; line = a; start = b; end = c } }) (asked_wire v l s e)
    unfolding asked_wire wire_reply
    wire_right t =
        rw (near, order_kept s e g h t) (λ i. record { reply = 0; wire = record { vertical = v; line = (row_tells f 6000 p).1 i; start = (row_tells g 6000 q).1 i; end = (row_tells h 6000 r).1 i } })

-- ---- a component
module _ (k o : ℕ) (x y : ℤ) (l : Label) where
  pub unknown_part : known_symbol k o ≡ false → no_part 4 ≡ asked_part k o x y l
  unfolding asked_part component_reply symbol_reply
  unknown_part t = rw t

  module _ (w : known_symbol k o ≡ true) where
    far_part : (r : Refusal) → number_of r ≡ 1 → (ranged 5800 x && ranged 5800 y) ≡ false → no_part (number_of r) ≡ asked_part k o x y l
    unfolding asked_part component_reply symbol_reply
    far_part r q t = ap no_part q ∙ rw (w, t)

    pub far_x : (r : Refusal) → SFits w32 x → Err r ≡ row_of 5800 (bits x) → no_part (number_of r) ≡ asked_part k o x y l
    far_x r f q = let t = row_tells f 5800 q in far_part r t.1 (fails_l (ranged 5800 y) t.0)

    pub far_y : (r : Refusal) → SFits w32 y → Err r ≡ row_of 5800 (bits y) → no_part (number_of r) ≡ asked_part k o x y l
    far_y r f q = let t = row_tells f 5800 q in far_part r t.1 (fails_r (ranged 5800 x) t.0)

    module _ (f : SFits w32 x) (g : SFits w32 y) {a b : ℕ} (p : Ok a ≡ row_of 5800 (bits x)) (q : Ok b ≡ row_of 5800 (bits y)) where
      placed : (ranged 5800 x && ranged 5800 y) ≡ true
      placed = passes (row_tells f 5800 p).0 (row_tells g 5800 q).0

      pub mislabelled : (r : Refusal) → held_answer (Err r) ≡ held_label l → no_part (number_of r) ≡ asked_part k o x y l
      unfolding asked_part component_reply symbol_reply
      mislabelled r h =
          let e : number_of r ≡ (held_label l).reply = ap (λ a. a.reply) h in
          let z = refuses r in
          let t : (held_label l).reply ≡ 5 = five l (ne_eqb (held_label l).reply 0 (λ u. omega (arith, z, e, u))) in
          ap no_part (e ∙ t) ∙ rw (w, placed, t)

      pub part_right : {bs : List ℕ} → held_answer (Ok bs) ≡ held_label l → ◌≡◌ {A = AskedPart} (record { reply = 0; part = record { kind = k; orientation = o; x = a; y = b; label = bs } }) (asked_part k o x y l)
      unfolding asked_part component_reply symbol_reply
      part_right h =
          let t : (held_label l).reply ≡ 0 = sym (ap (λ a. a.reply) h) in
          rw (w, placed, t) (λ i. record { reply = 0; part = record { kind = k; orientation = o; x = (row_tells f 5800 p).1 i; y = (row_tells g 5800 q).1 i; label = (h i).bytes } })

-- ---- a pointer
module _ (x y n : ℤ) where
  far_pointer : (r : Refusal) → number_of r ≡ 1 → (ranged 6000 x && ranged 6000 y) ≡ false → no_pointer (number_of r) ≡ asked_pointer x y n
  unfolding asked_pointer pointer_reply point_reply
  far_pointer r q t = ap no_pointer q ∙ rw t

  pub far_pointer_x : (r : Refusal) → SFits w32 x → Err r ≡ row_of 6000 (bits x) → no_pointer (number_of r) ≡ asked_pointer x y n
  far_pointer_x r f q = let t = row_tells f 6000 q in far_pointer r t.1 (fails_l (ranged 6000 y) t.0)

  pub far_pointer_y : (r : Refusal) → SFits w32 y → Err r ≡ row_of 6000 (bits y) → no_pointer (number_of r) ≡ asked_pointer x y n
  far_pointer_y r f q = let t = row_tells f 6000 q in far_pointer r t.1 (fails_r (ranged 6000 x) t.0)

  module _ (f : SFits w32 x) (g : SFits w32 y) {a b : ℕ} (p : Ok a ≡ row_of 6000 (bits x)) (q : Ok b ≡ row_of 6000 (bits y)) where
    in_reach : (ranged 6000 x && ranged 6000 y) ≡ true
    in_reach = passes (row_tells f 6000 p).0 (row_tells g 6000 q).0

    pub sizeless : (r : Refusal) → SFits w32 n → Err r ≡ size_row (bits n) → no_pointer (number_of r) ≡ asked_pointer x y n
    unfolding asked_pointer pointer_reply point_reply
    sizeless r h e = let t = size_tells h e in let u : (size_of n).reply ≡ 3 = three n t.0 in ap no_pointer t.1 ∙ rw (in_reach, u)

    pub pointer_right : {m : ℕ} → SFits w32 n → Ok m ≡ size_row (bits n) → ◌≡◌ {A = AskedPointer} (record { reply = 0; point = record { x = a; y = b }; size = m }) (asked_pointer x y n)
    unfolding asked_pointer pointer_reply point_reply
    pointer_right h e =
        let t = size_tells h e in
        let u : (size_of n).reply ≡ 0 = eqb→eq (size_of n).reply 0 (subst T (sym t.0) tt) in
        rw (in_reach, u) (λ i. record { reply = 0; point = record { x = (row_tells f 6000 p).1 i; y = (row_tells g 6000 q).1 i }; size = t.1 i })
