-- Rows counted: what each operation leaves, and the operations by number.
use Prim.Native.Nat.{ℕ, ◌≤◌, ◌<◌, ◌%◌}
use native.Mathlib.Omega.{arith}
use mathlib.Core.Bool.{Bool, false, cond, not}
use mathlib.Core.List.{List, []}
use mathlib.Core.Path.{◌≡◌, refl, sym, ap, ◌∙◌}
use borrow.Author.Tests.{lt-ltb, le-ltb, eq-eqb, ne_eqb}
use lib.IntN.{ℤ}
use lib.ListN.{length, get_or, length-take}
use Rattle.lists.specs.Tables.{pad, Holds}
use Rattle.lists.proofs.Tables.{length_pad, same_row}
use Rattle.lists.specs.Lists.{insert}
use Rattle.std.specs.List.{filter}
use Rattle.symbol.specs.declared.Point.{Point}
use Rattle.sheet.specs.declared.Wire.{Wire}
use Rattle.sheet.specs.declared.Component.{Component}
use Rattle.sheet.specs.Tables.{Wires}
use Rattle.sheet.specs.Tables.{Components}
use Rattle.sheet.specs.Tables.{Joints}
use Rattle.sheet.specs.declared.Drawing.{Drawing}
use Rattle.sheet.specs.Drawings.{lists_of, marks_of, wire_rows, component_rows, joints, joint_table}
use Rattle.sheet.specs.Edits.{meets_wire, meets_part}
use Rattle.sheet.specs.Joints.{joints_of}
use Rattle.sheet.specs.Geometry.{marks}
use Rattle.sheet.specs.Merge.{merge}
use Rattle.sheet.specs.Parts.{ahead, pads_of}
use Rattle.sheet.specs.Run.{lay_wire}
use Rattle.sheet.specs.Split.{split_at}
use Rattle.sheet.proofs.Totals.{joints_few}
use Rattle.wires.specs.Tables.{Tabled}
use Rattle.joints.specs.Tables.{sheet_of}
use Rattle.asked.specs.Asked.{AskedPointer}
use Rattle.asked.specs.Asked.{AskedWire}
use Rattle.std.specs.Prelude.{Result, Ok, Err}
use Rattle.std.specs.Result.{result_unwrap_or}
use Rattle.refusal.specs.declared.Refusal.{Refusal}
use Rattle.sheet.specs.Drawings.{zero_component}
use Rattle.net_numbers.specs.Netted.{net_numbers}
use Rattle.asked.specs.Asked.{asked_wire, part_told, asked_part, asked_pointer}
use Rattle.bench_calls.specs.Numbered.{label}
use Rattle.bench_calls.specs.Tables.{grown_rows, line_at, x_at, pointed_answer, laid_answer, inserted_answer, whole_answer, table_answer}

pub grown_rows_lem : {ws : List Wire} {t : Wires} → Tabled ws t → t.count ≡ grown_rows ws
unfolding grown_rows
grown_rows_lem {ws} h = h.count_is ∙ ap (λ (b : Bool). length (cond b [] ws)) (sym (le-ltb 512 (length ws) h.room))

pub no_rows_lem : (ws : List Wire) → 512 < length ws → 0 ≡ grown_rows ws
unfolding grown_rows
no_rows_lem ws h = ap (λ (b : Bool). length (cond b [] ws)) (sym (lt-ltb 512 (length ws) h))

-- ---- rows

-- a row of a table is that row of its list, with zeros behind
module _ {A : Type 0} {n : ℕ} {z : A} {xs rows : List A} {count : ℕ} (h : Holds n z xs rows count) where
  pub long_rows : length rows ≡ n
  long_rows = ap length h.rows_are ∙ length_pad n z xs h.room

  pub row_is : (f : A → ℕ) (i : ℕ) (d : A) → i < n → f (get_or rows i d) ≡ f (get_or (pad n z xs) i z)
  row_is f i d l = ap f (same_row rows i d z (omega (arith, l, long_rows)) ∙ ap (λ (r : List A). get_or r i z) h.rows_are)

-- ---- joints

module _ (ws : Wires) (cs : Components) {ps : List Point} {js : Joints} (q : js ≡ joint_table (joints_of (marks (wire_rows ws) ps))) (e : ps ≡ pads_of (component_rows cs)) where
  pub joint_count : js.count ≡ length (joints_of (marks (wire_rows ws) (pads_of (component_rows cs))))
  joint_count = ap (λ (t : Joints). t.count) q ∙ ap (λ (l : List Point). length (joints_of (marks (wire_rows ws) l))) e

  pub joints_fit : ws.count ≤ 512 → cs.count ≤ 128 → js.count ≤ 1408
  unfolding joints
  joints_fit h k = omega (arith, joint_count, joints_few (sheet_of ws cs), length-take ws.count ws.rows, length-take cs.count cs.rows)

-- ---- about a pointer

module _ (call : ℕ) (x y z : ℤ) (d : Drawing) {a : AskedPointer} (q : a ≡ asked_pointer x y z) where
  same_reply : a.reply ≡ (asked_pointer x y z).reply
  same_reply = ap (λ (b : AskedPointer). b.reply) q

  pub pointed_refused : (a.reply ≡ 0 → ⊥) → 0 ≡ pointed_answer call x y z d
  unfolding pointed_answer
  pointed_refused f = rw (ne_eqb (asked_pointer x y z).reply 0 (λ h. f (same_reply ∙ h))) refl

  module _ (h : a.reply ≡ 0) where
    pub pointed_split : call ≡ 8 → grown_rows (split_at a.point (lists_of d).wires) ≡ pointed_answer call x y z d
    unfolding pointed_answer
    pointed_split e =
        ap (λ (b : AskedPointer). grown_rows (split_at b.point (lists_of d).wires)) q
        ∙ rw (eq-eqb (asked_pointer x y z).reply 0 (sym same_reply ∙ h), eq-eqb call 8 e) refl

    pub pointed_wires : (call ≡ 8 → ⊥) → call ≡ 9 → line_at (a.size % 512) (filter (λ w. not (meets_wire a.point a.size w)) (lists_of d).wires) ≡ pointed_answer call x y z d
    unfolding pointed_answer
    pointed_wires f e =
        ap (λ (b : AskedPointer). line_at (b.size % 512) (filter (λ w. not (meets_wire b.point b.size w)) (lists_of d).wires)) q
        ∙ rw (eq-eqb (asked_pointer x y z).reply 0 (sym same_reply ∙ h), ne_eqb call 8 f, eq-eqb call 9 e) refl

    pub pointed_parts : (call ≡ 8 → ⊥) → (call ≡ 9 → ⊥) → x_at (a.size % 128) (filter (λ c. not (meets_part a.point a.size c)) (lists_of d).parts) ≡ pointed_answer call x y z d
    unfolding pointed_answer
    pointed_parts f g =
        ap (λ (b : AskedPointer). x_at (b.size % 128) (filter (λ c. not (meets_part b.point b.size c)) (lists_of d).parts)) q
        ∙ rw (eq-eqb (asked_pointer x y z).reply 0 (sym same_reply ∙ h), ne_eqb call 8 f, ne_eqb call 9 g) refl

-- ---- a wire laid, a component put in

module _ (x y z : ℤ) (d : Drawing) {a : AskedWire} (q : a ≡ asked_wire false x y z) where
  wire_reply : a.reply ≡ (asked_wire false x y z).reply
  wire_reply = ap (λ (b : AskedWire). b.reply) q

  pub laid_refused : (a.reply ≡ 0 → ⊥) → 0 ≡ laid_answer x y z d
  unfolding laid_answer
  laid_refused f = rw (ne_eqb (asked_wire false x y z).reply 0 (λ h. f (wire_reply ∙ h))) refl

  pub laid_rows : a.reply ≡ 0 → grown_rows (lay_wire a.wire (lists_of d).wires (pads_of (lists_of d).parts)) ≡ laid_answer x y z d
  unfolding laid_answer
  laid_rows h =
      ap (λ (b : AskedWire). grown_rows (lay_wire b.wire (lists_of d).wires (pads_of (lists_of d).parts))) q
      ∙ rw (eq-eqb (asked_wire false x y z).reply 0 (sym wire_reply ∙ h)) refl

-- the row that is asked for, or zeros
pub row_told : (r : Result Component Refusal) → result_unwrap_or r zero_component ≡ (part_told r).part
row_told (Ok c) = refl
row_told (Err r) = refl

module _ (x y : ℤ) (d : Drawing) where
  pub inserted_full : 128 ≤ d.components.count → 0 ≡ inserted_answer x y d
  unfolding inserted_answer
  inserted_full h = rw (le-ltb d.components.count 128 h) refl

  pub inserted_row : {c : Component} → c ≡ (asked_part 1 0 x y label).part → d.components.count < 128 → x_at (c.x % 128) (insert ahead c (lists_of d).parts) ≡ inserted_answer x y d
  unfolding inserted_answer
  inserted_row e h = ap (λ (c : Component). x_at (c.x % 128) (insert ahead c (lists_of d).parts)) e ∙ rw (lt-ltb d.components.count 128 h) refl

-- ---- the whole drawing

module _ (call : ℕ) (d : Drawing) where
  pub whole_merged : call ≡ 13 → length (merge (lists_of d).wires (pads_of (lists_of d).parts)) ≡ whole_answer call d
  unfolding whole_answer
  whole_merged e = rw (eq-eqb call 13 e) refl

  pub whole_joints : (call ≡ 13 → ⊥) → call ≡ 14 → length (joints_of (marks_of (lists_of d))) ≡ whole_answer call d
  unfolding whole_answer
  whole_joints f e = rw (ne_eqb call 13 f, eq-eqb call 14 e) refl

  pub whole_pads : (call ≡ 13 → ⊥) → (call ≡ 14 → ⊥) → call ≡ 15 → length (pads_of (lists_of d).parts) ≡ whole_answer call d
  unfolding whole_answer
  whole_pads f g e = rw (ne_eqb call 13 f, ne_eqb call 14 g, eq-eqb call 15 e) refl

  pub whole_nets : (call ≡ 13 → ⊥) → (call ≡ 14 → ⊥) → (call ≡ 15 → ⊥) → get_or (pad 384 0 (net_numbers (lists_of d))) 383 0 ≡ whole_answer call d
  unfolding whole_answer
  whole_nets f g h = rw (ne_eqb call 13 f, ne_eqb call 14 g, ne_eqb call 15 h) refl

  -- ---- by the number

  module _ (x y z : ℤ) where
    pub by_pointer : call < 11 → pointed_answer call x y z d ≡ table_answer call x y z d
    unfolding table_answer
    by_pointer h = rw (lt-ltb call 11 h) refl

    pub by_laid : 11 ≤ call → call ≡ 11 → laid_answer x y z d ≡ table_answer call x y z d
    unfolding table_answer
    by_laid h e = rw (le-ltb call 11 h, eq-eqb call 11 e) refl

    pub by_inserted : 11 ≤ call → (call ≡ 11 → ⊥) → call ≡ 12 → inserted_answer x y d ≡ table_answer call x y z d
    unfolding table_answer
    by_inserted h f e = rw (le-ltb call 11 h, ne_eqb call 11 f, eq-eqb call 12 e) refl

    pub by_whole : 11 ≤ call → (call ≡ 11 → ⊥) → (call ≡ 12 → ⊥) → whole_answer call d ≡ table_answer call x y z d
    unfolding table_answer
    by_whole h f g = rw (le-ltb call 11 h, ne_eqb call 11 f, ne_eqb call 12 g) refl
