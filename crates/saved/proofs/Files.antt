-- A lawful drawing's file is read back, and cut short it has a byte due; what is accepted is the file of a lawful drawing.
use mathlib.Core.Path.{◌≡◌, refl, sym, ap, subst, ◌∙◌}
use mathlib.Core.Bool.{Bool, true, false}
use mathlib.Core.Logic.{⊎_elim}
use mathlib.Core.List.Memᴰ.{append_cases as ∈-append}
use mathlib.Core.List.{List, [], ◌∷◌, ◌++◌, append-nil}
use Prim.Native.Nat.{ℕ, ◌-◌, ◌<◌}
use native.Mathlib.Omega.{arith}
use lib.Dec.{eqb→eq}
use lib.ListN.{length, take, replicate}
use borrow.Author.Tests.{eq-eqb}
use Rattle.lists.specs.Lists.{◌∈◌}
use Rattle.lists.specs.Tables.{pad}
use Rattle.lists.proofs.Lists.{keep_in}
use Rattle.lists.proofs.Finding.{in_take}
use Rattle.lists.proofs.Tables.{length_pad, zeros_only}
use Rattle.lists.proofs.Tests.{test}
use Rattle.sheet.specs.declared.Wire.{Wire}
use Rattle.sheet.specs.declared.Component.{Component}
use Rattle.sheet.specs.declared.Drawing.{Drawing}
use Rattle.sheet.specs.Wiring.{Fits}
use Rattle.sheet.specs.Drawings.{Sheet, Sized, empty_sheet, lists_of, drawn, zero_wire, zero_component, zero_joint, joints}
use Rattle.sheet.specs.Rules.{Lawful}
use Rattle.sheet.proofs.Totals.{joint_room}
use Rattle.sheet.proofs.Rules.{lawful_room, lawful_drawn, drawn_lists}
use Rattle.rules.specs.Check.{check_of, lawful}
use Rattle.rules.proofs.Check.{check_lawful}
use Rattle.groups.specs.Taken.{Taken, took, then}
use Rattle.groups.specs.Groups.{Bytes}
use Rattle.groups.proofs.Told.{Told, told, not, Refusal, ends, faulty, longer, told_then, told_if}
use Rattle.saved.specs.declared.Opened.{Opened}
use Rattle.saved.specs.File.{directed, file_of}
use Rattle.saved.specs.Reading.{take_drawing, at_end, take_file, opened, read_file}
use Rattle.saved.proofs.Rows.{WireIn}
use Rattle.saved.proofs.Parts.{PartIn}
use Rattle.saved.proofs.Sheets.{SheetIn, by_direction, levels_first, sheet_back, sheet_cut, sheet_only}

-- ---- a lawful drawing can be written and read back

wire_in : (v : Bool) (w : Wire) → w.vertical ≡ v → Fits w → WireIn v w
wire_in v w e f = record { dir = e; line = f.line; start = omega (arith, f.long, f.end); end = f.end }

module _ {d : Drawing} (l : Lawful d) (z : Sized d) where
  wires_in : (v : Bool) (w : Wire) → w ∈ directed v (lists_of d).wires → WireIn v w
  wires_in v w m = let k = keep_in (by_direction v) (lists_of d).wires m in wire_in v w k.1 (l.rule1.wires_fit w k.0)

  pub lawful_in : SheetIn (lists_of d)
  lawful_in = record {
    wires = (lawful_room l).wires;
    parts = (lawful_room l).parts;
    order = levels_first l.rule7.wires_rise;
    levels = wires_in false;
    uprights = wires_in true;
    each = λ c m. record { fits = l.rule1.components_fit c m; size = z.labels c (in_take d.components.count d.components.rows m) };
  }

  passes : lawful (drawn (lists_of d)) ≡ true
  passes = ap lawful (sym (lawful_drawn l z)) ∙ eq-eqb (check_of d).rule 0 ((check_lawful d z).1 l)

  -- at the front of any bytes
  pub drawing_back : (rest : List ℕ) → take_drawing (file_of (lists_of d) ++ rest) ≡ took d rest
  unfolding take_drawing then
  drawing_back rest = rw (sheet_back (lists_of d) rest lawful_in, passes) (ap (λ e. took e rest) (sym (lawful_drawn l z)))

  -- "reading what was written gives it back"
  pub file_back : read_file (file_of (lists_of d)) ≡ record { reply = 0; drawing = d }
  unfolding read_file take_file then
  file_back = rw (ap take_drawing (sym (append-nil (file_of (lists_of d)))) ∙ drawing_back []) refl

  -- "12, the file ends with a byte still due"
  pub file_cut : (k : ℕ) → k < length (file_of (lists_of d)) → read_file (take k (file_of (lists_of d))) ≡ record { reply = 12; drawing = drawn empty_sheet }
  unfolding read_file take_file take_drawing then
  file_cut k h = rw (sheet_cut (lists_of d) lawful_in k h) refl

-- ---- what is accepted

-- the drawing of a sheet that fits has its declared lengths
padded_labels : (cs : List Component) (k : ℕ) → ((c : Component) → c ∈ cs → PartIn c) → (c : Component) → c ∈ cs ++ replicate k zero_component → length c.label ≡ 16
padded_labels cs k h c m = ⊎_elim (λ (i : c ∈ cs). (h c i).size) (λ (i : c ∈ replicate k zero_component). ap (λ (b : Component). length b.label) (zeros_only zero_component k i)) (∈-append cs m)

pub drawn_sized : (s : Sheet) → SheetIn s → Sized (drawn s)
unfolding drawn pad
drawn_sized s h = record {
  wires = length_pad 512 zero_wire s.wires h.wires;
  components = length_pad 128 zero_component s.parts h.parts;
  joints = length_pad 1408 zero_joint (joints s) (joint_room (record { wires = h.wires; parts = h.parts }));
  labels = padded_labels s.parts (128 - length s.parts) h.each;
}

-- the drawing of a sheet was read: its file stands in front, and it is lawful
record Drawn (s : List ℕ) (d : Drawing) (rest : List ℕ) : Type 0 where
  is : s ≡ file_of (lists_of d) ++ rest
  right : Lawful d

drawing_only : (s : List ℕ) → Bytes s → Told (Drawn s) (take_drawing s)
unfolding take_drawing
drawing_only s h = told_then (sheet_only s h) (λ t rest o. told_if (drawn t) rest (test (lawful (drawn t))) (λ p. record {
  is = o.is ∙ ap (λ u. file_of u ++ rest) (sym (drawn_lists t));
  right = (check_lawful (drawn t) (drawn_sized t o.ok)).0 (eqb→eq (check_of (drawn t)).rule 0 p);
}))

-- what a reply tells
pub data Answered (s : List ℕ) : Opened → Type 0 where
  accepted : (d : Drawing) → s ≡ file_of (lists_of d) → Lawful d → Answered s (record { reply = 0; drawing = d })
  refusal : {r : ℕ} → Refusal r → Answered s (record { reply = r; drawing = drawn empty_sheet })

-- each answer is 0 with a lawful drawing whose file was read, or 12, 13 or 14 with the empty drawing
pub answered : (s : List ℕ) → Bytes s → Answered s (read_file s)
unfolding read_file take_file then
answered s h = go (drawing_only s h)
  where
    end : (d : Drawing) (rest : List ℕ) → Drawn s d rest → Answered s (opened (at_end d rest))
    end d [] o = accepted d (o.is ∙ append-nil (file_of (lists_of d))) o.right
    end d (x ∷ rest) o = refusal longer

    go : {t : Taken Drawing} → Told (Drawn s) t → Answered s (opened (then t at_end))
    go (told {a = d} {s = rest} o) = end d rest o
    go (not r) = refusal r

same_file : {s : List ℕ} {o : Opened} → Answered s o → o.reply ≡ 0 → (file_of (lists_of o.drawing) ≡ s) × Lawful o.drawing
same_file (accepted d e l) z = (sym e, l)
same_file (refusal ends) z = absurd (omega arith)
same_file (refusal faulty) z = absurd (omega arith)
same_file (refusal longer) z = absurd (omega arith)

-- "whatever is read and accepted writes the same bytes"
pub file_same : (s : List ℕ) → Bytes s → (read_file s).reply ≡ 0 → (file_of (lists_of (read_file s).drawing) ≡ s) × Lawful (read_file s).drawing
file_same s h z = same_file (answered s h) z

-- what an answer 0 hands back is lawful
pub lawful_opened : (s : List ℕ) → Bytes s → {o : Opened} → o ≡ read_file s → o.reply ≡ 0 → Lawful o.drawing
lawful_opened s h e z = subst (λ (o : Opened). Lawful o.drawing) (sym e) (file_same s h (sym (ap (λ (o : Opened). o.reply) e) ∙ z)).1
