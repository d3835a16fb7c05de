-- Wires from a joint to the next one of their line are clear; where each wire from row i on is, all are.
use Prim.Native.Nat.{ℕ, ◌+◌, ◌-◌, ◌≤◌, ◌<◌}
use native.Mathlib.Omega.{arith}
use mathlib.Core.Bool.{Bool, true, false}
use mathlib.Core.List.{List}
use mathlib.Core.Path.{◌≡◌, sym, ap, subst, ◌∙◌}
use mathlib.Core.Logic.{⊎_elim}
use lib.Dec.{T}
use lib.ListN.{length, get_or, take, drop, drop_of_length-le}
use lib.Seq.{take_all}
use Rattle.lists.specs.Lists.{◌∈◌}
use Rattle.lists.proofs.Tests.{holds, not_reads, and_reads, or_reads, eqb_reads, compare}
use Rattle.lists.proofs.Tables.{row_in}
use Rattle.lists.proofs.Pairing.{rows_left}
use Rattle.symbol.specs.declared.Point.{Point}
use Rattle.sheet.specs.declared.Wire.{Wire}
use Rattle.sheet.specs.declared.Joint.{Joint}
use Rattle.sheet.specs.Points.{Rise, lower, level}
use Rattle.sheet.specs.Geometry.{along, across, low, high, at, tip, Side, Inside, Follows}
use Rattle.sheet.specs.Joints.{joint_point, Rising}
use Rattle.sheet.specs.Drawings.{zero_joint, zero_wire}
use Rattle.sheet.proofs.Points.{same_reads, rise_self, rise_asym}
use Rattle.sheet.proofs.Geometry.{same_dir, along_point, across_point}
use Rattle.rules.proofs.Counted.{goes_on_reads}
use Rattle.lawful.specs.Looks.{Chained, Clear, Run, done, more, Runs, clears}
use Rattle.lists.proofs.Finding.{table_at, table_index}

-- ---- the test

-- what passing tells
record Passed (a w : Wire) (i j : Joint) : Type 0 where
  start : joint_point i ≡ tip low w
  end : joint_point j ≡ tip high w
  parted : Follows a w → i.count ≡ 2 → ⊥

passed : (a w : Wire) (i j : Joint) → clears a w i j ≡ true → Passed a w i j
unfolding clears
passed a w i j e =
    let t = holds (and_reads (and_reads (same_reads (joint_point i) (tip low w)) (same_reads (joint_point j) (tip high w))) (or_reads (not_reads (goes_on_reads a w)) (not_reads (eqb_reads i.count 2)))) (subst T (sym e) tt) in
    record { start = t.0.0; end = t.0.1; parted = λ f c. ⊎_elim (λ (n : Follows a w → ⊥). n f) (λ (n : i.count ≡ 2 → ⊥). n c) t.1 }

-- an end and an inner point by direction
end_line : {v : Bool} (s : Side) {p : Point} (w : Wire) → w.vertical ≡ v → p ≡ tip s w → (across v p ≡ w.line) × (along v p ≡ at s w)
end_line s {p} w d e =
    let t = same_dir d p in
    (sym t.1 ∙ ap (across w.vertical) e ∙ across_point w.vertical w.line (at s w), sym t.0 ∙ ap (along w.vertical) e ∙ along_point w.vertical w.line (at s w))

record Within (v : Bool) (p : Point) (w : Wire) : Type 0 where
  line : w.line ≡ across v p
  from : w.start < along v p
  to : along v p < w.end

inner_line : {v : Bool} (p : Point) (w : Wire) → w.vertical ≡ v → Inside p w → Within v p w
inner_line p w d i = let t = same_dir d p in record { line = i.line ∙ t.1; from = omega (arith, i.from, t.0); to = omega (arith, i.to, t.0) }

-- ---- a joint that rises above row k and below row r stands between them

record Between (l : List Joint) (n k r : ℕ) (j : Joint) : Type 0 where
  place_is : ℕ
  after : k < place_is
  before : place_is < r
  used : place_is < n
  row : get_or l place_is zero_joint ≡ j

module _ (l : List Joint) (n : ℕ) (rising : Rising (take n l)) (size : n ≤ length l) where
  between : (k r : ℕ) (j : Joint) → k < n → r < n → j ∈ take n l → Rise (joint_point (get_or l k zero_joint)) (joint_point j) → Rise (joint_point j) (joint_point (get_or l r zero_joint)) → Between l n k r j
  between k r j h g m a b =
      let t = table_index l n zero_joint m size in
      let a' = subst (λ (q : Joint). Rise (joint_point (get_or l k zero_joint)) (joint_point q)) (sym t.2) a in
      let b' = subst (λ (q : Joint). Rise (joint_point q) (joint_point (get_or l r zero_joint))) (sym t.2) b in
      record { place_is = t.0; after = above k t.0 h a'; before = above t.0 r t.1 b'; used = t.1; row = t.2 }
    where
      -- what rises stands behind
      above : (i s : ℕ) → i < n → Rise (joint_point (get_or l i zero_joint)) (joint_point (get_or l s zero_joint)) → i < s
      above i s u c = ⊎_elim
          (λ (x : i < s). x)
          (⊎_elim
          (λ (x : i ≡ s). absurd (rise_self (subst (λ (y : ℕ). Rise (joint_point (get_or l i zero_joint)) (joint_point (get_or l y zero_joint))) (sym x) c)))
          (λ (x : s < i). absurd (rise_asym c (table_at l n rising size s i zero_joint x u))))
          (compare i s)

  -- horizontal wires, from a row to the next
  level_clear : (a w : Wire) (k : ℕ) → clears a w (get_or l (k - 1) zero_joint) (get_or l k zero_joint) ≡ true → 1 ≤ k → k < n → w.vertical ≡ false → Clear (take n l) a w
  level_clear a w k t h g d =
      let p = passed a w (get_or l (k - 1) zero_joint) (get_or l k zero_joint) t in
      let i = end_line low w d p.start in
      let j = end_line high w d p.end in
      record {
        from = get_or l (k - 1) zero_joint;
        among = row_in l n (k - 1) zero_joint (omega arith) size;
        start = p.start;
        free = λ q m z. let u = inner_line (joint_point q) w d z in
            let b = between (k - 1) k q (omega arith) g m (level (omega (arith, i.0, u.line)) (omega (arith, i.1, u.from))) (level (omega (arith, j.0, u.line)) (omega (arith, j.1, u.to))) in
            omega (arith, b.after, b.before);
        parted = p.parted;
      }

  -- vertical wires, from a row to the next of its column
  upright_clear : (a w : Wire) (k r : ℕ) {next : List ℕ} → Chained l n next → r ≡ get_or next k 0 → clears a w (get_or l k zero_joint) (get_or l r zero_joint) ≡ true → k < n → r < n → w.vertical ≡ true → Clear (take n l) a w
  upright_clear a w k r {next} c e t h g d =
      let p = passed a w (get_or l k zero_joint) (get_or l r zero_joint) t in
      let i = end_line low w d p.start in
      let j = end_line high w d p.end in
      record {
        from = get_or l k zero_joint;
        among = row_in l n k zero_joint h size;
        start = p.start;
        free = λ q m z. let u = inner_line (joint_point q) w d z in
            let b = between k r q h g m (lower (omega (arith, i.1, u.from))) (lower (omega (arith, j.1, u.to))) in
            c.none k b.place_is b.after b.used (omega (arith, b.before)) (i.0 ∙ u.line ∙ ap (λ (y : Joint). y.x) (sym b.row));
        parted = p.parted;
      }

-- the same of all rows
module _ (js : List Joint) (rising : Rising js) where
  whole : take (length js) js ≡ js
  whole = take_all (length js) js (omega arith)

  pub level_in : (a w : Wire) (k : ℕ) → clears a w (get_or js (k - 1) zero_joint) (get_or js k zero_joint) ≡ true → 1 ≤ k → k < length js → w.vertical ≡ false → Clear js a w
  level_in a w k t h g d = subst (λ (l : List Joint). Clear l a w) whole (level_clear js (length js) (subst Rising (sym whole) rising) (omega arith) a w k t h g d)

  pub upright_in : (a w : Wire) (k r : ℕ) {next : List ℕ} → Chained js (length js) next → r ≡ get_or next k 0 → clears a w (get_or js k zero_joint) (get_or js r zero_joint) ≡ true → k < length js → r < length js → w.vertical ≡ true → Clear js a w
  upright_in a w k r c e t h g d = subst (λ (l : List Joint). Clear l a w) whole (upright_clear js (length js) (subst Rising (sym whole) rising) (omega arith) a w k r c e t h g d)

-- ---- the walk

pub record Running (v : Bool) (js : List Joint) (ws : List Wire) (i : ℕ) (first last : Wire) : Type 0 where
  pub rest : Run v js last (drop i ws) → Run v js first ws

pub running_start : (v : Bool) (js : List Joint) (ws : List Wire) (first : Wire) → Running v js ws 0 first first
running_start v js ws first = record { rest = λ r. r }

pub running_next : {v : Bool} {js : List Joint} {ws : List Wire} {i : ℕ} {first last : Wire} (w : Wire) → i < length ws → w ≡ get_or ws i w → Running v js ws i first last → (w.vertical ≡ v → Clear js last w) → Running v js ws (i + 1) first w
running_next {v} {js} {ws} {i} {first} {last} w h e s c = record { rest = λ r. s.rest (subst (λ (xs : List Wire). Run v js last xs) (sym (rows_left ws i w h e)) (more c r)) }

pub running_end : {v : Bool} {js : List Joint} {ws : List Wire} {i : ℕ} {first last : Wire} → length ws ≤ i → Running v js ws i first last → Runs v js ws
running_end {v} {js} {ws} {i} {first} {last} h s = record { first = first; each = s.rest (subst (λ (xs : List Wire). Run v js last xs) (sym (drop_of_length-le ws h)) done) }

-- no wire at all
pub none_run : {v : Bool} {js : List Joint} (ws : List Wire) → length ws ≡ 0 → Runs v js ws
none_run {v} {js} ws e = running_end {i = 0} (omega arith) (running_start v js ws zero_wire)
