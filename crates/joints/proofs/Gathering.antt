-- A pass over rising keys that tells the row of a key once another key comes.
use Prim.Native.Nat.{ℕ, ◌+◌, ◌≤◌, ◌<◌}
use native.Mathlib.Omega.{arith}
use mathlib.Core.List.{List, [], ◌∷◌, ◌++◌, map, append_assoc}
use mathlib.Core.Logic.{◌≢◌}
use mathlib.Core.Path.{◌≡◌, sym, ap, subst, ◌∙◌}
use Rattle.lists.specs.Lists.{Rows}
use lib.ListN.{length, take, drop, get_or, set}
use Rattle.lists.specs.Tables.{Holds}
use Rattle.lists.proofs.Tables.{holds_self, holds_list, holds_as, holds_push}
use Rattle.lists.proofs.Walks.{rows_from_lem as rows-from-place, rows_past}
use Rattle.sheet.specs.declared.Joint.{Joint}
use Rattle.sheet.specs.Tables.{Joints}
use Rattle.sheet.specs.Drawings.{zero_joint, joint_rows, joint_table}
use Rattle.sheet.specs.Joints.{joint_at, joints_of}
use Rattle.joints.specs.Keys.{spot}
use Rattle.joints.proofs.Runs.{rows_from, rows_of, from_same, from_other}

-- a table that holds joint rows is their table
pub joints_are : {js : List Joint} {t : Joints} → Holds 1408 zero_joint js t.rows t.count → t ≡ joint_table js
joints_are h = λ i. record { rows = h.rows_are i; count = h.count_is i }

-- ---- a pass from the front: rows told so far, and those of the open key and of the keys still to come

pub record Gathered (rows : List ℕ) (n i last count : ℕ) (out : Joints) : Type 0 where
  pub few : count ≤ i
  pub room : out.count < i
  pub holds : Holds 1408 zero_joint (joint_rows out) out.rows out.count
  pub same : joint_rows out ++ rows_from last count (drop i (take n rows)) ≡ joints_of (map spot (take n rows))

pub gather_none : (rows : List ℕ) {n : ℕ} {out : Joints} → Holds 1408 zero_joint [] out.rows out.count → n ≡ 0 → out ≡ joint_table (joints_of (map spot (take n rows)))
unfolding joints_of
gather_none rows h e = joints_are (holds_as (ap (λ m. joints_of (map spot (take m rows))) (sym e)) h)

pub gather_start : (rows : List ℕ) {n : ℕ} {out : Joints} → Holds 1408 zero_joint [] out.rows out.count → Rows ◌≤◌ (take n rows) → 0 < n → n ≤ length rows → Gathered rows n 1 (get_or rows 0 0) 1 out
gather_start rows {n} h r b l =
    let first : take n rows ≡ get_or rows 0 0 ∷ drop 1 (take n rows) = rows-from-place rows n 0 0 b l in
    record {
      few = omega arith;
      room = omega (arith, h.count_is);
      holds = holds_self h;
      same = ap (λ js. js ++ rows_from (get_or rows 0 0) 1 (drop 1 (take n rows))) (holds_list h) ∙ rows_of (get_or rows 0 0) (drop 1 (take n rows)) (subst (Rows ◌≤◌) first r) ∙ ap (λ ks. joints_of (map spot ks)) (sym first);
    }

-- the table with one row more
abbrev pub told : Joints → Joint → Joints
told t j = record { rows = set t.rows t.count j; count = t.count + 1 }

module _ {rows : List ℕ} {n i last count : ℕ} {out : Joints} (g : Gathered rows n i last count out) where
  -- the same key again
  pub gather_same : get_or rows i 0 ≡ last → i < n → n ≤ length rows → Gathered rows n (i + 1) last (count + 1) out
  gather_same e b l = record {
    few = omega (arith, g.few);
    room = omega (arith, g.room);
    holds = g.holds;
    same = ap (λ js. joint_rows out ++ js) (sym (ap (rows_from last count) (rows-from-place rows n i 0 b l) ∙ from_same last count (drop (i + 1) (take n rows)) e)) ∙ g.same;
  }

  -- another key: the row of the open one is told
  pub gather_next : get_or rows i 0 ≢ last → i < n → n ≤ length rows → n ≤ 1408 → Gathered rows n (i + 1) (get_or rows i 0) 1 (told out (joint_at (spot last) count))
  gather_next e b l r =
      let more = holds_push (joint_at (spot last) count) g.holds (omega (arith, g.room)) in
      let rest : rows_from last count (drop i (take n rows)) ≡ joint_at (spot last) count ∷ rows_from (get_or rows i 0) 1 (drop (i + 1) (take n rows)) =
      ap (rows_from last count) (rows-from-place rows n i 0 b l) ∙ from_other last count (get_or rows i 0) (drop (i + 1) (take n rows)) e in
      record {
        few = omega arith;
        room = omega (arith, g.room);
        holds = holds_self more;
        same = ap (λ js. js ++ rows_from (get_or rows i 0) 1 (drop (i + 1) (take n rows))) (holds_list more)
            ∙ append_assoc (joint_rows out) (joint_at (spot last) count ∷ []) (rows_from (get_or rows i 0) 1 (drop (i + 1) (take n rows)))
            ∙ ap (λ js. joint_rows out ++ js) (sym rest) ∙ g.same;
      }

  pub gather_end : n ≡ i → n ≤ length rows → n ≤ 1408 → told out (joint_at (spot last) count) ≡ joint_table (joints_of (map spot (take n rows)))
  unfolding rows_from
  gather_end e l r =
      let last_row : joint_rows out ++ (joint_at (spot last) count ∷ []) ≡ joints_of (map spot (take n rows)) = ap (λ ks. joint_rows out ++ rows_from last count ks) (sym (rows_past rows n i (omega arith) l)) ∙ g.same in
      joints_are (holds_as last_row (holds_push (joint_at (spot last) count) g.holds (omega (arith, g.room))))
