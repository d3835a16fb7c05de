-- Merging in one pass from the front: what is out, the wire still growing, and what the rows left make of it are the whole.
use Prim.Native.Nat.{ℕ, ◌+◌, ◌-◌, ◌≤◌, ◌<◌}
use native.Mathlib.Omega.{arith}
use mathlib.Core.Path.{◌≡◌, refl, sym, ap, ◌∙◌, subst}
use mathlib.Core.List.{List, [], ◌∷◌, ◌++◌, append_assoc}
use mathlib.Core.Bool.{Bool, true, false, ◌&&◌, not, beq}
use lib.Dec.{T, eqb}
use lib.ListN.{length, take, get_or, set}
use lib.Seq.{get_or-take, length-take-le}
use Rattle.symbol.specs.declared.Point.{Point}
use Rattle.lists.proofs.Tests.{both, holds, and_reads, beq_reads, eqb_reads}
use Rattle.lists.proofs.Tables.{holds_push, holds_as}
use Rattle.lists.proofs.Walks.{rows_from_lem, Rest, rest_next, rest_end}
use Rattle.sheet.specs.declared.Wire.{Wire}
use Rattle.sheet.specs.Tables.{Wires}
use Rattle.sheet.specs.Geometry.{high, tip, point}
use Rattle.sheet.specs.Merge.{held_apart, joins, join, merge_by, merge}
use Rattle.sheet.proofs.Merge.{merge_from, merge_forward}
use Rattle.wires.specs.Tables.{Tabled}
use Rattle.merge.specs.Codes.{Flagged}

-- ---- one pair of rows

-- b goes on in line where a ends
abbrev in_line : Wire → Wire → Bool
in_line a b = beq a.vertical b.vertical && (eqb a.line b.line && eqb a.end b.start)

last_and : (x y z w : Bool) → ((x && (y && z)) && w) ≡ (x && (y && (z && w)))
last_and true true z w = refl
last_and true false z w = refl
last_and false y z w = refl

-- the test of the loop: x tells that b goes on in line, y that a is held
pub joins_test : (h : Bool → Point → Bool) (a b : Wire) {x y : Bool} → x ≡ in_line a b → y ≡ h a.vertical (tip high a) → (x && not y) ≡ joins h a b
unfolding joins
joins_test h a b e f = rw (e, f) (last_and (beq a.vertical b.vertical) (eqb a.line b.line) (eqb a.end b.start) (not (h a.vertical (tip high a))))

-- a wire that goes on ends where its last part ends
joined_held : (h : Bool → Point → Bool) (a b : Wire) → in_line a b ≡ true → h b.vertical (tip high b) ≡ h (join a b).vertical (tip high (join a b))
joined_held h a b e =
    let t = holds (and_reads (beq_reads a.vertical b.vertical) (and_reads (eqb_reads a.line b.line) (eqb_reads a.end b.start))) (subst T (sym e) tt) in
    λ i. h (sym t.0 i) (point (sym t.0 i) (sym t.1.0 i) b.end)

-- ---- the pass

-- before row i of n: done is out, a is the wire still growing, and the flag before i tells whether a is held where it ends
pub record Merging (rows : List Wire) (n : ℕ) (ps : List Point) (flags : List Bool) (i : ℕ) (a : Wire) (out : Wires) : Type 0 where
  pub done : List Wire
  pub holding : Tabled done out
  pub rest : Rest (λ bs. done ++ merge_from (held_apart (take n rows) ps) a bs) rows n i (merge (take n rows) ps)
  pub apart : get_or flags (i - 1) false ≡ held_apart (take n rows) ps a.vertical (tip high a)

-- the flag of row i
flag_at : (rows : List Wire) (n i : ℕ) {ps : List Point} {flags : List Bool} (d : Wire) → Flagged (take n rows) ps flags → i < n → n ≤ length rows
    → get_or flags (i + 1 - 1) false ≡ held_apart (take n rows) ps (get_or rows i d).vertical (tip high (get_or rows i d))
flag_at rows n i {ps} {flags} d f h k =
    let same : i + 1 - 1 ≡ i = omega arith in
    ap (λ (j : ℕ). get_or flags j false) same ∙ f.each i d (omega (arith, length-take-le n rows k)) ∙ ap (λ (w : Wire). held_apart (take n rows) ps w.vertical (tip high w)) (get_or-take n rows i d h)

pub merge_start : (rows : List Wire) (n : ℕ) (ps : List Point) (d : Wire) {flags : List Bool} {out : Wires} → Tabled [] out → Flagged (take n rows) ps flags → 0 < n → n ≤ length rows → Merging rows n ps flags 1 (get_or rows 0 d) out
unfolding merge
merge_start rows n ps d h f a b = record {
  done = [];
  holding = h;
  rest = record { same = ap (merge_by (held_apart (take n rows) ps)) (rows_from_lem rows n 0 d a b) ∙ sym (merge_forward (held_apart (take n rows) ps) (get_or rows 0 d) _) };
  apart = flag_at rows n 0 d f a b;
}

module _ {rows : List Wire} {n i : ℕ} {ps : List Point} {flags : List Bool} {a : Wire} {out : Wires} {x y : Bool} (d : Wire) (m : Merging rows n ps flags i a out) (f : Flagged (take n rows) ps flags)
    (e : x ≡ in_line a (get_or rows i d)) (g : y ≡ get_or flags (i - 1) false) (l : i < n) (k : n ≤ length rows) where
  test : (x && not y) ≡ joins (held_apart (take n rows) ps) a (get_or rows i d)
  test = joins_test (held_apart (take n rows) ps) a (get_or rows i d) e (g ∙ m.apart)

  pub merge_join : (x && not y) ≡ true → Merging rows n ps flags (i + 1) (join a (get_or rows i d)) out
  unfolding merge_from
  merge_join t = record {
    done = m.done;
    holding = m.holding;
    rest = rest_next d m.rest (λ bs. rw (sym test ∙ t)) l k;
    apart = flag_at rows n i d f l k ∙ joined_held (held_apart (take n rows) ps) a (get_or rows i d) (sym e ∙ (both x (not y) t).0);
  }

  pub merge_push : (x && not y) ≡ false → out.count < 512 → Merging rows n ps flags (i + 1) (get_or rows i d) (record { rows = set out.rows out.count a; count = out.count + 1 })
  unfolding merge_from
  merge_push t c = record {
    done = m.done ++ (a ∷ []);
    holding = holds_push a m.holding c;
    rest = rest_next d m.rest (λ bs. rw (sym test ∙ t) (sym (append_assoc m.done (a ∷ []) (merge_from (held_apart (take n rows) ps) (get_or rows i d) bs)))) l k;
    apart = flag_at rows n i d f l k;
  }

pub merge_end : {rows : List Wire} {n i : ℕ} {ps : List Point} {flags : List Bool} {a : Wire} {out : Wires} → Merging rows n ps flags i a out → n ≤ i → n ≤ length rows → out.count < 512
    → Tabled (merge (take n rows) ps) (record { rows = set out.rows out.count a; count = out.count + 1 })
unfolding merge_from
merge_end {a = a} m l k c = holds_as (rest_end m.rest l k) (holds_push a m.holding c)

-- nothing to merge
pub merge_none : (rows : List Wire) (n : ℕ) (ps : List Point) {out : Wires} → n ≡ 0 → Tabled [] out → Tabled (merge (take n rows) ps) out
unfolding merge merge_by
merge_none rows n ps e h = rw e h
