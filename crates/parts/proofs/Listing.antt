-- Pads come as blocks of three points, of which some count; block behind block, a table lists the pads of all components.
use Prim.Native.Nat.{ℕ, zero, suc, ◌+◌, ◌≤◌}
use native.Mathlib.Omega.{arith}
use mathlib.Core.List.{List, [], ◌∷◌, ◌++◌}
use mathlib.Core.Path.{◌≡◌, refl, sym, ap, subst, ◌∙◌}
use lib.ListN.{length, take, get_or, set, replicate, length-append, length-set, length-take, length-replicate}
use lib.Seq.{take-take, take-append_seam}
use Rattle.lists.proofs.Pushes.{three_of, take_three}
use Rattle.orientation.specs.Orientations.{eighth}
use Rattle.symbol.specs.declared.Point.{Point}
use Rattle.symbol.specs.declared.PadBlock.{PadBlock}
use Rattle.symbol.specs.Symbols.{unused, pad_block, pads_at}
use Rattle.sheet.specs.declared.Component.{Component}
use Rattle.sheet.specs.Parts.{pads}
use Rattle.sheet.proofs.Parts.{pads_by_kind, length_pads}
use Rattle.wires.specs.Points.{Points}
use Rattle.wires.specs.Tables.{point_rows}
use Rattle.parts.specs.Tables.{Block, TabledPoints}

pub pad_block_lem : (c : Component) {b : PadBlock} → b ≡ pad_block c.kind (eighth c.orientation) c.x c.y → Block (pads c) b
unfolding pads
pad_block_lem c e = subst (Block (pads c)) (sym e) (record {
  size = omega (arith, length-take 3 (pads c ++ (unused ∷ unused ∷ unused ∷ [])), length-append (pads c) (unused ∷ unused ∷ unused ∷ []));
  room = length_pads c;
  count_is = refl;
  points_are = take-take (length (pads c)) 3 (pads c ++ (unused ∷ unused ∷ unused ∷ [])) (length_pads c) ∙ take-append_seam (pads c) (unused ∷ unused ∷ unused ∷ []);
})

-- no component, no pad
pub lists_none : TabledPoints [] (record { rows = replicate 384 unused; count = 0 })
lists_none = record { size = length-replicate 384 unused; room = omega arith; count_is = refl; points_are = refl }

-- a block behind the points listed: its three points are stored, and as many counted as it counts
pub lists_block : {ps qs : List Point} {t : Points} {b : PadBlock} (z : Point) → TabledPoints ps t → Block qs b → t.count + 3 ≤ 384
    → TabledPoints (ps ++ qs) (record { rows = set (set (set t.rows t.count (get_or b.points 0 z)) (t.count + 1) (get_or b.points 1 z)) (t.count + 2) (get_or b.points 2 z); count = t.count + b.count })
lists_block {ps} {qs} {t} {b} z h k r =
    let p = get_or b.points 0 z in
    let q = get_or b.points 1 z in
    let s = get_or b.points 2 z in
    record {
      size = length-set (set (set t.rows t.count p) (t.count + 1) q) (t.count + 2) s ∙ length-set (set t.rows t.count p) (t.count + 1) q ∙ length-set t.rows t.count p ∙ h.size;
      room = omega (arith, k.room);
      count_is = omega (arith, h.count_is, k.count_is, length-append ps qs);
      points_are = take_three t.rows t.count b.count p q s (omega (arith, h.size)) k.room
          ∙ ap (λ l. point_rows t ++ take b.count l) (sym (three_of b.points z k.size))
          ∙ (λ i. h.points_are i ++ k.points_are i);
    }

-- a contact has three pads, every other component one
pub other_kinds : (k : ℕ) → (k ≡ 1 → ⊥) → 1 ≡ length (pads_at k)
other_kinds zero n = refl
other_kinds (suc zero) n = absurd (n refl)
other_kinds (suc (suc k)) n = refl

-- n is the number of the points
pub record Many (ps : List Point) (n : ℕ) : Type 0 where
  pub count_is : n ≡ length ps

pub many_none : Many [] 0
many_none = record { count_is = refl }

pub many_more : {ps : List Point} {n m : ℕ} (c : Component) → Many ps n → m ≡ length (pads_at c.kind) → Many (ps ++ pads c) (n + m)
many_more {ps} c h e = record { count_is = omega (arith, h.count_is, length-append ps (pads c), pads_by_kind c) }
