-- What stands before the run goes in: the wires that the new one does not meet, split at its ends; the run is apart from all of them.
use Prim.Native.Nat.{◌≤◌, ◌<◌}
use mathlib.Core.Bool.{not}
use mathlib.Core.List.{List}
use mathlib.Core.Path.{◌≡◌, sym, subst, ◌∙◌}
use mathlib.Core.Logic.{⊎_elim, inl, inr}
use native.Mathlib.Omega.{arith}
use Rattle.lists.specs.Lists.{◌∈◌, Rows}
use Rattle.lists.proofs.Tests.{decide, not_reads, leb_reads, compare, same_or_turned}
use Rattle.lists.proofs.Lists.{keep_in, in_keep}
use Rattle.lists.proofs.Order.{rows_keep, rows_two}
use Rattle.symbol.specs.declared.Point.{Point}
use Rattle.sheet.specs.declared.Wire.{Wire}
use Rattle.sheet.specs.Geometry.{at, tips, EndAt, meets, Inside, Meets, Side, low, high, Before, next_line, same_line}
use Rattle.sheet.specs.Run.{kept, run, rest}
use Rattle.sheet.specs.Wiring.{AllFit, Ended, Fits, Wired}
use Rattle.sheet.proofs.Geometry.{other, meets_reads, in_tips}
use Rattle.sheet.proofs.Before.{Apart, turned_apart}
use Rattle.sheet.proofs.Pieces.{whole, apart_within, Within, Piece}
use Rattle.sheet.proofs.Split.{all_from, all_clean, all_order, end_stays}
use Rattle.sheet.proofs.Reach.{Reached, run_reaches, within_meets, Upto, Beyond, beyond_upto, beyond_met, Reaches}

-- the wire edit at hand: a wire to be drawn among wires and pads that keep the rules
pub record Draws : Type 0 where
  pub new : Wire
  pub wires : List Wire
  pub pads : List Point
  pub fit : Fits new
  pub law : Wired wires pads

-- its run, and what is left of the wires before the run goes in
abbrev pub run_of : Draws → Wire
run_of E = run E.new E.wires

abbrev pub rest_of : Draws → List Wire
rest_of E = rest E.new E.wires

-- ---- the wires that are kept

module _ (n : Wire) where
  pub kept_in : (ws : List Wire) {w : Wire} → w ∈ kept n ws → w ∈ ws × (Meets n w → ⊥)
  unfolding kept
  kept_in ws m = keep_in (λ w. not_reads (meets_reads n w)) ws m

  pub in_kept : {ws : List Wire} {w : Wire} → w ∈ ws → (Meets n w → ⊥) → w ∈ kept n ws
  unfolding kept
  in_kept m f = in_keep (λ w. not_reads (meets_reads n w)) m f

  pub kept_order : {ws : List Wire} → Rows Before ws → Rows Before (kept n ws)
  unfolding kept
  kept_order o = rows_keep (λ w. not (meets n w)) o

module _ (E : Draws) where
  pub reach : Reaches E.new E.wires (run_of E)
  reach = run_reaches E.new E.wires

  pub run_fits : Fits (run_of E)
  run_fits = let d = reach.drawn in record { line = omega (arith, d.line, E.fit.line); long = omega (arith, d.from, d.to, E.fit.long); end = far (reach.tip high) }
    where
      far : Reached E.new E.wires (run_of E) high → (run_of E).end ≤ 12000
      far (inl e) = omega (arith, E.fit.end)
      far (inr t) = omega (arith, t.3, (E.law.clean.fits t.0 t.1).end)

  -- each is a piece of a wire that is kept
  pub rest_in : {v : Wire} → v ∈ rest_of E → (k : Wire) × k ∈ E.wires × (Meets E.new k → ⊥) × Piece (tips E.new) k v
  unfolding rest
  rest_in m = let t = all_from (tips E.new) m in let k = kept_in E.new E.wires t.1 in (t.0, k.0, k.1, t.2)

  -- and is not met
  pub rest_free : {v : Wire} → v ∈ rest_of E → Meets E.new v → ⊥
  rest_free m t = let k = rest_in m in k.2 (within_meets k.3.within t)

  pub rest_clean : {q : Point} {v : Wire} → v ∈ rest_of E → EndAt q E.new → Inside q v → ⊥
  unfolding rest
  rest_clean m e i = all_clean (tips E.new) (kept E.new E.wires) m (in_tips e.1) i

  pub rest_fits : AllFit (rest_of E)
  rest_fits v m = let t = rest_in m in t.3.fits (E.law.clean.fits t.0 t.1)

  pub rest_order : Rows Before (rest_of E)
  unfolding rest
  rest_order = all_order (tips E.new) (kept_order E.new E.law.clean.order)

  -- an end of a wire that is kept stays one
  pub rest_ended : {q : Point} {w : Wire} → w ∈ E.wires → (Meets E.new w → ⊥) → EndAt q w → Ended (rest_of E) w.vertical q
  unfolding rest
  rest_ended {w = w} m f e = end_stays (tips E.new) (E.law.clean.fits w m) (in_kept E.new m f) e

  -- ---- the run is apart from the rest

  -- it does not reach past the near end of a kept wire
  far : (s : Side) {k : Wire} → k ∈ E.wires → (Meets E.new k → ⊥) → E.new.vertical ≡ k.vertical → E.new.line ≡ k.line → Beyond s E.new k → Upto s (at s (run_of E)) (at (other s) k)
  far s {k} m f d l b = go (reach.tip s)
    where
      go : Reached E.new E.wires (run_of E) s → Upto s (at s (run_of E)) (at (other s) k)
      go (inl e) = subst (λ x. Upto s x (at (other s) k)) (sym e) (beyond_upto s E.new k b)
      go (inr t) = subst (λ x. Upto s x (at (other s) k)) (sym t.3) (⊎_elim
          (λ (e : t.0 ≡ k). absurd (f (subst (Meets E.new) e t.2)))
          (beyond_met s t.2 (E.law.clean.fits k m) d l b)
          (rows_two E.law.clean.order t.1 m))

  kept_apart : {k : Wire} → k ∈ E.wires → (Meets E.new k → ⊥) → Apart (run_of E) k
  kept_apart {k} m f = ⊎_elim in_dir (λ (t : E.new.vertical ≡ not k.vertical). turned_apart (sym D.dir ∙ t)) (same_or_turned E.new.vertical k.vertical)
    where
      D : Within (run_of E) E.new
      D = reach.drawn

      in_line : E.new.vertical ≡ k.vertical → E.new.line ≡ k.line → Apart (run_of E) k
      in_line d l = ⊎_elim
          (λ (x : k.start ≤ E.new.end). inr (same_line (sym d ∙ D.dir) (sym l ∙ D.line) (far low m f d l (omega (arith, past x)))))
          (λ (x : k.start ≤ E.new.end → ⊥). inl (same_line (sym D.dir ∙ d) (sym D.line ∙ l) (far high m f d l (omega arith))))
          (decide (leb_reads k.start E.new.end))
        where
          past : k.start ≤ E.new.end → k.end < E.new.start
          past x = ⊎_elim (λ (y : E.new.start ≤ k.end). absurd (f (record { dir = d; line = l; from = x; to = y }))) (λ (y : E.new.start ≤ k.end → ⊥). omega arith) (decide (leb_reads E.new.start k.end))

      in_dir : E.new.vertical ≡ k.vertical → Apart (run_of E) k
      in_dir d = ⊎_elim
          (λ (x : E.new.line < k.line). inl (next_line (sym D.dir ∙ d) (omega (arith, D.line))))
          (⊎_elim (in_line d) (λ (x : k.line < E.new.line). inr (next_line (sym d ∙ D.dir) (omega (arith, D.line)))))
          (compare E.new.line k.line)

  pub rest_apart : (v : Wire) → v ∈ rest_of E → Apart (run_of E) v
  rest_apart v m = let t = rest_in m in apart_within whole t.3.within (kept_apart t.1 t.2)
