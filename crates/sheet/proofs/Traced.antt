-- A wire that lies on wires which are there changes nothing when drawn: each piece of the run is one of them.
use Prim.Native.Nat.{◌<◌}
use mathlib.Core.List.Memᴰ.{cast as ∈-cast}
use mathlib.Core.Path.{◌≡◌, sym, ◌∙◌}
use mathlib.Core.Logic.{⊎_elim, ◌⊎◌, inl, inr}
use native.Mathlib.Omega.{arith}
use Rattle.lists.specs.Lists.{◌∈◌}
use Rattle.lists.proofs.Tests.{decide, ltb_reads, compare}
use Rattle.lists.proofs.Order.{rows_two}
use Rattle.sheet.specs.declared.Wire.{Wire}
use Rattle.sheet.specs.Geometry.{tip, tips, Meets, Before, low, high}
use Rattle.sheet.specs.Run.{rest}
use Rattle.sheet.specs.LiesOn.{LiesOn}
use Rattle.sheet.proofs.Geometry.{meets_reads, same_dir, wire_is, ends_at_lem}
use Rattle.sheet.proofs.Before.{before_line, wires_ext}
use Rattle.sheet.proofs.Pieces.{Cut, Within, Piece}
use Rattle.sheet.proofs.Split.{all_untouched}
use Rattle.sheet.proofs.Rest.{run_of, rest_of, reach, in_kept, Draws}
use Rattle.sheet.proofs.Laid.{laid_of, cuts_of, laid_in, laid_clean, laid_fits, laid_order, run_span}
use Rattle.sheet.proofs.LaidClear.{rest_piece, rest_laid}
use Rattle.sheet.proofs.TracedRun.{kept_whole, rest_row, uncut, Under, under, seam}

module _ (E : Draws) (T : LiesOn E.wires E.new) where
  -- ---- a piece of the run is a wire that was there

  row : {u : Wire} → u ∈ laid_of E → Piece (cuts_of E) (run_of E) u → u ∈ E.wires
  row {u} n p = ∈-cast (wire_is (p.within.dir ∙ sym k.dir) (p.within.line ∙ sym k.line) start end) m
    where
      long : u.start < u.end
      long = (laid_fits E u n).long

      t : Under E T u.start
      t = under E T u.start p.within.from (omega (arith, long, p.within.to))

      w : Wire
      w = t.0

      m : w ∈ E.wires
      m = t.1

      k : Within (run_of E) w
      k = t.2

      start : u.start ≡ w.start
      start = go (p.tip low) (decide (ltb_reads w.start u.start))
        where
          go : (u.start ≡ (run_of E).start) ⊎ Cut (cuts_of E) (run_of E) u.start → (w.start < u.start) ⊎ (w.start < u.start → ⊥) → u.start ≡ w.start
          go c (inr f) = omega (arith, t.3)
          go (inl e) (inl x) = absurd (omega (arith, k.from))
          go (inr c) (inl x) = absurd (uncut E T m k c x t.4)

      end : u.end ≡ w.end
      end = go (p.tip high) (compare u.end w.end)
        where
          go : (u.end ≡ (run_of E).end) ⊎ Cut (cuts_of E) (run_of E) u.end → (u.end < w.end) ⊎ ((u.end ≡ w.end) ⊎ (w.end < u.end)) → u.end ≡ w.end
          go c (inr (inl e)) = e
          go (inl e) (inl x) = absurd (omega (arith, k.to))
          go (inr c) (inl x) = absurd (uncut E T m k c (omega (arith, long, start)) x)
          go c (inr (inr x)) =
              let e = ends_at_lem high w in
              let d = same_dir (p.within.dir ∙ sym k.dir) (tip high w) in
              absurd (laid_clean E n (seam E T m k (omega (arith, t.3, t.4)) (omega (arith, p.within.to))) (record { line = omega (arith, d, e.line, p.within.line, k.line); from = omega (arith, d, e.end, start, t.4); to = omega (arith, d, e.end) }))

  -- ---- the same wires

  laid_row : (v : Wire) → v ∈ laid_of E → v ∈ E.wires
  laid_row v n = ⊎_elim
      (λ (p : Piece (cuts_of E) (run_of E) v). row n p)
      (λ (t : (w : Wire) × w ∈ rest_of E × Piece (cuts_of E) w v). ∈-cast (rest_piece E t.1 t.2) (rest_row E T t.1))
      (laid_in E n)

  row_laid : (v : Wire) → v ∈ E.wires → v ∈ laid_of E
  unfolding rest
  row_laid v m = ⊎_elim met (λ (f : Meets E.new v → ⊥). rest_laid E v (all_untouched (tips E.new) (in_kept E.new m f) (kept_whole E T m f))) (decide (meets_reads E.new v))
    where
      long : v.start < v.end
      long = (E.law.clean.fits v m).long

      met : Meets E.new v → v ∈ laid_of E
      met t =
          let k = (reach E).met v m t in
          let u = run_span E v.start k.from (omega (arith, long, k.to)) in
          let d = u.3.within.dir ∙ sym k.dir in
          let e = u.3.within.line ∙ sym k.line in
          ⊎_elim
          (λ (f : v ≡ u.0). ∈-cast f u.1)
          (⊎_elim (λ (f : Before v u.0). absurd (omega (arith, before_line f (sym d) (sym e), u.2, long))) (λ (f : Before u.0 v). absurd (omega (arith, before_line f d e, u.2))))
          (rows_two E.law.clean.order m (row u.1 u.3))

  pub result_traced : laid_of E ≡ E.wires
  result_traced = wires_ext (laid_order E) E.law.clean.order (laid_fits E) laid_row row_laid
