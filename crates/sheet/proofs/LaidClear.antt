-- After the wire edit no wire end and no pad lies inside a wire: a mark inside the run is a cut, and none is inside the rest, which stays
-- as it is.
use Prim.Native.Nat.{ℕ, ◌≤◌, ◌<◌}
use mathlib.Core.Path.{◌≡◌}
use mathlib.Core.Logic.{⊎_elim, ◌⊎◌, inl, inr}
use native.Mathlib.Omega.{arith}
use Rattle.lists.specs.Lists.{◌∈◌}
use Rattle.lists.proofs.Tests.{decide, leb_reads}
use Rattle.lists.proofs.Lists.{insert_old}
use Rattle.symbol.specs.declared.Point.{Point}
use Rattle.sheet.specs.declared.Wire.{Wire}
use Rattle.sheet.specs.Geometry.{along, across, marks, first, Inside, Meets, low, high}
use Rattle.sheet.specs.Run.{lay, lay_wire}
use Rattle.sheet.proofs.Geometry.{On, same_dir, end_on, inside_end, HasEnd, marks_in, in_marks}
use Rattle.sheet.proofs.Pieces.{within_inside, piece_uncut, Within, Piece}
use Rattle.sheet.proofs.Split.{all_untouched}
use Rattle.sheet.proofs.Reach.{Reached}
use Rattle.sheet.proofs.Rest.{run_of, rest_of, reach, rest_in, rest_clean, Draws}
use Rattle.sheet.proofs.Laid.{laid_of, cuts_of, cuts_in, in_cuts, laid_in, laid_clean, Spot, laid_spot, Old, spot_old}

module _ (E : Draws) where
  -- a point's place along the new wire
  abbrev along_new : Point → ℕ
  along_new q = along E.new.vertical q

  -- a point inside the run is on the wire as drawn, or inside a wire that is taken out
  pub inside_run : {q : Point} → Inside q (run_of E) → On q E.new ⊎ ((r : Wire) × r ∈ E.wires × Inside q r)
  inside_run {q} i = go (decide (leb_reads E.new.start (along_new q))) (decide (leb_reads (along_new q) E.new.end)) ((reach E).tip low) ((reach E).tip high)
    where
      D : Within (run_of E) E.new
      D = (reach E).drawn

      a : (along_new q ≡ along (run_of E).vertical q) × (across E.new.vertical q ≡ across (run_of E).vertical q)
      a = same_dir D.dir q

      taken : {r : Wire} → r ∈ E.wires → Meets E.new r → r.start < along_new q → along_new q < r.end → On q E.new ⊎ ((r : Wire) × r ∈ E.wires × Inside q r)
      taken {r} m t y z = let b = same_dir t.dir q in inr (r, m, record { line = omega (arith, b, a, i.line, D.line, t.line); from = omega (arith, b); to = omega (arith, b) })

      go : (E.new.start ≤ along_new q) ⊎ (E.new.start ≤ along_new q → ⊥) → (along_new q ≤ E.new.end) ⊎ (along_new q ≤ E.new.end → ⊥)
          → Reached E.new E.wires (run_of E) low → Reached E.new E.wires (run_of E) high → On q E.new ⊎ ((r : Wire) × r ∈ E.wires × Inside q r)
      go (inl y) (inl z) s e = inl (record { line = omega (arith, a, i.line, D.line); from = y; to = z })
      go (inr y) z (inl e) s = absurd (omega (arith, a, i.from))
      go (inr y) z (inr t) s = taken t.1 t.2 (omega (arith, a, i.from, t.3)) (omega (arith, t.2.to))
      go (inl y) (inr z) s (inl e) = absurd (omega (arith, a, i.to))
      go (inl y) (inr z) s (inr t) = taken t.1 t.2 (omega (arith, t.2.from)) (omega (arith, a, i.to, t.3))

  -- a mark inside the run is a cut
  run_cut : {q : Point} → Spot E q → Inside q (run_of E) → q ∈ cuts_of E
  run_cut (inr e) i = absurd (inside_end e.1 i)
  run_cut {q} (inl j) i = in_cuts E j (place (spot_old E (inl j)) (inside_run i))
    where
      place : Old E q → On q E.new ⊎ ((r : Wire) × r ∈ E.wires × Inside q r) → On q E.new
      place x (inl o) = o
      place (inl x) (inr t) = absurd (E.law.clean.clear q x t.0 t.1 t.2)
      place (inr e) (inr t) = end_on E.fit e.1

  -- and none is inside what stands before the run goes in
  rest_clear : {q : Point} {w : Wire} → Spot E q → w ∈ rest_of E → Inside q w → ⊥
  rest_clear {q} {w} s m i = go (spot_old E s)
    where
      go : Old E q → ⊥
      go (inl x) = let k = rest_in E m in E.law.clean.clear q x k.0 k.1 (within_inside k.3.within i)
      go (inr e) = rest_clean E m e i

  -- the cuts do not touch what was there before the run
  rest_untouched : {q : Point} {w : Wire} → w ∈ rest_of E → q ∈ cuts_of E → Inside q w → ⊥
  rest_untouched m j i = rest_clear (inl (cuts_in E j).0) m i

  pub rest_piece : {w v : Wire} → w ∈ rest_of E → Piece (cuts_of E) w v → v ≡ w
  rest_piece m p = piece_uncut p (λ q j i. rest_untouched m j i)

  pub rest_laid : (v : Wire) → v ∈ rest_of E → v ∈ laid_of E
  unfolding lay_wire lay
  rest_laid v m = all_untouched (cuts_of E) (insert_old first (run_of E) m) (λ q j i. rest_untouched m j i)

  pub laid_clear : (q : Point) → q ∈ marks (laid_of E) E.pads → (v : Wire) → v ∈ laid_of E → Inside q v → ⊥
  laid_clear q j v m i = ⊎_elim
      (λ (p : Piece (cuts_of E) (run_of E) v). laid_clean E m (run_cut spot (within_inside p.within i)) i)
      (λ (t : (w : Wire) × w ∈ rest_of E × Piece (cuts_of E) w v). rest_clear spot t.1 (within_inside t.2.within i))
      (laid_in E m)
    where
      spot : Spot E q
      spot = ⊎_elim (λ (h : HasEnd q (laid_of E)). laid_spot E h.1 h.2) (λ (p : q ∈ E.pads). inl (in_marks (inr p))) (marks_in (laid_of E) j)
