-- What the wire edit leaves: pieces of the run and of the wires that stood before. Where the ends come from.
use Prim.Native.Nat.{ℕ, ◌≤◌, ◌<◌}
use mathlib.Core.List.{List}
use mathlib.Core.Path.{◌≡◌, subst}
use mathlib.Core.Logic.{⊎_elim, ◌⊎◌, inl, inr}
use native.Mathlib.Omega.{arith}
use Rattle.lists.specs.Lists.{◌∈◌, insert, Rows}
use Rattle.lists.proofs.Lists.{keep_in, in_keep, insert_in, insert_new}
use Rattle.symbol.specs.declared.Point.{Point}
use Rattle.sheet.specs.declared.Wire.{Wire}
use Rattle.sheet.specs.Geometry.{at, tips, marks, EndAt, first, Ends, Inside, Meets, Side, Before}
use Rattle.sheet.specs.Run.{standing, lay, lay_wire}
use Rattle.sheet.specs.Wiring.{AllFit}
use Rattle.sheet.proofs.Geometry.{On, on_reads, same_dir, tips_in, HasEnd, marks_in, in_marks}
use Rattle.sheet.proofs.Before.{insert_order}
use Rattle.sheet.proofs.Pieces.{piece_end, Within, Piece}
use Rattle.sheet.proofs.Split.{all_from, all_clean, all_span, all_order}
use Rattle.sheet.proofs.Reach.{Reached}
use Rattle.sheet.proofs.Rest.{run_of, rest_of, reach, run_fits, rest_in, rest_fits, rest_order, rest_apart, Draws}

-- the wires after the edit, and where the run is cut
abbrev pub laid_of : Draws → List Wire
laid_of E = lay_wire E.new E.wires E.pads

abbrev pub cuts_of : Draws → List Point
cuts_of E = standing E.new (rest_of E) E.pads

-- a piece of the run, or of what stood before
abbrev pub Laid : Draws → Wire → Type 0
Laid E v = Piece (cuts_of E) (run_of E) v ⊎ ((w : Wire) × w ∈ rest_of E × Piece (cuts_of E) w v)

module _ (E : Draws) where
  pub cuts_in : {q : Point} → q ∈ cuts_of E → q ∈ marks (rest_of E) E.pads × On q E.new
  unfolding standing
  cuts_in m = keep_in (λ q. on_reads q E.new) (marks (rest_of E) E.pads) m

  pub in_cuts : {q : Point} → q ∈ marks (rest_of E) E.pads → On q E.new → q ∈ cuts_of E
  unfolding standing
  in_cuts m o = in_keep (λ q. on_reads q E.new) m o

  pub laid_in : {v : Wire} → v ∈ laid_of E → Laid E v
  unfolding lay_wire lay
  laid_in {v} m =
      let t = all_from (cuts_of E) m in
      ⊎_elim
      (λ (e : t.0 ≡ run_of E). inl (subst (λ x. Piece (cuts_of E) x v) e t.2))
      (λ (i : t.0 ∈ rest_of E). inr (t.0, i, t.2))
      (insert_in first (run_of E) (rest_of E) t.1)

  pub laid_clean : {q : Point} {v : Wire} → v ∈ laid_of E → q ∈ cuts_of E → Inside q v → ⊥
  unfolding lay_wire lay
  laid_clean m j i = all_clean (cuts_of E) (insert first (run_of E) (rest_of E)) m j i

  pub laid_fits : AllFit (laid_of E)
  laid_fits v m = ⊎_elim
      (λ (p : Piece (cuts_of E) (run_of E) v). p.fits (run_fits E))
      (λ (t : (w : Wire) × w ∈ rest_of E × Piece (cuts_of E) w v). t.2.fits (rest_fits E t.0 t.1))
      (laid_in m)

  pub laid_order : Rows Before (laid_of E)
  unfolding lay_wire lay
  laid_order = all_order (cuts_of E) (insert_order (run_fits E) (rest_fits E) (rest_apart E) (rest_order E))

  -- each stretch of the run is one of a piece of it
  pub run_span : (a : ℕ) → (run_of E).start ≤ a → a < (run_of E).end → (v : Wire) × v ∈ laid_of E × ((v.start ≤ a) × (a < v.end)) × Piece (cuts_of E) (run_of E) v
  unfolding lay_wire lay
  run_span a x y = all_span (cuts_of E) (insert_new first (run_of E) (rest_of E)) a x y

  -- ---- ends

  -- an end of the result was a mark before the run went in, or is the run's
  abbrev pub Spot : Point → Type 0
  Spot q = (q ∈ marks (rest_of E) E.pads) ⊎ EndAt q (run_of E)

  piece_spot : {q : Point} {w v : Wire} → Piece (cuts_of E) w v → EndAt q v → (EndAt q w → Spot q) → Spot q
  piece_spot {q} {w} p e f = ⊎_elim (λ (x : Ends e.0 q w). f (e.0, x)) (λ (x : q ∈ cuts_of E × Inside q w). inl (cuts_in x.0).0) (piece_end p e.1)

  pub laid_spot : {q : Point} {v : Wire} → v ∈ laid_of E → EndAt q v → Spot q
  laid_spot {q} {v} m e = ⊎_elim
      (λ (p : Piece (cuts_of E) (run_of E) v). piece_spot p e inr)
      (λ (t : (w : Wire) × w ∈ rest_of E × Piece (cuts_of E) w v). piece_spot t.2 e (λ x. inl (in_marks (inl (t.0, t.1, x)))))
      (laid_in m)

  -- an end of the run is one of the wire as drawn or of a wire that it met
  pub run_end : {s : Side} {q : Point} → Ends s q (run_of E) → Ends s q E.new ⊎ ((w : Wire) × w ∈ E.wires × Meets E.new w × Ends s q w)
  run_end {s} {q} e = go ((reach E).tip s)
    where
      onto : {w : Wire} → Within (run_of E) w → at s (run_of E) ≡ at s w → Ends s q w
      onto k f = let a = same_dir k.dir q in record { line = omega (arith, k.line, e.line); end = omega (arith, e.end) }

      go : Reached E.new E.wires (run_of E) s → Ends s q E.new ⊎ ((w : Wire) × w ∈ E.wires × Meets E.new w × Ends s q w)
      go (inl f) = inl (onto (reach E).drawn f)
      go (inr t) = inr (t.0, t.1, t.2, onto ((reach E).met t.0 t.1 t.2) t.3)

  -- such a point was a mark before the edit, or is an end of the wire as drawn
  abbrev pub Old : Point → Type 0
  Old q = (q ∈ marks E.wires E.pads) ⊎ EndAt q E.new

  pub spot_old : {q : Point} → Spot q → Old q
  spot_old {q} (inl m) = go (marks_in (rest_of E) m)
    where
      go : HasEnd q (rest_of E) ⊎ (q ∈ E.pads) → Old q
      go (inr p) = inl (in_marks (inr p))
      go (inl (w, k, (s, e))) = let t = rest_in E k in ⊎_elim (λ (x : Ends s q t.0). inl (in_marks (inl (t.0, t.1, (s, x))))) (λ (x : q ∈ tips E.new × Inside q t.0). inr (tips_in x.0)) (piece_end t.3 e)
  spot_old {q} (inr (s, e)) = ⊎_elim (λ (x : Ends s q E.new). inr (s, x)) (λ (t : (w : Wire) × w ∈ E.wires × Meets E.new w × Ends s q w). inl (in_marks (inl (t.0, t.1, (s, t.3))))) (run_end e)
