-- The wire edit keeps the rules: where wires of the result go on in line, something holds them apart. Away from the wire as
-- drawn that is what did before; on it, it is a standing joint, or the new wire itself.
use mathlib.Core.Bool.{Bool, not}
use mathlib.Core.Path.{◌≡◌, sym, subst, ap, ◌∙◌}
use mathlib.Core.Logic.{⊎_elim, ◌⊎◌, inl, inr}
use native.Mathlib.Omega.{arith}
use Rattle.lists.specs.Lists.{◌∈◌}
use Rattle.lists.proofs.Tests.{decide, not_not, same_or_turned}
use Rattle.lists.proofs.Lists.{insert_new, insert_old}
use Rattle.symbol.specs.declared.Point.{Point}
use Rattle.sheet.specs.declared.Wire.{Wire}
use Rattle.sheet.specs.Geometry.{tip, tips, EndAt, first, Ends, Inside, Meets, Follows, Side, low, high}
use Rattle.sheet.specs.Run.{lay, lay_wire}
use Rattle.sheet.specs.Wiring.{HeldApart, Ended, Wired}
use Rattle.sheet.proofs.Geometry.{On, on_reads, meets_reads, same_dir, ends_at_lem, end_on, on_cases, tips_in, HasEnd, marks_in, in_marks}
use Rattle.sheet.proofs.Before.{no_share}
use Rattle.sheet.proofs.Wiring.{follows_end, ended_as, held_at}
use Rattle.sheet.proofs.Pieces.{within_on, piece_end, Piece}
use Rattle.sheet.proofs.Split.{end_stays, cut_end}
use Rattle.sheet.proofs.Reach.{on_meets, within_meets}
use Rattle.sheet.proofs.Rest.{run_of, rest_of, reach, run_fits, rest_in, rest_free, rest_fits, rest_ended, rest_apart, Draws}
use Rattle.sheet.proofs.Laid.{laid_of, cuts_of, Laid, cuts_in, in_cuts, laid_in, laid_fits, laid_order, Spot, laid_spot, run_end}
use Rattle.sheet.proofs.LaidClear.{inside_run, laid_clear}

module _ (E : Draws) where
  -- what holds wires of direction d apart at q in the result
  abbrev Holds : Bool → Point → Type 0
  Holds d q = HeldApart (laid_of E) E.pads d q

  -- ---- ends that are there afterwards

  rest_stays : {q : Point} {w : Wire} → w ∈ rest_of E → EndAt q w → Ended (laid_of E) w.vertical q
  unfolding lay_wire lay
  rest_stays {w = w} m e = end_stays (cuts_of E) (rest_fits E w m) (insert_old first (run_of E) m) e

  run_stays : {q : Point} → EndAt q (run_of E) → Ended (laid_of E) (run_of E).vertical q
  unfolding lay_wire lay
  run_stays e = end_stays (cuts_of E) (run_fits E) (insert_new first (run_of E) (rest_of E)) e

  -- ---- away from the wire as drawn

  module _ {q : Point} (off : On q E.new → ⊥) where
    -- an end of the result was one before, of that side and direction
    old_end : {v : Wire} {s : Side} → v ∈ laid_of E → Ends s q v → (w : Wire) × w ∈ E.wires × (w.vertical ≡ v.vertical) × Ends s q w
    old_end {v} {s} m e = go (laid_in E m)
      where
        of_run : Piece (cuts_of E) (run_of E) v → Ends s q (run_of E) → (w : Wire) × w ∈ E.wires × (w.vertical ≡ v.vertical) × Ends s q w
        of_run p x = ⊎_elim
            (λ (y : Ends s q E.new). absurd (off (end_on E.fit y)))
            (λ (t : (w : Wire) × w ∈ E.wires × Meets E.new w × Ends s q w). (t.0, t.1, sym t.2.dir ∙ (reach E).drawn.dir ∙ sym p.within.dir, t.3))
            (run_end E x)

        of_rest : {w : Wire} → w ∈ rest_of E → Piece (cuts_of E) w v → Ends s q w → (w : Wire) × w ∈ E.wires × (w.vertical ≡ v.vertical) × Ends s q w
        of_rest {w} i p x = let k = rest_in E i in ⊎_elim
            (λ (y : Ends s q k.0). (k.0, k.1, sym k.3.within.dir ∙ sym p.within.dir, y))
            (λ (y : q ∈ tips E.new × Inside q k.0). absurd (off (end_on E.fit (tips_in y.0).1)))
            (piece_end k.3 x)

        go : Laid E v → (w : Wire) × w ∈ E.wires × (w.vertical ≡ v.vertical) × Ends s q w
        go (inl p) = ⊎_elim (of_run p) (λ (j : q ∈ cuts_of E × Inside q (run_of E)). absurd (off (cuts_in E j.0).1)) (piece_end p e)
        go (inr (w, i, p)) = ⊎_elim (of_rest i p) (λ (j : q ∈ cuts_of E × Inside q w). absurd (off (cuts_in E j.0).1)) (piece_end p e)

    -- an end of before is one of the result
    end_stays_off : {w : Wire} → w ∈ E.wires → EndAt q w → Ended (laid_of E) w.vertical q
    end_stays_off {w} m e = ⊎_elim met (λ (f : Meets E.new w → ⊥). let t = rest_ended E m f e in ended_as (rest_stays t.among t.here) t.dir) (decide (meets_reads E.new w))
      where
        met : Meets E.new w → Ended (laid_of E) w.vertical q
        met k = let r = (reach E).met w m k in ⊎_elim
            (λ (i : Inside q (run_of E)). ⊎_elim
            (λ (o : On q E.new). absurd (off o))
            (λ (x : (r : Wire) × r ∈ E.wires × Inside q r). absurd (E.law.clean.clear q (in_marks (inl (w, m, e))) x.0 x.1 x.2))
            (inside_run E i))
            (λ (x : EndAt q (run_of E)). ended_as (run_stays x) (sym r.dir))
            (on_cases (within_on r (end_on (E.law.clean.fits w m) e.1)))

    held_off : {a b : Wire} → a ∈ laid_of E → b ∈ laid_of E → a.vertical ≡ b.vertical → Ends high q a → Ends low q b → Holds a.vertical q
    held_off {a} ma mb d x y =
        let s = old_end ma x in let t = old_end mb y in
        still (subst (λ c. HeldApart E.wires E.pads c q) s.2 (held_at E.law s.1 t.1 (s.2 ∙ d ∙ sym t.2) s.3 t.3))
      where
        still : HeldApart E.wires E.pads a.vertical q → Holds a.vertical q
        still (inr p) = inr p
        still (inl t) = inl (ended_as (end_stays_off t.among t.here) t.dir)

  -- ---- on the wire as drawn

  module _ {q : Point} (on : On q E.new) where
    -- what lies along the new wire there is of the run
    of_run : {v : Wire} → v ∈ laid_of E → v.vertical ≡ E.new.vertical → On q v → Piece (cuts_of E) (run_of E) v
    of_run {v} m d o = ⊎_elim
        (λ (p : Piece (cuts_of E) (run_of E) v). p)
        (λ (t : (w : Wire) × w ∈ rest_of E × Piece (cuts_of E) w v). absurd (rest_free E t.1 (within_meets t.2.within (on_meets on o d))))
        (laid_in E m)

    -- along it: both are pieces of the run, which was cut there at a standing joint
    held_along : {a b : Wire} → Piece (cuts_of E) (run_of E) a → Piece (cuts_of E) (run_of E) b → Ends high q a → Ends low q b → Holds a.vertical q
    held_along {a} {b} pa pb x y = ⊎_elim
        (λ (e : Ends high q (run_of E)). let k = same_dir pb.within.dir q in absurd (omega (arith, k, e.end, y.end, pb.within.to, (pb.fits (run_fits E)).long)))
        (λ (j : q ∈ cuts_of E × Inside q (run_of E)). joint j.1 (marks_in (rest_of E) (cuts_in E j.0).0))
        (piece_end pa x)
      where
        joint : Inside q (run_of E) → HasEnd q (rest_of E) ⊎ (q ∈ E.pads) → Holds a.vertical q
        joint i (inr p) = inr p
        joint i (inl h) = ⊎_elim
            (λ (d : h.0.vertical ≡ a.vertical). absurd (no_share (rest_apart E h.0 h.1) (sym pa.within.dir ∙ sym d) i (end_on (rest_fits E h.0 h.1) h.2.1)))
            (λ (t : h.0.vertical ≡ not a.vertical). inl (ended_as (rest_stays h.1 h.2) t))
            (same_or_turned h.0.vertical a.vertical)

    -- across it: the run ends or is cut there
    ended_on : Spot E q → Ended (laid_of E) (run_of E).vertical q
    unfolding lay_wire lay
    ended_on (inr e) = run_stays e
    ended_on (inl j) = cut_end (cuts_of E) (insert_new first (run_of E) (rest_of E)) (within_on (reach E).drawn on) (in_cuts E j on)

    held_on : {a b : Wire} → a ∈ laid_of E → b ∈ laid_of E → a.vertical ≡ b.vertical → Ends high q a → Ends low q b → Holds a.vertical q
    held_on {a} {b} ma mb d x y = ⊎_elim
        (λ (e : a.vertical ≡ E.new.vertical). held_along (of_run ma e (end_on (laid_fits E a ma) x)) (of_run mb (sym d ∙ e) (end_on (laid_fits E b mb) y)) x y)
        (λ (t : a.vertical ≡ not E.new.vertical). inl (ended_as (ended_on (laid_spot E ma (high, x))) (sym (reach E).drawn.dir ∙ sym (not_not E.new.vertical) ∙ ap not (sym t))))
        (same_or_turned a.vertical E.new.vertical)

  laid_anchored : (a b : Wire) → a ∈ laid_of E → b ∈ laid_of E → Follows a b → Holds a.vertical (tip high a)
  laid_anchored a b ma mb f = ⊎_elim
      (λ (o : On (tip high a) E.new). held_on o ma mb f.dir (ends_at_lem high a) (follows_end f))
      (λ (o : On (tip high a) E.new → ⊥). held_off o ma mb f.dir (ends_at_lem high a) (follows_end f))
      (decide (on_reads (tip high a) E.new))

  pub result_wired : Wired (laid_of E) E.pads
  result_wired = record { clean = record { fits = laid_fits E; order = laid_order E; clear = laid_clear E }; anchored = laid_anchored }
