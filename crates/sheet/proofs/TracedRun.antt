-- A wire drawn over wires that are there: the wires that it does not meet stay whole, and its run lies on the others and is cut where one of
-- them ends.
use Prim.Native.Nat.{ℕ, ◌≤◌, ◌<◌}
use mathlib.Core.Bool.{not}
use mathlib.Core.List.Memᴰ.{cast as ∈-cast}
use mathlib.Core.Path.{◌≡◌, sym, ap, subst, ◌∙◌}
use mathlib.Core.Logic.{⊎_elim, ◌⊎◌, inl, inr}
use native.Mathlib.Omega.{arith}
use Rattle.lists.specs.Lists.{◌∈◌}
use Rattle.lists.proofs.Tests.{decide, leb_reads, ltb_reads, same_or_turned, not_turned}
use Rattle.lists.proofs.Order.{rows_two}
use Rattle.symbol.specs.declared.Point.{Point}
use Rattle.sheet.specs.declared.Wire.{Wire}
use Rattle.sheet.specs.Geometry.{tip, tips, marks, Inside, Meets, Follows, Before, low, high}
use Rattle.sheet.specs.Wiring.{Ended}
use Rattle.sheet.specs.LiesOn.{LiesOn}
use Rattle.sheet.proofs.Geometry.{On, same_dir, ends_at_lem, ends_is, end_on, tips_in, HasEnd, marks_in, in_marks}
use Rattle.sheet.proofs.Before.{before_line}
use Rattle.sheet.proofs.Pieces.{Cut, Within, piece_uncut}
use Rattle.sheet.proofs.Reach.{Reached, on_meets}
use Rattle.sheet.proofs.Rest.{run_of, rest_of, reach, rest_in, rest_ended, Draws}
use Rattle.sheet.proofs.Laid.{cuts_of, cuts_in, in_cuts}
use Rattle.sheet.proofs.LaidClear.{inside_run}

module _ (E : Draws) (T : LiesOn E.wires E.new) where
  -- ---- the wires that are kept stay whole

  pub kept_whole : {k : Wire} → k ∈ E.wires → (Meets E.new k → ⊥) → (q : Point) → q ∈ tips E.new → Inside q k → ⊥
  kept_whole {k} m f q j i = let e = tips_in j in
      ⊎_elim
      (λ (d : k.vertical ≡ E.new.vertical). f (on_meets (end_on E.fit e.1) (record { line = i.line; from = omega (arith, i.from); to = omega (arith, i.to) }) d))
      (λ (d : k.vertical ≡ not E.new.vertical). T.off_crossings e.0 k m d (subst (λ p. Inside p k) (ends_is e.1) i))
      (same_or_turned k.vertical E.new.vertical)

  pub rest_row : {v : Wire} → v ∈ rest_of E → v ∈ E.wires
  rest_row n = let t = rest_in E n in ∈-cast (piece_uncut t.3 (kept_whole t.1 t.2)) t.1

  -- so the run is cut at joints that stood before, and none of them lies inside a wire
  cut_old : {q : Point} → q ∈ cuts_of E → q ∈ marks E.wires E.pads
  cut_old {q} j = ⊎_elim (λ (h : HasEnd q (rest_of E)). in_marks (inl (h.0, rest_row h.1, h.2))) (λ (p : q ∈ E.pads). in_marks (inr p)) (marks_in (rest_of E) (cuts_in E j).0)

  pub uncut : {w : Wire} → w ∈ E.wires → {b : ℕ} → Within (run_of E) w → Cut (cuts_of E) (run_of E) b → w.start < b → b < w.end → ⊥
  uncut {w} m k (q, j, i, e) x y = let d = same_dir k.dir q in
      E.law.clean.clear q (cut_old j) w m (record { line = omega (arith, d, k.line, i.line); from = omega (arith, d); to = omega (arith, d) })

  -- ---- the run lies on wires too

  -- a wire over the stretch from a to a + 1
  abbrev pub Under : ℕ → Type 0
  Under a = (w : Wire) × w ∈ E.wires × Within (run_of E) w × (w.start ≤ a) × (a < w.end)

  pub under : (a : ℕ) → (run_of E).start ≤ a → a < (run_of E).end → Under a
  under a x y = go (decide (leb_reads E.new.start a)) (decide (ltb_reads a E.new.end)) ((reach E).tip low) ((reach E).tip high)
    where
      met : {w : Wire} → w ∈ E.wires → Meets E.new w → w.start ≤ a → a < w.end → Under a
      met {w} m t u v = (w, m, (reach E).met w m t, u, v)

      go : (E.new.start ≤ a) ⊎ (E.new.start ≤ a → ⊥) → (a < E.new.end) ⊎ (a < E.new.end → ⊥) → Reached E.new E.wires (run_of E) low → Reached E.new E.wires (run_of E) high → Under a
      go (inl u) (inl v) s e = let k = T.covered a u v in let c = k.2 in met k.1 (record { dir = sym c.dir; line = sym c.line; from = omega (arith, c.from); to = omega (arith, c.to) }) c.from c.to
      go (inr u) v (inl f) e = absurd (omega arith)
      go (inr u) v (inr t) e = met t.1 t.2 (omega (arith, t.3)) (omega (arith, t.2.to))
      go (inl u) (inr v) s (inl f) = absurd (omega arith)
      go (inl u) (inr v) s (inr t) = met t.1 t.2 (omega (arith, t.2.from)) (omega (arith, t.3))

  -- where a wire ends short of the run's end, another one goes on, and the run is cut
  pub seam : {w : Wire} → w ∈ E.wires → Within (run_of E) w → w.start < w.end → w.end < (run_of E).end → tip high w ∈ cuts_of E
  seam {w} m k l x = in_cuts E standing on
    where
      q : Point
      q = tip high w

      next : Under w.end
      next = under w.end (omega (arith, k.from)) x

      follows : Follows w next.0
      follows =
          let j = next.2 in
          let d = k.dir ∙ sym j.dir in
          let e = k.line ∙ sym j.line in
          record {
            dir = d;
            line = e;
            end = ⊎_elim
                (λ (f : w ≡ next.0). absurd (omega (arith, ap (λ (v : Wire). v.end) f, next.4)))
                (⊎_elim (λ (f : Before w next.0). omega (arith, before_line f d e, next.3)) (λ (f : Before next.0 w). absurd (omega (arith, before_line f (sym d) (sym e), next.4))))
                (rows_two E.law.clean.order m next.1);
          }

      standing : q ∈ marks (rest_of E) E.pads
      standing = ⊎_elim
          (λ (h : Ended E.wires (not w.vertical) q).
          let r = rest_ended E h.among (λ t. not_turned w.vertical (k.dir ∙ sym (reach E).drawn.dir ∙ t.dir ∙ h.dir)) h.here in
          in_marks (inl (r.wire, r.among, r.here)))
          (λ (h : q ∈ E.pads). in_marks (inr h))
          (E.law.anchored w next.0 m next.1 follows)

      on : On q E.new
      on =
          let e = ends_at_lem high w in
          let d = same_dir k.dir q in
          ⊎_elim
          (λ (o : On q E.new). o)
          (λ (t : (r : Wire) × r ∈ E.wires × Inside q r). absurd (E.law.clean.clear q (in_marks (inl (w, m, (high, e)))) t.0 t.1 t.2))
          (inside_run E (record { line = omega (arith, d, e.line, k.line); from = omega (arith, d, e.end, k.from); to = omega (arith, d, e.end) }))
