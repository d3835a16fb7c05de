-- Pads that split the wires under them keep the rules.
use mathlib.Core.List.Memᴰ.{append_cases as ∈-append}
use mathlib.Core.List.Memᴰ.{append_left as ∈-left}
use mathlib.Core.List.Memᴰ.{append_right as ∈-right}
use mathlib.Core.List.{List, ◌++◌}
use mathlib.Core.Path.{sym, subst, ◌∙◌}
use mathlib.Core.Logic.{⊎_elim, ◌⊎◌, inl, inr}
use Rattle.lists.specs.Lists.{◌∈◌}
use Rattle.symbol.specs.declared.Point.{Point}
use Rattle.sheet.specs.declared.Wire.{Wire}
use Rattle.sheet.specs.Geometry.{tip, marks, Ends, Inside, Follows, low, high}
use Rattle.sheet.specs.Split.{split_all}
use Rattle.sheet.specs.Wiring.{HeldApart, Wired}
use Rattle.sheet.proofs.Geometry.{ends_at_lem, HasEnd, marks_in, in_marks}
use Rattle.sheet.proofs.Wiring.{follows_end, ended_as, held_at}
use Rattle.sheet.proofs.Pieces.{within_inside, piece_end, Piece}
use Rattle.sheet.proofs.Split.{all_from, all_clean, all_order, end_stays}

module _ (new : List Point) {ws : List Wire} {ps : List Point} (law : Wired ws ps) where
  -- a wire end or pad of the result is a new pad, or was one
  old_mark : {q : Point} → q ∈ marks (split_all new ws) (new ++ ps) → (q ∈ new) ⊎ (q ∈ marks ws ps)
  old_mark {q} m = ⊎_elim
      (λ (h : HasEnd q (split_all new ws)). let t = all_from new h.1 in ⊎_elim (λ (e : Ends h.2.0 q t.0). inr (in_marks (inl (t.0, t.1, (h.2.0, e))))) (λ (x : q ∈ new × Inside q t.0). inl x.0) (piece_end t.2 h.2.1))
      (λ (k : q ∈ new ++ ps). ⊎_elim inl (λ (x : q ∈ ps). inr (in_marks (inr x))) (∈-append new k))
      (marks_in (split_all new ws) m)

  clear : (q : Point) → q ∈ marks (split_all new ws) (new ++ ps) → (v : Wire) → v ∈ split_all new ws → Inside q v → ⊥
  clear q j v m i = ⊎_elim
      (λ (x : q ∈ new). all_clean new ws m x i)
      (λ (x : q ∈ marks ws ps). let t = all_from new m in law.clean.clear q x t.0 t.1 (within_inside t.2.within i))
      (old_mark j)

  anchored : (a b : Wire) → a ∈ split_all new ws → b ∈ split_all new ws → Follows a b → HeldApart (split_all new ws) (new ++ ps) a.vertical (tip high a)
  anchored a b ma mb f = go (piece_end ta.2 (ends_at_lem high a)) (piece_end tb.2 (follows_end f))
    where
      ta : (w : Wire) × w ∈ ws × Piece new w a
      ta = all_from new ma

      tb : (w : Wire) × w ∈ ws × Piece new w b
      tb = all_from new mb

      move : HeldApart ws ps a.vertical (tip high a) → HeldApart (split_all new ws) (new ++ ps) a.vertical (tip high a)
      move (inr m) = inr (∈-right new m)
      move (inl r) = let s = end_stays new (law.clean.fits r.wire r.among) r.among r.here in inl (ended_as s r.dir)

      go : Ends high (tip high a) ta.0 ⊎ (tip high a ∈ new × Inside (tip high a) ta.0) → Ends low (tip high a) tb.0 ⊎ (tip high a ∈ new × Inside (tip high a) tb.0) → HeldApart (split_all new ws) (new ++ ps) a.vertical (tip high a)
      go (inr x) y = inr (∈-left ps x.0)
      go (inl x) (inr y) = inr (∈-left ps y.0)
      go (inl x) (inl y) = move (subst (λ d. HeldApart ws ps d (tip high a)) (sym ta.2.within.dir) (held_at law ta.1 tb.1 (sym ta.2.within.dir ∙ f.dir ∙ tb.2.within.dir) x y))

  pub split_wired : Wired (split_all new ws) (new ++ ps)
  split_wired = record { clean = record { fits = λ v m. let t = all_from new m in t.2.fits (law.clean.fits t.0 t.1); order = all_order new law.clean.order; clear = clear }; anchored = anchored }
