-- Merging takes a clean list to one that keeps the rules, leaves such a list as it is, and may be done from the front.
use mathlib.Core.Bool.{Bool, true, false, cond, not}
use mathlib.Core.List.{List, [], ◌∷◌}
use mathlib.Core.Path.{◌≡◌, refl, sym, ap, ◌∙◌}
use mathlib.Core.Logic.{⊎_elim, ◌⊎◌, inl, inr}
use native.Mathlib.Omega.{arith}
use lib.Dec.{T}
use Rattle.lists.specs.Lists.{◌∈◌, Rows}
use Rattle.std.specs.List.{filter}
use Rattle.lists.proofs.Tests.{test, holds, choose, not_not, same_or_turned}
use Rattle.lists.proofs.Lists.{keep_old}
use Rattle.lists.proofs.Order.{rows_keep, rows_all, rows_chain}
use Rattle.symbol.specs.declared.Point.{Point}
use Rattle.sheet.specs.declared.Wire.{Wire}
use Rattle.sheet.specs.Geometry.{tip, marks, EndAt, Inside, Follows, high, Before}
use Rattle.sheet.specs.Merge.{held_apart, joins, join, glue, merge_by, merge}
use Rattle.sheet.specs.Wiring.{HeldApart, AllFit, Ended, Clean, Wired}
use Rattle.sheet.proofs.Geometry.{same_dir, ends_at_lem, HasEnd, marks_in, in_marks}
use Rattle.sheet.proofs.Before.{ends_apart, follows_next}
use Rattle.sheet.proofs.Wiring.{ended_as}
use Rattle.sheet.proofs.Held.{held_reads, joins_reads, not_joined, joins_follow, joins_join, glue_joined, glue_apart, Unjoined, merge_unjoined, merge_idle}
use Rattle.sheet.proofs.Merged.{merged, merged_kin, merged_fits, merged_order, Merged}
use Rattle.sheet.proofs.Seams.{merged_inner, merged_stay, Covered, Seam}

-- `merge_by` from the front, with a the wire still open
unfoldable pub merge_from : (Bool → Point → Bool) → Wire → List Wire → List Wire
merge_from h a [] = a ∷ []
merge_from h a (b ∷ bs) = cond (joins h a b) (merge_from h (join a b) bs) (a ∷ merge_from h b bs)

-- taking wires and pads away leaves the rest clean
pub clean_keep : (f : Wire → Bool) {ws : List Wire} {ps qs : List Point} → ((p : Point) → p ∈ qs → p ∈ ps) → Clean ws ps → Clean (filter f ws) qs
clean_keep f {ws} {ps} {qs} fewer c = record {
  fits = λ w m. c.fits w (keep_old f ws m);
  order = rows_keep f c.order;
  clear = λ p m w n. c.clear p (in_marks (⊎_elim (λ (x : HasEnd p (filter f ws)). inl (x.0, keep_old f ws x.1, x.2)) (λ (x : p ∈ qs). inr (fewer p x)) (marks_in (filter f ws) m))) w (keep_old f ws n);
}

module _ {ws : List Wire} {ps : List Point} (c : Clean ws ps) where
  merging : Merged (HeldApart ws ps) ws (merge ws ps)
  unfolding merge
  merging = merged (held_reads ws ps) ws

  order : Rows Before (merge ws ps)
  order = merged_order merging c.order

  fits : AllFit (merge ws ps)
  fits = merged_fits merging c.fits

  -- an end of a merged wire was one of a wire of its direction
  old_end : (v : Wire) → v ∈ merge ws ps → (p : Point) → EndAt p v → Ended ws v.vertical p
  old_end v m p e = let k = merged_kin merging e.0 v m in let t = same_dir k.dir p in
      record { wire = k.wire; among = k.among; dir = sym k.dir; here = (e.0, record { line = omega (arith, e.1.line, k.line); end = omega (arith, e.1.end, k.end) }) }

  clear : (p : Point) → p ∈ marks (merge ws ps) ps → (w : Wire) → w ∈ merge ws ps → Inside p w → ⊥
  clear p j w m i = go (marks_in (merge ws ps) j) (merged_inner merging w m p i)
    where
      ended : (x : HasEnd p (merge ws ps)) → Ended ws x.0.vertical p
      ended x = old_end x.0 x.1 p x.2

      go : HasEnd p (merge ws ps) ⊎ (p ∈ ps) → Covered ws w.vertical p ⊎ Seam (HeldApart ws ps) ws w.vertical p → ⊥
      go (inl x) (inl t) = let k = ended x in c.clear p (in_marks (inl (k.wire, k.among, k.here))) t.wire t.among t.here
      go (inl x) (inr f) = ⊎_elim
          (λ (d : x.0.vertical ≡ w.vertical). ends_apart order fits x.1 m d x.2 i)
          (λ (d : x.0.vertical ≡ not w.vertical). let k = ended x in f.free (inl (ended_as k d)))
          (same_or_turned x.0.vertical w.vertical)
      go (inr x) (inl t) = c.clear p (in_marks (inr x)) t.wire t.among t.here
      go (inr x) (inr f) = f.free (inr x)

  -- what held two wires apart still does: at their point an end of the other direction is no seam
  still_held : {d : Bool} {p : Point} → Ended ws d p → HeldApart ws ps d p → HeldApart (merge ws ps) ps d p
  still_held k (inr m) = inr m
  still_held {d} {p} k (inl t) = ⊎_elim
      (λ (s : Ended (merge ws ps) t.wire.vertical p). inl (ended_as s t.dir))
      (λ (s : Seam (HeldApart ws ps) ws t.wire.vertical p). absurd (s.free (inl (ended_as k (sym (not_not d) ∙ ap not (sym t.dir))))))
      (merged_stay merging t.wire t.among p t.here)

  anchored : (a b : Wire) → a ∈ merge ws ps → b ∈ merge ws ps → Follows a b → HeldApart (merge ws ps) ps a.vertical (tip high a)
  anchored a b m n e = still_held (old_end a m (tip high a) (high, ends_at_lem high a)) (not_joined (held_reads ws ps) (follows_next order fits unjoined a b m n e) e)
    where
      unjoined : Unjoined (held_apart ws ps) (merge ws ps)
      unjoined = unfold merge in merge_unjoined (held_apart ws ps) ws

  pub merge_wired : Wired (merge ws ps) ps
  merge_wired = record { clean = record { fits = fits; order = order; clear = clear }; anchored = anchored }

pub merge_same : {ws : List Wire} {ps : List Point} → Wired ws ps → merge ws ps ≡ ws
unfolding merge
merge_same {ws} {ps} l = merge_idle (held_apart ws ps) (rows_chain (rows_all l.clean.order (λ a b m n o t. let k = holds (joins_reads (held_reads ws ps) a b) t in k.1 (l.anchored a b m n k.0))))

-- merging once is enough
pub merge_again : {ws : List Wire} {ps : List Point} → Clean ws ps → merge (merge ws ps) ps ≡ merge ws ps
merge_again c = merge_same (merge_wired c)

-- ---- merging from the front, as a loop does it, with the wire still open at hand

module _ (h : Bool → Point → Bool) where
  glue_join : (a b : Wire) (ms : List Wire) → T (joins h a b) → glue h (join a b) ms ≡ glue h a (glue h b ms)
  unfolding glue
  glue_join a b [] t = sym (glue_joined h a b [] t)
  glue_join a b (c ∷ cs) t = ap (λ z. cond z (join (join a b) c ∷ cs) (join a b ∷ c ∷ cs)) (joins_join h c (joins_follow h t)) ∙ rest (joins h b c)
    where
      rest : (y : Bool) → cond y (join (join a b) c ∷ cs) (join a b ∷ c ∷ cs) ≡ glue h a (cond y (join b c ∷ cs) (b ∷ c ∷ cs))
      rest true = sym (glue_joined h a (join b c) cs (unfold joins in t))
      rest false = sym (glue_joined h a b (c ∷ cs) t)

  glue_next : (a b : Wire) (ms : List Wire) → (T (joins h a b) → ⊥) → a ∷ glue h b ms ≡ glue h a (glue h b ms)
  unfolding glue
  glue_next a b [] f = sym (glue_apart h a b [] f)
  glue_next a b (c ∷ cs) f = rest (joins h b c)
    where
      rest : (y : Bool) → a ∷ cond y (join b c ∷ cs) (b ∷ c ∷ cs) ≡ glue h a (cond y (join b c ∷ cs) (b ∷ c ∷ cs))
      rest true = sym (glue_apart h a (join b c) cs (unfold joins in f))
      rest false = sym (glue_apart h a b (c ∷ cs) f)

  pub merge_forward : (a : Wire) (bs : List Wire) → merge_from h a bs ≡ merge_by h (a ∷ bs)
  unfolding merge_from merge_by glue
  merge_forward a [] = refl
  merge_forward a (b ∷ bs) = choose (test (joins h a b)) (λ l. l ≡ glue h a (glue h b (merge_by h bs)))
      (λ t. merge_forward (join a b) bs ∙ glue_join a b (merge_by h bs) t)
      (λ n. ap {B = List Wire} (λ l. a ∷ l) (merge_forward b bs) ∙ glue_next a b (merge_by h bs) n)
