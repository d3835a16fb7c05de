-- What a merge does to points: the seams are no longer ends and lie inside a wire, and all else is as it was.
use Prim.Native.Nat.{◌<◌}
use mathlib.Core.Bool.{Bool}
use mathlib.Core.List.Memᴰ.{head as ∈-head}
use mathlib.Core.List.Memᴰ.{not-nil as ∈-nil}
use mathlib.Core.List.Memᴰ.{tail as ∈-tail}
use mathlib.Core.List.{List, ◌∷◌}
use mathlib.Core.Path.{◌≡◌, refl, sym, subst, ◌∙◌}
use mathlib.Core.Logic.{⊎_elim, ◌⊎◌, inl, inr}
use native.Mathlib.Omega.{arith}
use Rattle.lists.specs.Lists.{◌∈◌}
use Rattle.lists.proofs.Tests.{compare}
use Rattle.lists.proofs.Lists.{in_cons}
use Rattle.symbol.specs.declared.Point.{Point}
use Rattle.sheet.specs.declared.Wire.{Wire}
use Rattle.sheet.specs.Geometry.{along, tip, EndAt, Ends, Inside, Follows, Side, low, high}
use Rattle.sheet.specs.Merge.{join}
use Rattle.sheet.specs.Wiring.{Ended}
use Rattle.sheet.proofs.Geometry.{same_dir, ends_is}
use Rattle.sheet.proofs.Merged.{Keeps, merged_kin, Merged, nothing, alone, onto}

-- ---- inner points

-- p lies strictly inside a wire of direction d
pub record Covered (ws : List Wire) (d : Bool) (p : Point) : Type 0 where
  pub wire : Wire
  pub among : wire ∈ ws
  pub dir : wire.vertical ≡ d
  pub here : Inside p wire

-- two wires of direction d go on in line at p, and H does not keep them apart
pub record Seam (H : Keeps) (ws : List Wire) (d : Bool) (p : Point) : Type 0 where
  pub one : Wire
  pub next : Wire
  pub among : one ∈ ws
  pub among' : next ∈ ws
  pub meet : Follows one next
  pub dir : one.vertical ≡ d
  pub here : Ends high p one
  pub free : H d p → ⊥

module _ {H : Keeps} where
  later_seam : {w : Wire} {ws : List Wire} {d : Bool} {p : Point} → Seam H ws d p → Seam H (w ∷ ws) d p
  later_seam c = record { one = c.one; next = c.next; among = ∈-tail c.among; among' = ∈-tail c.among'; meet = c.meet; dir = c.dir; here = c.here; free = c.free }

  later_inner : {w : Wire} {ws : List Wire} {d : Bool} {p : Point} → Covered ws d p ⊎ Seam H ws d p → Covered (w ∷ ws) d p ⊎ Seam H (w ∷ ws) d p
  later_inner (inl c) = inl (record { wire = c.wire; among = ∈-tail c.among; dir = c.dir; here = c.here })
  later_inner (inr t) = inr (later_seam t)

  -- where w is joined to what follows there is a seam
  seam : {w b : Wire} {ws bs : List Wire} → Follows w b → (H w.vertical (tip high w) → ⊥) → Merged H ws (b ∷ bs) → {p : Point} → Ends high p w → Seam H (w ∷ ws) w.vertical p
  seam {w} {b} e f j g = let k = merged_kin j low b (∈-head refl) in record {
    one = w;
    next = k.wire;
    among = ∈-head refl;
    among' = ∈-tail k.among;
    meet = record { dir = e.dir ∙ k.dir; line = e.line ∙ k.line; end = e.end ∙ k.end };
    dir = refl;
    here = g;
    free = λ x. f (subst (H w.vertical) (ends_is g) x);
  }

  -- what lies inside a merged wire lay inside a wire, or at a seam
  pub merged_inner : {ws ms : List Wire} → Merged H ws ms → (u : Wire) → u ∈ ms → (p : Point) → Inside p u → Covered ws u.vertical p ⊎ Seam H ws u.vertical p
  merged_inner nothing u m p = absurd (∈-nil m)
  merged_inner (alone {w} {ws} j) u m p =
      in_cons (λ z. Inside p z → Covered (w ∷ ws) z.vertical p ⊎ Seam H (w ∷ ws) z.vertical p) (λ i. inl (record { wire = w; among = ∈-head refl; dir = refl; here = i })) (λ z k i. later_inner (merged_inner j z k p i)) m
  merged_inner (onto {w} {b} {ws} e f j) u m p =
      in_cons (λ z. Inside p z → Covered (w ∷ ws) z.vertical p ⊎ Seam H (w ∷ ws) z.vertical p)
      (λ i. ⊎_elim
      (λ (l : along w.vertical p < w.end). inl (record { wire = w; among = ∈-head refl; dir = refl; here = record { line = i.line; from = i.from; to = l } }))
      (⊎_elim
      (λ (l : along w.vertical p ≡ w.end). inr (seam e f j (record { line = i.line; end = sym l })))
      (λ (l : w.end < along w.vertical p). let k = same_dir e.dir p in
      subst (λ d. Covered (w ∷ ws) d p ⊎ Seam H (w ∷ ws) d p) (sym e.dir) (later_inner (merged_inner j b (∈-head refl) p (record { line = omega (arith, i.line, e.line); from = omega (arith, e.end); to = omega (arith, i.to) })))))
      (compare (along w.vertical p) w.end))
      (λ z k i. later_inner (merged_inner j z (∈-tail k) p i)) m

-- ---- ends that stay

later_end : {w : Wire} {ws : List Wire} {d : Bool} {p : Point} → Ended ws d p → Ended (w ∷ ws) d p
later_end t = record { wire = t.wire; among = ∈-tail t.among; dir = t.dir; here = t.here }

module _ {H : Keeps} where
  module _ {w b : Wire} {ws bs : List Wire} (e : Follows w b) (f : H w.vertical (tip high w) → ⊥) (j : Merged H ws (b ∷ bs)) where
    -- the ends of w, and of b and the rows behind it, but for the seam
    stay_joined : (p : Point) (s : Side) → Ends s p w → Ended (join w b ∷ bs) w.vertical p ⊎ Seam H (w ∷ ws) w.vertical p
    stay_joined p low g = inl (record { wire = join w b; among = ∈-head refl; dir = refl; here = (low, record { line = g.line; end = g.end }) })
    stay_joined p high g = inr (seam e f j g)

    stay_behind : {d : Bool} {p : Point} → Ended (b ∷ bs) d p → Ended (join w b ∷ bs) d p ⊎ Seam H (w ∷ ws) d p
    stay_behind {d} {p} t = in_cons (λ z. z.vertical ≡ d → EndAt p z → Ended (join w b ∷ bs) d p ⊎ Seam H (w ∷ ws) d p)
        (λ x g. here x g.0 g.1)
        (λ z k x g. inl (record { wire = z; among = ∈-tail k; dir = x; here = g }))
        t.among t.dir t.here
      where
        here : b.vertical ≡ d → (s : Side) → Ends s p b → Ended (join w b ∷ bs) d p ⊎ Seam H (w ∷ ws) d p
        here x low g = let k = same_dir e.dir p in inr (subst (λ c. Seam H (w ∷ ws) c p) (e.dir ∙ x) (seam e f j (record { line = omega (arith, e.line, g.line); end = omega (arith, e.end, g.end) })))
        here x high g = let k = same_dir e.dir p in inl (record { wire = join w b; among = ∈-head refl; dir = e.dir ∙ x; here = (high, record { line = omega (arith, e.line, g.line); end = omega (arith, g.end) }) })

  -- an end of a wire is an end of a merged one of its direction, or a seam
  pub merged_stay : {ws ms : List Wire} → Merged H ws ms → (w : Wire) → w ∈ ws → (p : Point) → EndAt p w → Ended ms w.vertical p ⊎ Seam H ws w.vertical p
  merged_stay nothing v m p = absurd (∈-nil m)
  merged_stay (alone {w} {ws} {ms} j) v m p = in_cons (λ z. EndAt p z → Ended (w ∷ ms) z.vertical p ⊎ Seam H (w ∷ ws) z.vertical p)
      (λ g. inl (record { wire = w; among = ∈-head refl; dir = refl; here = g }))
      (λ z k g. ⊎_elim (λ (t : Ended ms z.vertical p). inl (later_end t)) (λ (t : Seam H ws z.vertical p). inr (later_seam t)) (merged_stay j z k p g)) m
  merged_stay (onto {w} {b} {ws} {bs} e f j) v m p = in_cons (λ z. EndAt p z → Ended (join w b ∷ bs) z.vertical p ⊎ Seam H (w ∷ ws) z.vertical p)
      (λ g. stay_joined e f j p g.0 g.1)
      (λ z k g. ⊎_elim (stay_behind e f j) (λ (t : Seam H ws z.vertical p). inr (later_seam t)) (merged_stay j z k p g)) m
