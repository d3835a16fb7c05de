-- What a merge is, row by row, and that it keeps lines, limits and row order.
use Prim.Native.Nat.{◌≤◌}
use mathlib.Core.Bool.{Bool}
use mathlib.Core.List.Memᴰ.{head as ∈-head}
use mathlib.Core.List.Memᴰ.{not-nil as ∈-nil}
use mathlib.Core.List.Memᴰ.{tail as ∈-tail}
use mathlib.Core.List.{List, [], ◌∷◌}
use mathlib.Core.Path.{◌≡◌, refl, ◌∙◌}
use native.Mathlib.Omega.{arith}
use lib.ListN.{length}
use Rattle.lists.specs.Lists.{◌∈◌, Rows, none, more}
use Rattle.lists.proofs.Tests.{choose, Reads}
use Rattle.lists.proofs.Lists.{in_cons}
use Rattle.lists.proofs.Order.{rows_head, rows_tail}
use Rattle.symbol.specs.declared.Point.{Point}
use Rattle.sheet.specs.declared.Wire.{Wire}
use Rattle.sheet.specs.Geometry.{at, tip, Follows, Side, low, high, Before}
use Rattle.sheet.specs.Merge.{join, glue, merge_by}
use Rattle.sheet.specs.Wiring.{AllFit, Fits}
use Rattle.sheet.proofs.Before.{before_like}
use Rattle.sheet.proofs.Held.{joins_reads}

-- what keeps wires of a direction apart at a point
abbrev pub Keeps : Type 1
Keeps = Bool → Point → Type 0

-- ms is ws, each wire alone or joined to the next one, where that goes on in line and H does not keep them apart
pub data Merged (H : Keeps) : List Wire → List Wire → Type 0 where
  nothing : Merged H [] []
  alone : {w : Wire} {ws ms : List Wire} → Merged H ws ms → Merged H (w ∷ ws) (w ∷ ms)
  onto : {w b : Wire} {ws bs : List Wire} → Follows w b → (H w.vertical (tip high w) → ⊥) → Merged H ws (b ∷ bs) → Merged H (w ∷ ws) (join w b ∷ bs)

module _ {H : Keeps} {h : Bool → Point → Bool} (r : (d : Bool) (p : Point) → Reads (H d p) (h d p)) where
  glued : (w : Wire) {ws : List Wire} (ms : List Wire) → Merged H ws ms → Merged H (w ∷ ws) (glue h w ms)
  unfolding glue
  glued w [] j = alone j
  glued w {ws} (b ∷ bs) j = choose (joins_reads r w b) (Merged H (w ∷ ws)) (λ t. onto t.0 t.1 j) (λ n. alone j)

  pub merged : (ws : List Wire) → Merged H ws (merge_by h ws)
  unfolding merge_by
  merged [] = nothing
  merged (w ∷ ws) = glued w (merge_by h ws) (merged ws)

-- ---- lines and ends

-- u's end of that side is an end of a wire of the list, on u's line
pub record Kin (s : Side) (ws : List Wire) (u : Wire) : Type 0 where
  pub wire : Wire
  pub among : wire ∈ ws
  pub dir : u.vertical ≡ wire.vertical
  pub line : u.line ≡ wire.line
  pub end : at s u ≡ at s wire

first_kin : {s : Side} {w : Wire} {ws : List Wire} → Kin s (w ∷ ws) w
first_kin {w} = record { wire = w; among = ∈-head refl; dir = refl; line = refl; end = refl }

later_kin : {s : Side} {v w : Wire} {ws : List Wire} → Kin s ws v → Kin s (w ∷ ws) v
later_kin k = record { wire = k.wire; among = ∈-tail k.among; dir = k.dir; line = k.line; end = k.end }

join_kin : (s : Side) {w b : Wire} {ws : List Wire} → Follows w b → Kin s ws b → Kin s (w ∷ ws) (join w b)
join_kin low {w} e k = record { wire = w; among = ∈-head refl; dir = refl; line = refl; end = refl }
join_kin high e k = record { wire = k.wire; among = ∈-tail k.among; dir = e.dir ∙ k.dir; line = e.line ∙ k.line; end = k.end }

module _ {H : Keeps} where
  pub merged_kin : {ws ms : List Wire} → Merged H ws ms → (s : Side) (u : Wire) → u ∈ ms → Kin s ws u
  merged_kin nothing s u m = absurd (∈-nil m)
  merged_kin (alone {w} {ws} j) s u m = in_cons (Kin s (w ∷ ws)) first_kin (λ z k. later_kin (merged_kin j s z k)) m
  merged_kin (onto {w} {b} {ws} e f j) s u m = in_cons (Kin s (w ∷ ws)) (join_kin s e (merged_kin j s b (∈-head refl))) (λ z k. later_kin (merged_kin j s z (∈-tail k))) m

  pub merged_fits : {ws ms : List Wire} → Merged H ws ms → AllFit ws → AllFit ms
  merged_fits nothing fits = fits
  merged_fits (alone {w} j) fits = λ u m. in_cons Fits (fits w (∈-head refl)) (merged_fits j (λ z k. fits z (∈-tail k))) m
  merged_fits (onto {w} {b} e f j) fits =
      let later = merged_fits j (λ z k. fits z (∈-tail k)) in
      let a = fits w (∈-head refl) in
      let c = later b (∈-head refl) in
      λ u m. in_cons Fits (record { line = a.line; long = omega (arith, a.long, c.long, e.end); end = c.end }) (λ z k. later z (∈-tail k)) m

  pub merged_order : {ws ms : List Wire} → Merged H ws ms → Rows Before ws → Rows Before ms
  merged_order nothing none = none
  merged_order (alone {w} j) (more h s) = more (λ u m. let k = merged_kin j low u m in before_like {a = w} {a' = w} refl refl (omega arith) k.dir k.line (omega (arith, k.end)) (h k.wire k.among)) (merged_order j s)
  merged_order (onto {w} {b} e f j) (more h s) = let o = merged_order j s in more (λ u m. before_like {a' = join w b} e.dir e.line (omega arith) refl refl (omega arith) (rows_head o u m)) (rows_tail o)

  pub merged_no_longer : {ws ms : List Wire} → Merged H ws ms → length ms ≤ length ws
  merged_no_longer nothing = omega arith
  merged_no_longer (alone j) = omega (arith, merged_no_longer j)
  merged_no_longer (onto e f j) = omega (arith, merged_no_longer j)
