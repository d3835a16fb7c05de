-- Components: which touch, how many pads they have, and what another orientation leaves as it was.
use Prim.Native.Nat.{ℕ, zero, suc, ◌≤◌, ◌<◌}
use mathlib.Core.Path.{◌≡◌, subst, sym}
use native.Mathlib.Omega.{arith}
use lib.Dec.{T}
use lib.ListN.{length, length-map}
use Rattle.lists.proofs.Tests.{Reads, holds}
use Rattle.orientation.specs.Orientations.{eighth, turn_by, mirrors}
use Rattle.symbol.specs.Symbols.{bounds_at, moved_of, pads_at}
use Rattle.symbol.proofs.Boxes.{within, own_box, common_touches, mirror_box}
use Rattle.sheet.specs.declared.Component.{Component}
use Rattle.sheet.specs.Boxes.{Shares}
use Rattle.sheet.specs.Parts.{position, box, pads, touches, PartFits, reoriented, mirrored}
use Rattle.sheet.proofs.Boxes.{shares_reads}

pub touches_reads : (b c : Component) → Reads (Shares (box b) (box c)) (touches b c)
unfolding touches
touches_reads b c = shares_reads (box b) (box c)

-- a component stands in its own box, so two at one position touch
pub near : (b c : Component) → PartFits b → PartFits c → position b ≡ position c → Shares (box b) (box c)
unfolding box
near b c f g e =
    holds (shares_reads (box b) (box c))
    (common_touches (box b) (box c) (position c) (subst (λ p. T (within p (box b))) e (own_box b.kind b.orientation b.x b.y f.orientation)) (own_box c.kind c.orientation c.x c.y g.orientation))

-- a component has as many pads as its kind
pub pads_by_kind : (c : Component) → length (pads c) ≡ length (pads_at c.kind)
unfolding pads
pads_by_kind c = length-map (pads_at c.kind) (moved_of (eighth c.orientation) c.x c.y)

pub length_pads : (c : Component) → length (pads c) ≤ 3
length_pads c = omega (arith, pads_by_kind c, at_most c.kind)
  where
    at_most : (k : ℕ) → length (pads_at k) ≤ 3
    at_most zero = omega arith
    at_most (suc zero) = omega arith
    at_most (suc (suc k)) = omega arith

pub reoriented_fits : (f : ℕ → ℕ) → ((n : ℕ) → n < 8 → f n < 8) → (c : Component) → PartFits c → PartFits (reoriented f c)
reoriented_fits f k c t = record { kind = t.kind; orientation = k c.orientation t.orientation; x = t.x; y = t.y; label = t.label }

-- a contact's box is symmetric
pub mirrored_box : (c : Component) → c.kind ≡ 1 → PartFits c → box (mirrored c) ≡ box c
unfolding box
mirrored_box c e f =
    let n = c.orientation in
    subst (λ k. bounds_at k (eighth (turn_by mirrors n)) c.x c.y ≡ bounds_at k (eighth n) c.x c.y) (sym e) (mirror_box n c.x c.y f.orientation)
