-- The test of rule 1 part by part, and what it tells the later rules.
use Prim.Native.Nat.{◌≤◌}
use mathlib.Core.Bool.{true, ◌&&◌}
use mathlib.Core.Path.{◌≡◌, sym, subst}
use lib.Dec.{T}
use Rattle.lists.specs.Lists.{◌∈◌}
use Rattle.lists.proofs.Tests.{both, holds, and_reads, leb_reads}
use Rattle.lists.proofs.Lists.{all_reads}
use Rattle.sheet.specs.declared.Component.{Component}
use Rattle.sheet.specs.declared.Drawing.{Drawing}
use Rattle.sheet.specs.Parts.{PartFits}
use Rattle.sheet.specs.Drawings.{lists_of}
use Rattle.sheet.specs.Wiring.{AllFit}
use Rattle.limits.specs.Limits.{rooms, blanks, limits, check1}
use Rattle.limits.proofs.Decides.{fits_reads, component_reads}

pub record InRooms (d : Drawing) : Type 0 where
  pub wires : d.wires.count ≤ 512
  pub components : d.components.count ≤ 128
  pub joints : d.joints.count ≤ 1408

pub in_rooms : (d : Drawing) → rooms d ≡ true → InRooms d
unfolding rooms
in_rooms d e =
    let t = holds (and_reads (leb_reads d.wires.count 512) (and_reads (leb_reads d.components.count 128) (leb_reads d.joints.count 1408))) (subst T (sym e) tt) in
    record { wires = t.0; components = t.1.0; joints = t.1.1 }

-- ---- what a passed test tells

pub counts_fit : (d : Drawing) → check1 d ≡ true → InRooms d
unfolding check1
counts_fit d e = in_rooms d (both (rooms d) (blanks d && limits d) e).0

rows_fit : (d : Drawing) → check1 d ≡ true → AllFit (lists_of d).wires × ((c : Component) → c ∈ (lists_of d).parts → PartFits c)
unfolding check1 limits
rows_fit d e =
    let t = (both (blanks d) (limits d) (both (rooms d) (blanks d && limits d) e).1).1 in
    holds (and_reads (all_reads fits_reads (lists_of d).wires) (all_reads component_reads (lists_of d).parts)) (subst T (sym t) tt)

pub wires_fit : (d : Drawing) → check1 d ≡ true → AllFit (lists_of d).wires
wires_fit d e = (rows_fit d e).0

pub components_fit : (d : Drawing) → check1 d ≡ true → (c : Component) → c ∈ (lists_of d).parts → PartFits c
components_fit d e = (rows_fit d e).1
