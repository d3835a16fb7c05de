-- What a caller asks for, as rows hold it, or the refusal that what is asked alone decides (`Replies`).
use Rattle.std.specs.Prelude.{ℕ, Bool, ℤ, Result}
use Rattle.edge.specs.Coordinates.{biased, to_ℕ}
use Rattle.label.specs.declared.Label.{Label}
use Rattle.label.specs.Labels.{held_label}
use Rattle.symbol.specs.declared.Point.{Point}
use Rattle.symbol.specs.Symbols.{unused}
use Rattle.symbol.specs.Replies.{granted, wire_reply, pointer_reply, component_reply}
use Rattle.sheet.specs.declared.Wire.{Wire}
use Rattle.sheet.specs.declared.Component.{Component}
use Rattle.sheet.specs.Drawings.{zero_wire, zero_component}
use Rattle.refusal.specs.declared.Refusal.{Refusal}
use Rattle.refusal.specs.Numbers.{answered}
use Rattle.asked.specs.declared.Pointer.{Pointer}

-- ---- a wire

-- a wire as rows hold it: each coordinate 6,000 more
abbrev pub wire_at : Bool → ℤ → ℤ → ℤ → Wire
wire_at vertical line start end = record { vertical = vertical; line = biased line; start = biased start; end = biased end }

-- the reply to a wire that is asked for: a number and the row
pub record AskedWire : Type 0 where
  pub reply : ℕ
  pub wire : Wire

-- the refusal n, with a row of zeros
abbrev pub no_wire : ℕ → AskedWire
no_wire n = record { reply = n; wire = zero_wire }

-- each case of what a call answers
abbrev pub wire_told : Result Wire Refusal → AskedWire
wire_told r = answered (λ w. record { reply = 0; wire = w }) no_wire r

-- the wire, or 1 or 2
unfoldable pub asked_wire : Bool → ℤ → ℤ → ℤ → AskedWire
asked_wire vertical line start end = granted (wire_reply line start end) no_wire (record { reply = 0; wire = wire_at vertical line start end })

-- ---- a component

-- a component as rows hold it, its label "held in 16 bytes with zeros behind"
abbrev pub component_at : ℕ → ℕ → ℤ → ℤ → Label → Component
component_at kind o x y label = record { kind = kind; orientation = o; x = biased x; y = biased y; label = (held_label label).bytes }

-- the reply to a component that is asked for: a number and the row
pub record AskedPart : Type 0 where
  pub reply : ℕ
  pub part : Component

-- the refusal n, with a row of zeros
abbrev pub no_part : ℕ → AskedPart
no_part n = record { reply = n; part = zero_component }

-- each case of what a call answers
abbrev pub part_told : Result Component Refusal → AskedPart
part_told r = answered (λ c. record { reply = 0; part = c }) no_part r

-- the component, or 4, 1 or 5
unfoldable pub asked_part : ℕ → ℕ → ℤ → ℤ → Label → AskedPart
asked_part kind o x y label = granted (component_reply kind o x y label) no_part (record { reply = 0; part = component_at kind o x y label })

-- ---- a pointer and its size

-- a pointer as rows hold points
abbrev pub point_at : ℤ → ℤ → Point
point_at x y = record { x = biased x; y = biased y }

-- the reply to a pointer that is asked for: a number, the point and the size
pub record AskedPointer : Type 0 where
  pub reply : ℕ
  pub point : Point
  pub size : ℕ

-- the refusal n, with zeros
abbrev pub no_pointer : ℕ → AskedPointer
no_pointer n = record { reply = n; point = unused; size = 0 }

-- each case of what a call answers
abbrev pub pointer_told : Result Pointer Refusal → AskedPointer
pointer_told r = answered (λ p. record { reply = 0; point = p.point; size = p.size }) no_pointer r

-- the pointer and its size, or 1 or 3
unfoldable pub asked_pointer : ℤ → ℤ → ℤ → AskedPointer
asked_pointer x y size = granted (pointer_reply x y size) no_pointer (record { reply = 0; point = point_at x y; size = to_ℕ size })
