-- What a line says, of the grammar: a row, a count or the end, or that it is unreadable.
use Rattle.std.specs.Prelude.{ℕ, Bool, Option, Some, None}
use Rattle.sheet.specs.declared.Wire as sheet
use Rattle.sheet.specs.declared.Joint as sheet-joint
use Rattle.check_script.specs.declared.Said.{Said as Told}
use Rattle.check_script.specs.declared.Said.TheVariants as code

-- `behind`: the row stands behind the counts; the label of a component is the part of the line from an index to its end
pub data Said : Type 0 where
  Wire : (behind : Bool) (wire : sheet.Wire) → Said
  Component : (behind : Bool) (kind orientation x y label : ℕ) → Said
  Joint : (behind : Bool) (joint : sheet-joint.Joint) → Said
  WireCount : ℕ → Said
  ComponentCount : ℕ → Said
  JointCount : ℕ → Said
  End : Said
  Unreadable : Said

-- what an answer of `read_line` says
abbrev pub said_as : Option Told → Said
said_as (Some (code.Wire behind wire)) = Wire behind wire
said_as (Some (code.Component behind kind orientation x y label)) = Component behind kind orientation x y label
said_as (Some (code.Joint behind joint)) = Joint behind joint
said_as (Some (code.WireCount n)) = WireCount n
said_as (Some (code.ComponentCount n)) = ComponentCount n
said_as (Some (code.JointCount n)) = JointCount n
said_as (Some code.End) = End
said_as None = Unreadable

-- a component's row, by the index at which its label begins
abbrev pub begun : (ℕ → Said) → Option ℕ → Said
begun f (Some at) = f at
begun f None = Unreadable
