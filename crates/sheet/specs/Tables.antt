-- "512 wires, 128 components, 1,408 joints": the tables of a drawing.
use Rattle.table.specs.declared.Table.{Table}
use Rattle.sheet.specs.declared.Wire.{Wire}
use Rattle.sheet.specs.declared.Component.{Component}
use Rattle.sheet.specs.declared.Joint.{Joint}

abbrev pub Wires : Type 0
Wires = Table Wire 512

abbrev pub Components : Type 0
Components = Table Component 128

abbrev pub Joints : Type 0
Joints = Table Joint 1408
