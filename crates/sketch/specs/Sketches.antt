-- A drawing that is given row by row, and what each line adds to it.
use Rattle.std.specs.Prelude.{Bool, true, false, cond, ◌&&◌, Option, Some, None, List, ℕ, ◌+◌, ltb, drop, replicate}
use Rattle.label.specs.Labels.{padded}
use Rattle.sheet.specs.declared.Wire.{Wire}
use Rattle.sheet.specs.declared.Component.{Component}
use Rattle.sheet.specs.declared.Joint.{Joint}
use Rattle.sheet.specs.Drawings.{zero_wire, zero_component, zero_joint}
use Rattle.check_script.specs.Saying.{Said}
use Rattle.check_script.specs.Saying as said
use Rattle.sketch.specs.declared.filled.Filled.{Filled}
use Rattle.sketch.specs.declared.Sketch.{Sketch}
use Rattle.table.specs.declared.Table.{Table}
use Rattle.sketch.specs.Tables.{inserted}

-- ---- how far a table is filled

abbrev pub unfilled : Filled
unfilled = record { counted = 0; used = 0; told = false }

-- a table of n rows has one left
abbrev pub has_room : ℕ → Filled → Bool
has_room n f = ltb f.counted n && ltb f.used n

-- where the next row goes: behind the rows that count; or, where it is not to count, behind all
abbrev pub row_for : Filled → Bool → ℕ
row_for f back = cond back f.used f.counted

-- with one row more
abbrev pub more_of : Filled → Bool → Filled
more_of f back = record { counted = cond back f.counted (f.counted + 1); used = f.used + 1; told = f.told }

-- the count: as it was told outright, or the number of the rows that count
abbrev pub count_after : Filled → ℕ → ℕ
count_after f old = cond f.told old f.counted

abbrev pub told_of : Filled → Filled
told_of f = record { counted = f.counted; used = f.used; told = true }

-- a table of n rows and how far it is filled, with one row more
abbrev pub row_added : {A : Type 0} {n : ℕ} → Table A n → Filled → Bool → A → Option (Table A n × Filled)
row_added {A} {n} t f back x =
    cond (has_room n f) (Some (record { rows = inserted (row_for f back) x t.rows; count = count_after (more_of f back) t.count }, more_of f back)) None

-- ---- a sketch

abbrev pub empty_sketch : Sketch
empty_sketch = record {
  drawing = record {
    wires = record { rows = replicate 512 zero_wire; count = 0 };
    components = record { rows = replicate 128 zero_component; count = 0 };
    joints = record { rows = replicate 1408 zero_joint; count = 0 };
  };
  wires = unfilled;
  components = unfilled;
  joints = unfilled;
}

-- the sketch with another table of wires
abbrev pub wires_as : Sketch → List Wire → ℕ → Filled → Sketch
wires_as s rows count f = record {
  drawing = record { wires = record { rows = rows; count = count }; components = s.drawing.components; joints = s.drawing.joints };
  wires = f;
  components = s.components;
  joints = s.joints;
}

abbrev pub components_as : Sketch → List Component → ℕ → Filled → Sketch
components_as s rows count f = record {
  drawing = record { wires = s.drawing.wires; components = record { rows = rows; count = count }; joints = s.drawing.joints };
  wires = s.wires;
  components = f;
  joints = s.joints;
}

abbrev pub joints_as : Sketch → List Joint → ℕ → Filled → Sketch
joints_as s rows count f = record {
  drawing = record { wires = s.drawing.wires; components = s.drawing.components; joints = record { rows = rows; count = count } };
  wires = s.wires;
  components = s.components;
  joints = f;
}

-- ---- one row more

abbrev pub with_wire : Sketch → Bool → Wire → Sketch
with_wire s back w =
    wires_as s (inserted (row_for s.wires back) w s.drawing.wires.rows) (count_after (more_of s.wires back) s.drawing.wires.count) (more_of s.wires back)

abbrev pub with_component : Sketch → Bool → Component → Sketch
with_component s back c =
    components_as s (inserted (row_for s.components back) c s.drawing.components.rows) (count_after (more_of s.components back) s.drawing.components.count) (more_of s.components back)

abbrev pub with_joint : Sketch → Bool → Joint → Sketch
with_joint s back j =
    joints_as s (inserted (row_for s.joints back) j s.drawing.joints.rows) (count_after (more_of s.joints back) s.drawing.joints.count) (more_of s.joints back)

-- ---- a line: "a line that no row can hold" adds nothing

-- a sketch after a line; or as it was, where no row can hold the line
pub record Added : Type 0 where
  pub held : Bool
  pub sketch : Sketch

abbrev pub held : Sketch → Added
held s = record { held = true; sketch = s }

abbrev pub not_held : Sketch → Added
not_held s = record { held = false; sketch = s }

-- what an answer of `add` says of the sketch s
abbrev pub added_as : Sketch → Option Sketch → Added
added_as s (Some t) = held t
added_as s None = not_held s

-- where there is room, t
abbrev pub held_if : Bool → Sketch → Sketch → Added
held_if room s t = cond room (held t) (not_held s)

unfoldable pub added_of : Sketch → List ℕ → Said → Added
added_of s line (said.Wire back w) = held_if (has_room 512 s.wires) s (with_wire s back w)
added_of s line (said.Component back kind o x y at) =
    held_if (has_room 128 s.components) s
    (with_component s back (record { kind = kind; orientation = o; x = x; y = y; label = padded 16 (drop at line) }))
added_of s line (said.Joint back j) = held_if (has_room 1408 s.joints) s (with_joint s back j)
added_of s line (said.WireCount n) = held (wires_as s s.drawing.wires.rows n (told_of s.wires))
added_of s line (said.ComponentCount n) = held (components_as s s.drawing.components.rows n (told_of s.components))
added_of s line (said.JointCount n) = held (joints_as s s.drawing.joints.rows n (told_of s.joints))
added_of s line said.End = not_held s
added_of s line said.Unreadable = not_held s
