-- Below the calls: two wires in line, one behind the other.
use Rattle.std.specs.Prelude.{Bool, ◌&&◌, eqb}
use Rattle.std.specs.Bool.{beq}
use Rattle.sheet.specs.declared.Wire.{Wire}

-- b goes on in line where a ends
unfoldable pub goes_on : Wire → Wire → Bool
goes_on a b = beq a.vertical b.vertical && (eqb a.line b.line && eqb a.end b.start)
