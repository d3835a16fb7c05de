-- Beside the calls: a tally to lend: "The caller lends a tally that is brought up to date in its place".
use Rattle.sheet.specs.declared.Tally.{Tally}

-- one that no drawing of fewer than nine rows has
abbrev pub nines : Tally
nines = record { wires = 9; joints = 9; components = 9; ends = 9 }
