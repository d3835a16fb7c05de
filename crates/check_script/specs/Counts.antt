-- The tables whose counts a line tells outright; "counts are within the rooms" is for the check to say.
use Rattle.std.specs.Prelude.{ℕ}
use Prim.Native.Char.{Char}
use Rattle.check_script.specs.Saying.{Said, WireCount, ComponentCount, JointCount}

-- `# w N`, `# c N`, `# j N`
pub data Table : Char → (ℕ → Said) → Type 0 where
  wires : Table "w" WireCount
  components : Table "c" ComponentCount
  joints : Table "j" JointCount
