-- Below the calls: what a block handed over does to the bytes that the writer holds, where it tells them.
use Rattle.std.specs.Prelude.{◌≡◌, false, Option, List, ℕ}
use Rattle.std.specs.Io.KnownBytes.{Appends}
use Rattle.streams.specs.declared.output.Output.{Output}

-- unless the write failed, the block stands behind them
abbrev pub Writes : Option (List ℕ) → Option (List ℕ) → Output → List ℕ → Type 0
Writes old new o block = o.failed ≡ false → Appends old new block
