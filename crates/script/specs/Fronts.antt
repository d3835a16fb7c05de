-- Below the calls: what the functions that read the front of a text tell.
use Rattle.std.specs.Prelude.{cond, List, [], ◌∷◌, ℕ, ◌-◌, Option, Some, None}
use Rattle.std.specs.Borrow.{Bor}
use Rattle.script.specs.Grammar.{byte}
use Rattle.script.specs.Commands.{Command, Unreadable}
use Rattle.script.specs.Reading.{Front, found, missing, is_digit}

-- a value, and the text behind it
abbrev pub front : {A : Type 0} → Option (A × Bor (List ℕ)) → Front A
front (Some p) = found p.0 p.1.now
front None = missing

-- a command with a label, by the index at which the label begins
abbrev pub begun : (ℕ → Command) → Option ℕ → Command
begun f (Some at) = f at
begun f None = Unreadable

-- the value of the digit that a text begins with
unfoldable pub leading_digit : List ℕ → Option ℕ
leading_digit [] = None
leading_digit (b ∷ s) = cond (is_digit b) (Some (b - byte "0")) None
