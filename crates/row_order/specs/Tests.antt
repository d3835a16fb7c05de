-- Below the calls: what a closure that tests two rows answers.
use Rattle.std.specs.Prelude.{Bool, ◌≡◌}
use Rattle.std.specs.Fn.{Shared, FnReturnsAtPair}
use Rattle.std.specs.Borrow.{Bor}

-- each call of f, at two rows, answers what e gives
abbrev pub Tests : {F T : Type 0} → Shared F (Bor T × (Bor T × Unit {0})) Bool → F → (T → T → Bool) → Type 0
Tests {T = T} g f e = (a b : T) (r : Bool) → FnReturnsAtPair g f a b r → r ≡ e a b
