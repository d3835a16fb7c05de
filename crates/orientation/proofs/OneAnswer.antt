-- What an answer is read as leaves one answer: so an equation about that determines what is answered.
use mathlib.Core.Path.{◌≡◌, refl, ap}
use Prim.Native.Nat.{ℕ}
use Rattle.std.specs.Prelude.{Result}
use Rattle.refusal.specs.declared.Refusal.{Refusal}
use Rattle.refusal.proofs.Numbers.{one_answered}
use Rattle.orientation.specs.Orientations.{Turned, turn_is, refused_turn, turn_answered, FourNumbers, four_are, refused_four, four_answered}
use Rattle.orientation.specs.declared.RotMirror.{RotMirror}

pub one_turn : (r s : Result ℕ Refusal) → turn_answered r ≡ turn_answered s → r ≡ s
one_turn = one_answered turn_is refused_turn (λ (t : Turned). t.reply) (λ n. refl) (λ n. refl) (λ m n e. ap (λ (t : Turned). t.turn) e)

pub one_four : (r s : Result RotMirror Refusal) → four_answered r ≡ four_answered s → r ≡ s
one_four = one_answered four_are refused_four (λ (f : FourNumbers). f.reply) (λ o. refl) (λ n. refl) (λ o p e. ap (λ (f : FourNumbers). f.turn) e)
