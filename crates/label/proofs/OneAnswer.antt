-- What an answer is read as leaves one answer: so an equation about that determines what is answered.
use mathlib.Core.Path.{◌≡◌, refl, ap}
use Prim.Native.Nat.{ℕ}
use mathlib.Core.List.{List}
use Rattle.std.specs.Prelude.{Result}
use Rattle.refusal.specs.declared.Refusal.{Refusal}
use Rattle.refusal.proofs.Numbers.{one_answered}
use Rattle.label.specs.Labels.{Held, refused_label, held_answer}

pub one_held : (r s : Result (List ℕ) Refusal) → held_answer r ≡ held_answer s → r ≡ s
one_held = one_answered (λ bs. record { reply = 0; bytes = bs }) refused_label (λ (h : Held). h.reply) (λ bs. refl) (λ n. refl) (λ bs cs e. ap (λ (h : Held). h.bytes) e)
