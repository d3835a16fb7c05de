-- What an answer is read as leaves one answer: so an equation about that determines what is answered.
use mathlib.Core.Path.{◌≡◌, refl}
use mathlib.Core.List.{[]}
use Prim.Native.Nat.{ℕ}
use Rattle.std.specs.Prelude.{Result}
use Rattle.refusal.specs.declared.Refusal.{Refusal}
use Rattle.refusal.proofs.Numbers.{one_answered}
use Rattle.component.specs.Answers.{PadsAnswer, answer, pads_told, BoxAnswer, no_box, box_told}
use Rattle.component.specs.declared.Pads.{Pads}
use Rattle.component.specs.declared.Corners.{Corners}

pub one_pads : (r s : Result Pads Refusal) → pads_told r ≡ pads_told s → r ≡ s
one_pads = one_answered (λ (p : Pads). record { reply = 0; points = p.points; count = p.count }) (λ n. answer n []) (λ (a : PadsAnswer). a.reply) (λ p. refl) (λ n. refl) (λ p q e i. record { points = (e i).points; count = (e i).count })

pub one_box : (r s : Result Corners Refusal) → box_told r ≡ box_told s → r ≡ s
one_box = one_answered (λ (b : Corners). record { reply = 0; low = b.low; high = b.high }) no_box (λ (a : BoxAnswer). a.reply) (λ b. refl) (λ n. refl) (λ b c e i. record { low = (e i).low; high = (e i).high })
