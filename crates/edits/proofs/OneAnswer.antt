-- What an answer is read as leaves one answer: so an equation about that determines what is answered.
use mathlib.Core.Path.{◌≡◌, refl}
use Rattle.std.specs.Prelude.{Result}
use Rattle.refusal.specs.declared.Refusal.{Refusal}
use Rattle.refusal.proofs.Numbers.{one_answered}
use Rattle.edits.specs.Making.{Made, no_room, told}
use Rattle.edits.specs.declared.Made.{Made as Tables}

pub one_told : (r s : Result Tables Refusal) → told r ≡ told s → r ≡ s
one_told = one_answered (λ (t : Tables). record { reply = 0; wires = t.wires; parts = t.parts; hit = t.hit; lost = t.lost }) no_room (λ (m : Made). m.reply) (λ t. refl) (λ n. refl) (λ t u e i. record { wires = (e i).wires; parts = (e i).parts; hit = (e i).hit; lost = (e i).lost })
