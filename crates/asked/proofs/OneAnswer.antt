-- What an answer is read as leaves one answer: so an equation about that determines what is answered.
use mathlib.Core.Path.{◌≡◌, refl, ap}
use Rattle.std.specs.Prelude.{Result}
use Rattle.refusal.specs.declared.Refusal.{Refusal}
use Rattle.refusal.proofs.Numbers.{one_answered}
use Rattle.sheet.specs.declared.Wire.{Wire}
use Rattle.sheet.specs.declared.Component.{Component}
use Rattle.asked.specs.Asked.{AskedWire, no_wire, wire_told, AskedPart, no_part, part_told, AskedPointer, no_pointer, pointer_told}
use Rattle.asked.specs.declared.Pointer.{Pointer}

pub one_wire : (r s : Result Wire Refusal) → wire_told r ≡ wire_told s → r ≡ s
one_wire = one_answered (λ (w : Wire). record { reply = 0; wire = w }) no_wire (λ (a : AskedWire). a.reply) (λ w. refl) (λ n. refl) (λ v w e. ap (λ (a : AskedWire). a.wire) e)

pub one_part : (r s : Result Component Refusal) → part_told r ≡ part_told s → r ≡ s
one_part = one_answered (λ (c : Component). record { reply = 0; part = c }) no_part (λ (a : AskedPart). a.reply) (λ c. refl) (λ n. refl) (λ b c e. ap (λ (a : AskedPart). a.part) e)

pub one_pointer : (r s : Result Pointer Refusal) → pointer_told r ≡ pointer_told s → r ≡ s
one_pointer = one_answered (λ (p : Pointer). record { reply = 0; point = p.point; size = p.size }) no_pointer (λ (a : AskedPointer). a.reply) (λ p. refl) (λ n. refl) (λ p q e i. record { point = (e i).point; size = (e i).size })
