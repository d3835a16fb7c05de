-- The number and the values of an answer tell which it is: so each contract determines what is answered.
use mathlib.Core.Path.{◌≡◌, sym, ap}
use Prim.Native.Nat.{ℕ, suc}
use native.Mathlib.Omega.{arith}
use Rattle.std.specs.Prelude.{Option, Some, None, Result, Ok, Err}
use Rattle.refusal.specs.Numbers.{number_of}
use Rattle.refusal.specs.declared.Refusal.{Refusal}
use Rattle.refusal.proofs.Numbers.{refuses, one_refusal}
use Rattle.cad.specs.Answers.{shape_answer, refused_shape}
use Rattle.draw.specs.Answers.{Answer, shape_is}
use Rattle.draw.proofs.Answers.{one_choice}
use Rattle.draw.specs.declared.Draw.{Draw}
use Rattle.draw.specs.declared.Draw.TheVariants.{Line, Circle}

-- a refusal is no answer of number 0
refused : {A : Type 0} (c : Option Draw) (r : Refusal) → (shape_answer (Ok c)).number ≡ number_of r → A
refused c r e = absurd (let z : ⊥ = go c e in z)
  where
    go : (c : Option Draw) → (shape_answer (Ok c)).number ≡ number_of r → ⊥
    go (Some (Line p q width)) e = let h = refuses r in omega arith
    go (Some (Circle p radius width)) e = let h = refuses r in omega arith
    go None e = let h = refuses r in omega arith

pub one_answer : (r s : Result (Option Draw) Refusal) → shape_answer r ≡ shape_answer s → r ≡ s
one_answer (Ok c) (Ok d) e = ap Ok (one_choice c d e)
one_answer (Ok c) (Err s) e = refused c s (ap (λ (a : Answer). a.number) e)
one_answer (Err r) (Ok d) e = refused d r (sym (ap (λ (a : Answer). a.number) e))
one_answer (Err r) (Err s) e = ap Err (one_refusal r s (ap (λ (a : Answer). a.number) e))

pub no_refusal : (n : ℕ) (d : Draw) → refused_shape (suc n) ≡ shape_is d → ⊥
no_refusal n d p = let q : suc n ≡ 0 = λ j. (p j).number in omega arith
