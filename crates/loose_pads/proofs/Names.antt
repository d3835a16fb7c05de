-- Pads and their names: as many names as pads, a contact's B behind its A.
use Prim.Native.Nat.{ℕ, zero, suc}
use native.Mathlib.Omega.{arith}
use mathlib.Core.List.{List, [], ◌∷◌}
use mathlib.Core.Path.{◌≡◌, refl}
use lib.ListN.{length, length-append}
use Rattle.std.specs.List.{flat_map}
use Rattle.symbol.specs.Symbols.{pads_at}
use Rattle.sheet.specs.declared.Component.{Component}
use Rattle.sheet.specs.Parts.{pads, pads_of}
use Rattle.sheet.proofs.Parts.{pads_by_kind}
use Rattle.nets.specs.Nets.{At, first, later}
use Rattle.nets.proofs.At.{at_low}
use Rattle.loose_pads.specs.Loose.{PadName, pad-v, pad-c, pad-a, pad-b, pad-n, names_of, pad_names, kinds_of}

-- ---- as many names as pads

pub kind_names : (k : ℕ) → length (names_of k) ≡ length (pads_at k)
kind_names zero = refl
kind_names (suc zero) = refl
kind_names (suc (suc k)) = refl

pub names_long : (cs : List Component) → length (pad_names (kinds_of cs)) ≡ length (pads_of cs)
unfolding pad_names
names_long [] = refl
names_long (c ∷ cs) = omega (arith, length-append (names_of c.kind) (flat_map names_of (kinds_of cs)), length-append (pads c) (pads_of cs), kind_names c.kind, pads_by_kind c, names_long cs)

-- ---- A and B

-- names are apart
abbrev pub name_number : PadName → ℕ
name_number pad-v = 0
name_number pad-c = 1
name_number pad-a = 2
name_number pad-b = 3
name_number pad-n = 4

pub a_then_b : (kinds : List ℕ) {i : ℕ} → At (pad_names kinds) i pad-a → At (pad_names kinds) (suc i) pad-b
unfolding pad_names
a_then_b [] a = absurd (omega (arith, at_low a))
a_then_b (zero ∷ ks) (later a) = later (a_then_b ks a)
a_then_b (suc zero ∷ ks) (later first) = later (later first)
a_then_b (suc zero ∷ ks) (later (later (later a))) = later (later (later (a_then_b ks a)))
a_then_b (suc (suc k) ∷ ks) (later a) = later (a_then_b ks a)

-- pad i has an A before it
pub record AfterA (names : List PadName) (i : ℕ) : Type 0 where
  pub before : ℕ
  pub next : i ≡ suc before
  pub is_a : At names before pad-a

further_on : {names : List PadName} {i : ℕ} (x : PadName) → AfterA names i → AfterA (x ∷ names) (suc i)
further_on x r = record { before = suc r.before; next = omega (arith, r.next); is_a = later r.is_a }

pub b_after_a : (kinds : List ℕ) {i : ℕ} → At (pad_names kinds) i pad-b → AfterA (pad_names kinds) i
unfolding pad_names
b_after_a [] a = absurd (omega (arith, at_low a))
b_after_a (zero ∷ ks) (later a) = further_on pad-v (b_after_a ks a)
b_after_a (suc zero ∷ ks) (later (later first)) = record { before = 1; next = refl; is_a = later first }
b_after_a (suc zero ∷ ks) (later (later (later a))) = further_on pad-c (further_on pad-a (further_on pad-b (b_after_a ks a)))
b_after_a (suc (suc k) ∷ ks) (later a) = further_on pad-n (b_after_a ks a)
