-- The flags of the wires' high ends, one row after another.
use Prim.Native.Nat.{ℕ, ◌+◌, ◌≤◌, ◌<◌}
use native.Mathlib.Nat.{not-suc-le-zero}
use native.Mathlib.Omega.{arith}
use mathlib.Core.Path.{◌≡◌, sym, ap, ◌∙◌, subst}
use mathlib.Core.List.{List}
use mathlib.Core.Logic.{⊎_elim}
use mathlib.Core.Bool.{Bool, false}
use lib.ListN.{length, get_or, set}
use lib.Seq.{get_or-set_same, get_or-set_other}
use Rattle.symbol.specs.declared.Point.{Point}
use Rattle.lists.proofs.Tests.{decide, eqb_reads}
use Rattle.lists.proofs.Tables.{same_row}
use Rattle.sheet.specs.declared.Wire.{Wire}
use Rattle.sheet.specs.Geometry.{high, tip}
use Rattle.sheet.specs.Merge.{held_apart}
use Rattle.merge.specs.Codes.{marks_with_kind, Coded, Flagged}

-- the first i flags are right, whatever pads there are besides
pub record Flagging (ws : List Wire) (cs : List ℕ) (i : ℕ) (flags : List Bool) : Type 0 where
  pub each : (ps : List Point) → Coded (marks_with_kind ws ps) cs → (k : ℕ) (d : Wire) → k < i → k < length ws → get_or flags k false ≡ held_apart ws ps (get_or ws k d).vertical (tip high (get_or ws k d))

pub flag_start : (ws : List Wire) (cs : List ℕ) (flags : List Bool) → Flagging ws cs 0 flags
flag_start ws cs flags = record { each = λ ps c k d h l. absurd (not-suc-le-zero h) }

pub flag_next : {ws : List Wire} {i : ℕ} {cs : List ℕ} {flags : List Bool} {x : Bool} (d : Wire) → Flagging ws cs i flags
    → ((vs : List Wire) (ps : List Point) → Coded (marks_with_kind vs ps) cs → x ≡ held_apart vs ps (get_or ws i d).vertical (tip high (get_or ws i d)))
    → i < length ws → i < length flags → Flagging ws cs (i + 1) (set flags i x)
flag_next {ws} {i} {cs} {flags} {x} d f t h l = record {
  each = λ ps c j z u v. ⊎_elim
      (λ (q : j ≡ i). subst (λ (j : ℕ). get_or (set flags i x) j false ≡ held_apart ws ps (get_or ws j z).vertical (tip high (get_or ws j z))) (sym q)
      (get_or-set_same flags i x false l ∙ t ws ps c ∙ ap (λ (w : Wire). held_apart ws ps w.vertical (tip high w)) (same_row ws i d z h)))
      (λ (q : j ≡ i → ⊥). get_or-set_other flags i j x false q ∙ f.each ps c j z (omega arith) v)
      (decide (eqb_reads j i));
}

pub flag_end : {ws : List Wire} {i : ℕ} {cs : List ℕ} {flags : List Bool} → Flagging ws cs i flags → length ws ≤ i → (ps : List Point) → Coded (marks_with_kind ws ps) cs → Flagged ws ps flags
flag_end f h ps c = record { each = λ j d u. f.each ps c j d (omega arith) u }
