-- Components that meet the limits: those in a table, those in the tables that the functions give, and a turned one.
use Prim.Native.Nat.{ℕ, ◌<◌}
use native.Mathlib.Omega.{arith}
use mathlib.Core.Bool.{Bool}
use mathlib.Core.List.{List}
use mathlib.Core.Logic.{⊎_elim}
use mathlib.Core.Path.{◌≡◌, sym, ap, subst, ◌∙◌}
use lib.ListN.{length, get_or}
use Rattle.lists.specs.Lists.{◌∈◌, insert}
use Rattle.std.specs.List.{filter}
use Rattle.lists.proofs.Lists.{keep_old, insert_in}
use Rattle.lists.proofs.Tables.{row_in, holds_list}
use Rattle.orientation.specs.Orientations.{turn_by, turn_answered, turned_by}
use Rattle.orientation.proofs.Turns.{turns}
use Rattle.refusal.specs.declared.Refusal.{Refusal}
use Rattle.std.specs.Prelude.{Result, Ok, is_ok, IsOk}
use Rattle.std.specs.Result.{result_unwrap_or}
use Rattle.sheet.specs.declared.Component.{Component}
use Rattle.sheet.specs.Tables.{Components}
use Rattle.sheet.specs.Parts.{PartFits, ahead, reoriented}
use Rattle.sheet.specs.Drawings.{component_rows}
use Rattle.parts.specs.Tables.{TabledParts, PartsFit}

-- a component with the orientation that a turn gives, which is no refusal
module _ (f : List ℕ) (c : Component) (h : PartFits c) (t : Result ℕ Refusal) (e : turn_answered t ≡ turned_by f c.orientation) where
  pub turned_ok : IsOk t
  turned_ok = ap is_ok (turns f t h.orientation e)

  pub turned_part : {n : ℕ} {r : Component} → t ≡ Ok n → r ≡ reoriented (λ o. n) c → r ≡ reoriented (turn_by f) c
  turned_part {n} p q = q ∙ ap (λ (m : ℕ). reoriented (λ o. m) c) (same_Ok (sym p ∙ turns f t h.orientation e))
    where
      same_Ok : {m n : ℕ} → ◌≡◌ {A = Result ℕ Refusal} (Ok m) (Ok n) → m ≡ n
      same_Ok p = ap (λ (r : Result ℕ Refusal). result_unwrap_or r 0) p

-- ---- tables that the functions give still hold components that meet the limits

pub tabled_fit : {xs : List Component} {t : Components} → TabledParts xs t → ((c : Component) → c ∈ xs → PartFits c) → PartsFit t
tabled_fit h f = record { room = omega (arith, h.count_is, h.room); each = λ c m. f c (subst (λ l. c ∈ l) (holds_list h) m) }

pub kept_fit : (f : Component → Bool) {s t : Components} → PartsFit s → TabledParts (filter f (component_rows s)) t → PartsFit t
kept_fit f {s} h k = tabled_fit k (λ c m. h.each c (keep_old f (component_rows s) m))

pub inserted_fit : {s t : Components} {c : Component} → PartsFit s → PartFits c → TabledParts (insert ahead c (component_rows s)) t → PartsFit t
inserted_fit {s} {c = c} h f k = tabled_fit k (λ b m. ⊎_elim (λ (e : b ≡ c). subst PartFits (sym e) f) (h.each b) (insert_in ahead c (component_rows s) m))
