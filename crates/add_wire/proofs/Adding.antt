-- Rows put behind those of a table, for whatever list it stands for: one row after another, and the run piece by piece.
use Prim.Native.Nat.{ℕ, suc, ◌+◌, ◌-◌, ◌≤◌, ◌<◌}
use native.Mathlib.Omega.{arith}
use native.Mathlib.Numerals.{add-one}
use mathlib.Core.Path.{◌≡◌, refl, sym, ap, ◌∙◌, subst}
use mathlib.Core.List.{List, [], ◌∷◌, ◌++◌, append-nil, append_assoc}
use mathlib.Core.Bool.{Bool, true, false, ◌&&◌}
use lib.ListN.{length, get_or, take, drop, set, length-append}
use Rattle.std.specs.List.{flat_map}
use Rattle.lists.proofs.Tables.{holds_as}
use Rattle.lists.proofs.Walks.{Rest, rest_at, rest_next, rest_end, rows_from_lem}
use Rattle.sheet.specs.declared.Wire.{Wire}
use Rattle.sheet.specs.Tables.{Wires}
use Rattle.wires.specs.Tables.{Tabled}
use Rattle.table.specs.Tables.{pushed}
use Rattle.table.proofs.Rows.{pushed_holds}
use Rattle.sheet.specs.Split.{up_to, from_on}
use Rattle.add_wire.specs.Marks.{Adds, Over, strictly_in, cut_from}

-- ---- Adds

pub adds_none : (t : Wires) → Adds [] t t
adds_none t = record { so = λ ws h. holds_as (sym (append-nil ws)) h }

-- what is there with more behind it
pub adds_next : {us vs : List Wire} {t r q : Wires} → Adds us t r → ((xs : List Wire) → Tabled xs r → Tabled (xs ++ vs) q) → Adds (us ++ vs) t q
adds_next {us} {vs} a f = record { so = λ ws h. holds_as (append_assoc ws us vs) (f (ws ++ us) (a.so ws h)) }

pub adds_more : {us vs : List Wire} {t r q : Wires} → Adds us t r → Adds vs r q → Adds (us ++ vs) t q
adds_more a b = adds_next a b.so

pub adds_as : {us vs : List Wire} {t r : Wires} → us ≡ vs → Adds us t r → Adds vs t r
adds_as {t = t} {r} e a = subst (λ (l : List Wire). Adds l t r) e a

-- with k rows more there are over 512, and the whole has as many
pub adds_over : {vs whole : List Wire} {t r : Wires} (k : ℕ) → Adds vs t r → 512 < r.count + k → length vs + k ≤ length whole → Over whole t
adds_over {vs} {whole} k a h l = record { so = λ ws o. omega (arith, (a.so ws o).count_is, length-append ws vs, length-append ws whole) }

-- ---- the run: before place a, up to place e, w is what is left of it

pub record Slicing (t : Wires) (m : ℕ → Bool) (e : ℕ) (whole : List Wire) (a : ℕ) (w : Wire) (out : Wires) : Type 0 where
  pub done : List Wire
  pub behind : Adds done t out
  pub rest : done ++ cut_from m a (e - a) w ≡ whole

pub slice_start : (t : Wires) (m : ℕ → Bool) (e a : ℕ) (w : Wire) → Slicing t m e (cut_from m a (e - a) w) a w t
slice_start t m e a w = record { done = []; behind = adds_none t; rest = refl }

module _ {t : Wires} {m : ℕ → Bool} {e : ℕ} {whole : List Wire} {a : ℕ} {w : Wire} {out : Wires} (s : Slicing t m e whole a w out) where
  -- one place further, by whether it cuts
  further : a < e → e - a ≡ suc (e - (a + 1))
  further l = omega arith

  cut_here : a < e → (m a && strictly_in a w) ≡ true → s.done ++ (up_to a w ∷ cut_from m (a + 1) (e - (a + 1)) (from_on a w)) ≡ whole
  unfolding cut_from
  cut_here l b = sym (ap (λ (k : ℕ). s.done ++ cut_from m a k w) (further l) ∙ rw (b, add-one a)) ∙ s.rest

  pub slice_cut : {next : Wires} → a < e → (m a && strictly_in a w) ≡ true → (out.count < 512) × (next ≡ pushed (up_to a w) out) → Slicing t m e whole (a + 1) (from_on a w) next
  slice_cut l b p = record {
    done = s.done ++ (up_to a w ∷ []);
    behind = adds_next s.behind (λ xs h. pushed_holds (up_to a w) h p.0 p.1);
    rest = append_assoc s.done (up_to a w ∷ []) (cut_from m (a + 1) (e - (a + 1)) (from_on a w)) ∙ cut_here l b;
  }

  pub slice_skip : a < e → (m a && strictly_in a w) ≡ false → Slicing t m e whole (a + 1) w out
  unfolding cut_from
  slice_skip l b = record { done = s.done; behind = s.behind; rest = sym (ap (λ (k : ℕ). s.done ++ cut_from m a k w) (further l) ∙ rw (b, add-one a)) ∙ s.rest }

  pub slice_over : a < e → (m a && strictly_in a w) ≡ true → 512 ≤ out.count → Over whole t
  slice_over l b h =
      adds_over 1 s.behind (omega arith) (omega (arith, ap length (cut_here l b), length-append s.done (up_to a w ∷ cut_from m (a + 1) (e - (a + 1)) (from_on a w))))

  last_piece : e ≤ a → s.done ++ (w ∷ []) ≡ whole
  unfolding cut_from
  last_piece l = let none : e - a ≡ 0 = omega arith in sym (ap (λ (k : ℕ). s.done ++ cut_from m a k w) none) ∙ s.rest

  pub slice_end : {next : Wires} → e ≤ a → (out.count < 512) × (next ≡ pushed w out) → Adds whole t next
  slice_end l p = adds_as (last_piece l) (adds_next s.behind (λ xs h. pushed_holds w h p.0 p.1))

  pub slice_end_over : e ≤ a → 512 ≤ out.count → Over whole t
  slice_end_over l h = adds_over 1 s.behind (omega arith) (omega (arith, ap length (last_piece l), length-append s.done (w ∷ [])))
