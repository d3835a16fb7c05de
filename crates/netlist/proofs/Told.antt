-- A list tells the nets of the pads of coils and contacts; with those of power symbols it tells all.
use mathlib.Core.Path.{◌≡◌, refl, sym, ◌∙◌}
use mathlib.Core.Bool.{Bool, cond}
use mathlib.Core.Logic.{◌⊎◌, inl, inr}
use mathlib.Core.List.Memᴰ.{head as ∈-head}
use mathlib.Core.List.Memᴰ.{tail as ∈-tail}
use mathlib.Core.List.{List, [], ◌∷◌, ◌++◌, append_assoc, append-nil}
use Prim.Native.Nat.{ℕ, zero, suc, ◌+◌, ◌≤◌, ◌<◌}
use native.Mathlib.Omega.{arith}
use Rattle.lists.specs.Lists.{◌∈◌}
use Rattle.lists.proofs.Tests.{Reads, pass, fail, eqb_reads, ltb_reads, compare}
use Rattle.listing.specs.Listing.{switch, Entry, pads_in, entry_lines, lines_in, kind_lines, list_with}
use Rattle.listing.proofs.Spelling.{relay_told, switch_told}

-- the pads of all entries
unfoldable pub pads_all : List Entry → ℕ
pads_all [] = 0
pads_all (e ∷ es) = pads_in e.kind + pads_all es

module _ (net net' : ℕ → ℕ) where
  -- alike at the pads of a component of a kind, from pad i on
  abbrev pub Agree : ℕ → ℕ → Type 0
  Agree zero i = net i ≡ net' i
  Agree (suc zero) i = (net i ≡ net' i) × (net (i + 1) ≡ net' (i + 1)) × (net (i + 2) ≡ net' (i + 2))
  Agree (suc (suc k)) i = net i ≡ net' i

  -- alike at the pads of all components of a kind
  abbrev pub Alike : ℕ → ℕ → List Entry → Type 0
  Alike kind i [] = Unit
  Alike kind i (e ∷ es) = (e.kind ≡ kind → Agree e.kind i) × Alike kind (i + pads_in e.kind) es

  lines_agree : (kind : ℕ) → 0 < kind → kind ≤ 2 → (l : List ℕ) (i : ℕ) (s t : List ℕ)
      → entry_lines kind l (net i) (net (i + 1)) (net (i + 2)) ++ s ≡ entry_lines kind l (net' i) (net' (i + 1)) (net' (i + 2)) ++ t → Agree kind i × (s ≡ t)
  unfolding entry_lines
  lines_agree zero a b l i s t e = absurd (omega arith)
  lines_agree (suc zero) a b l i s t e =
      let u : List ℕ → List ℕ = λ z. switch l 66 (net i) (net (i + 2)) ++ z in
      let v : List ℕ → List ℕ = λ z. switch l 66 (net' i) (net' (i + 2)) ++ z in
      let r = switch_told l 65 (net i) (net (i + 1)) (net' i) (net' (i + 1)) (u s) (v t) (sym (append_assoc (switch l 65 (net i) (net (i + 1))) (switch l 66 (net i) (net (i + 2))) s) ∙ e ∙ append_assoc (switch l 65 (net' i) (net' (i + 1))) (switch l 66 (net' i) (net' (i + 2))) t) in
      let q = switch_told l 66 (net i) (net (i + 2)) (net' i) (net' (i + 2)) s t r.2 in
      ((r.0, r.1, q.1), q.2)
  lines_agree (suc (suc zero)) a b l i s t e = relay_told l (net i) (net' i) s t e
  lines_agree (suc (suc (suc k))) a b l i s t e = absurd (omega arith)

  -- one entry and those behind it
  entry_told : (kind : ℕ) → 0 < kind → kind ≤ 2 → (x : Entry) (i : ℕ) (P : Type 0) (u v s t : List ℕ)
      → (u ++ s ≡ v ++ t → P × (s ≡ t)) → {b : Bool} → Reads (x.kind ≡ kind) b
      → (cond b (entry_lines x.kind x.label (net i) (net (i + 1)) (net (i + 2))) [] ++ u) ++ s ≡ (cond b (entry_lines x.kind x.label (net' i) (net' (i + 1)) (net' (i + 2))) [] ++ v) ++ t
      → ((x.kind ≡ kind → Agree x.kind i) × P) × (s ≡ t)
  entry_told kind a b x i P u v s t rest (pass p) e =
      let f : List ℕ = entry_lines x.kind x.label (net i) (net (i + 1)) (net (i + 2)) in
      let g : List ℕ = entry_lines x.kind x.label (net' i) (net' (i + 1)) (net' (i + 2)) in
      let r = lines_agree x.kind (omega arith) (omega arith) x.label i (u ++ s) (v ++ t) (sym (append_assoc f u s) ∙ e ∙ append_assoc g v t) in
      let q = rest r.1 in
      ((λ _. r.0, q.0), q.1)
  entry_told kind a b x i P u v s t rest (fail n) e = let q = rest e in ((λ p. absurd (n p), q.0), q.1)

  lines_told : (kind : ℕ) → 0 < kind → kind ≤ 2 → (i : ℕ) (es : List Entry) (s t : List ℕ) → kind_lines net kind i es ++ s ≡ kind_lines net' kind i es ++ t → Alike kind i es × (s ≡ t)
  unfolding kind_lines lines_in
  lines_told kind a b i [] s t e = (tt, e)
  lines_told kind a b i (x ∷ es) s t e =
      entry_told kind a b x i (Alike kind (i + pads_in x.kind) es) (kind_lines net kind (i + pads_in x.kind) es) (kind_lines net' kind (i + pads_in x.kind) es) s t
      (lines_told kind a b (i + pads_in x.kind) es s t) (eqb_reads x.kind kind) e

  -- ---- all pads

  at_pads : (kind i : ℕ) → Agree kind i → (j : ℕ) → i ≤ j → j < i + pads_in kind → net j ≡ net' j
  at_pads zero i g j a b = let e : i ≡ j = omega arith in rw (← e) g
  at_pads (suc zero) i g j a b = three (compare j (i + 1))
    where
      three : (j < i + 1) ⊎ ((j ≡ i + 1) ⊎ (i + 1 < j)) → net j ≡ net' j
      three (inl l) = let e : i ≡ j = omega arith in rw (← e) g.0
      three (inr (inl e)) = rw e g.1
      three (inr (inr l)) = let e : i + 2 ≡ j = omega arith in rw (← e) g.2
  at_pads (suc (suc k)) i g j a b = let e : i ≡ j = omega arith in rw (← e) g

  of_three : {X : Type 0} (k : ℕ) → k ≤ 2 → (k ≡ 0 → X) → (k ≡ 1 → X) → (k ≡ 2 → X) → X
  of_three zero h a b c = a refl
  of_three (suc zero) h a b c = b refl
  of_three (suc (suc zero)) h a b c = c refl
  of_three (suc (suc (suc k))) h a b c = absurd (omega arith)

  every : (es : List Entry) (i : ℕ) → ((e : Entry) → e ∈ es → e.kind ≤ 2) → Alike 0 i es → Alike 1 i es → Alike 2 i es → (j : ℕ) → i ≤ j → j < i + pads_all es → net j ≡ net' j
  unfolding pads_all
  every [] i k a b c j l h = absurd (omega arith)
  every (x ∷ es) i k a b c j l h = here (ltb_reads j (i + pads_in x.kind)) (every es (i + pads_in x.kind) (λ e m. k e (∈-tail m)) a.1 b.1 c.1 j)
    where
      here : {t : Bool} → Reads (j < i + pads_in x.kind) t → (i + pads_in x.kind ≤ j → j < (i + pads_in x.kind) + pads_all es → net j ≡ net' j) → net j ≡ net' j
      here (pass p) rest = at_pads x.kind i (of_three x.kind (k x (∈-head refl)) a.0 b.0 c.0) j l p
      here (fail n) rest = rest (omega (arith, n)) (omega arith)

  -- with the pads of power symbols alike, the list tells all pads
  pub list_told : (es : List Entry) → ((e : Entry) → e ∈ es → e.kind ≤ 2) → Alike 0 0 es → list_with net es ≡ list_with net' es → (j : ℕ) → j < pads_all es → net j ≡ net' j
  unfolding list_with
  list_told es k a e j h =
      let r = lines_told 2 (omega arith) (omega arith) 0 es (kind_lines net 1 0 es) (kind_lines net' 1 0 es) e in
      let q = lines_told 1 (omega arith) (omega arith) 0 es [] [] (append-nil (kind_lines net 1 0 es) ∙ r.1 ∙ sym (append-nil (kind_lines net' 1 0 es))) in
      every es 0 k a q.0 r.0 j (omega arith) (omega arith)
