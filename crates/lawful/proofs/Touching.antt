-- Boxes reach no further than 150 from their positions, and rows rise: the walk may pass over what is far.
use Prim.Native.Nat.{ℕ, zero, suc, ◌+◌, ◌-◌, ◌≤◌, ◌<◌}
use native.Mathlib.Omega.{arith}
use mathlib.Core.Bool.{true, ◌||◌, not}
use mathlib.Core.List.Memᴰ.{not-nil as ∈-nil}
use mathlib.Core.List.{List}
use mathlib.Core.Path.{◌≡◌, sym, subst}
use mathlib.Core.Logic.{⊎_elim}
use lib.Dec.{T}
use lib.ListN.{length, get_or, take, drop, drop_of_length-le}
use Rattle.lists.specs.Lists.{◌∈◌, Rows, none, more, links}
use Rattle.lists.proofs.Tests.{holds, not_reads, or_reads, ltb_reads}
use Rattle.lists.proofs.Lists.{in_cons, links_reads}
use Rattle.lists.proofs.Order.{rows_head}
use Rattle.lists.proofs.Pairing.{rows_left, rows_behind}
use Rattle.symbol.specs.declared.Bounds.{Bounds}
use Rattle.symbol.specs.Symbols.{touches_of}
use Rattle.symbol.proofs.Exact.{Reached, box_reached}
use Rattle.sheet.specs.declared.Component.{Component}
use Rattle.sheet.specs.Points.{Rise, lower, level}
use Rattle.sheet.specs.Boxes.{Shares}
use Rattle.sheet.specs.Parts.{position, box, ahead, PartFits}
use Rattle.sheet.specs.Rules.{Rule5}
use Rattle.sheet.proofs.Boxes.{shares_reads}
use Rattle.sheet.proofs.Points.{rises_reads, rise_chain}
use Rattle.lists.proofs.Finding.{in_drop}
use Rattle.lawful.specs.Looks.{far}

-- the component's box shares no point with p
abbrev pub Apart : Bounds → Component → Type 0
Apart p b = Shares p (box b) → ⊥

-- ---- two components

reach : (c : Component) → PartFits c → Reached c.x c.y (box c).low × Reached c.x c.y (box c).high
unfolding box
reach c f = box_reached c.orientation c.x c.y (record { turned = f.orientation; left = f.x.0; right = f.x.1; top = f.y.0; bottom = f.y.1 }) c.kind

module _ {p : Bounds} (b : Component) (g : PartFits b) where
  pub beside : (far p.high.x b.x || far b.x p.low.x) ≡ true → Shares p (box b) → ⊥
  beside e s = ⊎_elim
      (λ (h : p.high.x + 150 < b.x). omega (arith, s.x', (reach b g).0.in_x.0))
      (λ (h : b.x + 150 < p.low.x). omega (arith, s.x, (reach b g).1.in_x.1))
      (holds (or_reads (ltb_reads (p.high.x + 150) b.x) (ltb_reads (b.x + 150) p.low.x)) (subst T (sym e) tt))

  above : p.high.y + 150 < b.y → Shares p (box b) → ⊥
  above h s = omega (arith, s.y', (reach b g).0.in_y.0)

pub untouched : (b : Component) {p q : Bounds} → q ≡ box b → not (touches_of p q) ≡ true → Shares p (box b) → ⊥
untouched b {p} {q} f t = subst (λ (r : Bounds). Shares p r → ⊥) f (holds (not_reads (shares_reads p q)) (subst T (sym t) tt))

-- ---- the rows from k on

rows_drop : {A : Type 0} {R : A → A → Type 0} (k : ℕ) {xs : List A} → Rows R xs → Rows R (drop k xs)
rows_drop zero r = r
rows_drop (suc k) none = none
rows_drop (suc k) (more h r) = rows_drop k r

higher : (a b : Component) → Rise (position a) (position b) → a.y ≤ b.y
higher a b (lower h) = omega arith
higher a b (level e h) = omega arith

-- ---- the walk over the rows behind one: none of those from row j on is left to touch p

-- the row at j is too far behind, and so is each later one
pub far_on : (cs : List Component) (j : ℕ) {p : Bounds} (b : Component) → Rows (λ b c. Rise (position b) (position c)) cs → ((c : Component) → c ∈ cs → PartFits c) → j < length cs → b ≡ get_or cs j b → far p.high.y b.y ≡ true
    → (c : Component) → c ∈ drop j cs → Apart p c
far_on cs j {p} b rise each h e f c m = above c (each c (in_drop j cs m)) (later m)
  where
    here : p.high.y + 150 < b.y
    here = holds (ltb_reads (p.high.y + 150) b.y) (subst T (sym f) tt)

    later : c ∈ drop j cs → p.high.y + 150 < c.y
    later m =
        let r = subst (Rows (λ b c. Rise (position b) (position c))) (rows_left cs j b h e) (rows_drop j rise) in
        in_cons (λ (c : Component). p.high.y + 150 < c.y) here (λ z o. let g = higher b z (rows_head r z o) in omega (arith, here)) (subst (λ (xs : List Component). c ∈ xs) (rows_left cs j b h e) m)

-- what is apart from p, and the rows behind it
pub apart_on : (cs : List Component) (j : ℕ) {p : Bounds} (b : Component) → j < length cs → b ≡ get_or cs j b → Apart p b → ((c : Component) → c ∈ drop (j + 1) cs → Apart p c) → (c : Component) → c ∈ drop j cs → Apart p c
apart_on cs j {p} b h e f g c m = in_cons (Apart p) f g (subst (λ (xs : List Component). c ∈ xs) (rows_left cs j b h e) m)

pub apart_off : (cs : List Component) (j : ℕ) {p : Bounds} → length cs ≤ j → (c : Component) → c ∈ drop j cs → Apart p c
apart_off cs j h c m = absurd (∈-nil (subst (λ (xs : List Component). c ∈ xs) (drop_of_length-le cs h) m))

-- ---- the walk over all rows: where the boxes from row i on are apart, all are

pub risen : (cs : List Component) → T (links ahead cs) → Rows (λ b c. Rise (position b) (position c)) cs
risen cs t = (rise_chain position).1 (holds (links_reads (λ b c. rises_reads (position b) (position c)) cs) t)

pub rule5_on : (cs : List Component) (i : ℕ) {p : Bounds} (a : Component) → i < length cs → a ≡ get_or cs i a → p ≡ box a → Rows (λ b c. Rise (position b) (position c)) cs
    → (Rows (λ b c. Rise (position b) (position c)) (take (length cs - (i + 1)) (drop (i + 1) cs)) → (c : Component) → c ∈ take (length cs - (i + 1)) (drop (i + 1) cs) → Apart p c) → Rule5 (drop (i + 1) cs) → Rule5 (drop i cs)
rule5_on cs i {p} a h e q rise g r =
    let w = rows_behind cs (i + 1) in
    subst Rule5 (sym (rows_left cs i a h e)) (more (λ c m. subst (λ (b : Bounds). Apart b c) q (g (subst (Rows (λ b c. Rise (position b) (position c))) (sym w) (rows_drop (i + 1) rise)) c (subst (λ (l : List Component). c ∈ l) (sym w) m))) r)

pub rule5_off : (cs : List Component) (i : ℕ) → length cs ≤ i → Rule5 (drop i cs)
rule5_off cs i h = subst Rule5 (sym (drop_of_length-le cs h)) none
