-- What a right answer of the drawing check says, in document 01's words.
use Rattle.std.specs.Prelude.{ℕ, suc, List, [], ◌∷◌, ◌≡◌}
use Rattle.lists.specs.Lists.{◌∈◌}
use Rattle.lists.specs.First.{FirstAt}
use Rattle.sheet.specs.declared.Component.{Component}
use Rattle.sheet.specs.declared.Drawing.{Drawing}
use Rattle.sheet.specs.Boxes.{Shares}
use Rattle.sheet.specs.Parts.{box, pads_of}
use Rattle.sheet.specs.Drawings.{lists_of, joint_rows, marks_of}
use Rattle.sheet.specs.Rules.{Rule1, Rule2, Rule3, Rule4, Rule5, Rule6, Rule7}
use Rattle.rules.specs.declared.Checked.{Checked}

-- n is the number, counted from k, of the first statement that does not hold; 0 if all do
pub data First : ℕ → List (Type 0) → ℕ → Type 1 where
  sound : {k : ℕ} → First k [] 0
  fails : {k : ℕ} {P : Type 0} {Ps : List (Type 0)} → (P → ⊥) → First k (P ∷ Ps) k
  holds : {k n : ℕ} {P : Type 0} {Ps : List (Type 0)} → P → First (suc k) Ps n → First k (P ∷ Ps) n

-- the seven rules, in their order
abbrev pub seven : Drawing → List (Type 0)
seven d =
    let s = lists_of d in
    let ps = pads_of s.parts in
    let js = joint_rows d.joints in
    Rule1 d ∷ Rule2 s.wires ∷ Rule3 s.wires ps ∷ Rule4 s.wires ps ∷ Rule5 s.parts ∷ Rule6 js (marks_of s) ∷ Rule7 s js ∷ []

-- R holds of the rows i and j, i before j, and of no pair before them by lower row and then higher
pub data FirstPair {A : Type 0} (R : A → A → Type 0) : List A → ℕ → ℕ → Type 0 where
  here : {x : A} {xs : List A} {j : ℕ} → FirstAt (R x) xs j → FirstPair R (x ∷ xs) 0 (suc j)
  later : {x : A} {xs : List A} {i j : ℕ} → ((y : A) → y ∈ xs → R x y → ⊥) → FirstPair R xs i j → FirstPair R (x ∷ xs) (suc i) (suc j)

-- two boxes share a point
abbrev pub Touch : Component → Component → Type 0
Touch b c = Shares (box b) (box c)

-- "names the first broken rule in this order. For rule 5 it stops at the first pair of boxes that share a point, by lower row and
-- then higher, and tells both rows, counted from 0; for other rules the rows told are 0, 0."
pub record Right (d : Drawing) (v : Checked) : Type 1 where
  pub rule : First 1 (seven d) v.rule
  pub pair : v.rule ≡ 5 → FirstPair Touch (lists_of d).parts v.first v.second
  pub other : (v.rule ≡ 5 → ⊥) → (v.first ≡ 0) × (v.second ≡ 0)
