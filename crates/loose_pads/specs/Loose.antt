-- Loose pads (document 02, P2): "Take loose to mean: a pad of a contact or coil that isn't fed and is alone on its net, unless it is A or B
-- of a contact whose other one of the two is on a net with a further pad or fed. The definition in document 01 is replaced."
use Rattle.std.specs.Prelude.{ℕ, zero, suc, List, [], ◌∷◌, map, ◌≡◌}
use Rattle.std.specs.List.{flat_map}
use Rattle.symbol.specs.declared.Point.{Point}
use Rattle.sheet.specs.declared.Component.{Component}
use Rattle.sheet.specs.Parts.{pads_of}
use Rattle.sheet.specs.Drawings.{Sheet}
use Rattle.nets.specs.Nets.{At, Fed, OneNet}
use Rattle.net_numbers.specs.Netted.{net_on}

-- ---- the pads of a sheet, by number: "the components in row order and each one's pads in symbol order", from 0

-- pad i is at p
abbrev pub PadAt : Sheet → ℕ → Point → Type 0
PadAt s i p = At (pads_of s.parts) i p

-- the pads of the symbols: V of a power symbol; C, A and B of a contact; N of a coil
pub data PadName : Type 0 where
  pad-v pad-c pad-a pad-b pad-n : PadName

-- a kind's pads in symbol order: "Kind: 0 Power, 1 Contact, 2 Coil."
abbrev pub names_of : ℕ → List PadName
names_of zero = pad-v ∷ []
names_of (suc zero) = pad-c ∷ pad-a ∷ pad-b ∷ []
names_of (suc (suc k)) = pad-n ∷ []

-- the pads of all components, by their kinds
unfoldable pub pad_names : List ℕ → List PadName
pad_names kinds = flat_map names_of kinds

-- the kinds of the components, in row order
abbrev pub kinds_of : List Component → List ℕ
kinds_of cs = map (λ c. c.kind) cs

-- pad i has that name
abbrev pub Called : Sheet → ℕ → PadName → Type 0
Called s i name = At (pad_names (kinds_of s.parts)) i name

-- ---- what the request says of them

-- "a further pad": another pad is on one net with pad i
pub record Further (s : Sheet) (i : ℕ) : Type 0 where
  pub here : Point
  pub is_here : PadAt s i here
  pub pad : ℕ
  pub another : pad ≡ i → ⊥
  pub there : Point
  pub is_there : PadAt s pad there
  pub joined : OneNet (net_on s) here there

-- "on a net with a further pad or fed"
pub data Connected (s : Sheet) (i : ℕ) : Type 0 where
  fed : {p : Point} → PadAt s i p → Fed (net_on s) p → Connected s i
  further : Further s i → Connected s i

-- "A or B of a contact whose other one of the two": behind A stands its contact's B, and before B its A
pub data OtherOfTwo (s : Sheet) : ℕ → ℕ → Type 0 where
  b_of_a : {i : ℕ} → Called s i pad-a → OtherOfTwo s i (suc i)
  a_of_b : {i : ℕ} → Called s (suc i) pad-b → OtherOfTwo s (suc i) i

-- "a pad of a contact or coil that isn't fed and is alone on its net, unless .. the other one of the two is on a net with a further pad or
-- fed"
pub record Loose (s : Sheet) (i : ℕ) : Type 0 where
  pub name : PadName
  pub called : Called s i name
  pub no_power : name ≡ pad-v → ⊥
  pub unfed : (p : Point) → PadAt s i p → Fed (net_on s) p → ⊥
  pub alone : Further s i → ⊥
  pub no_other : (j : ℕ) → OtherOfTwo s i j → Connected s j → ⊥
