-- How many pads are loose, told by the net numbers. A pad is spare if it is alone on its net and not fed: its number occurs once and isn't
-- 0.
use Rattle.std.specs.Prelude.{ℕ, zero, suc, ◌+◌, ◌-◌, ◌<◌, Bool, false, not, ◌&&◌, List, [], ◌∷◌, ◌↔◌, ◌≡◌, eqb, length, get_or}
use Rattle.lists.specs.Lists.{◌∈◌, Rows}
use Rattle.std.specs.List.{filter}
use Rattle.sheet.specs.Drawings.{Sheet}
use Rattle.net_numbers.specs.Netted.{net_numbers}
use Rattle.loose_pads.specs.Loose.{PadName, pad-v, pad-c, pad-a, pad-b, pad-n, pad_names, kinds_of}

-- so many numbers have a property: they can be listed, each of them once
pub record HowMany (P : ℕ → Type 0) (count : ℕ) : Type 0 where
  pub listed : List ℕ
  pub each : (i : ℕ) → (i ∈ listed) ↔ P i
  pub once : Rows ◌<◌ listed
  pub all : count ≡ length listed

-- how often a number occurs among others
unfoldable pub occurs : ℕ → List ℕ → ℕ
occurs n ns = length (filter (eqb n) ns)

-- pad i is spare: its number occurs once and isn't 0
unfoldable pub spare : List ℕ → ℕ → Bool
spare ns i = not (eqb (get_or ns i 0) 0) && eqb (occurs (get_or ns i 0) ns) 1

-- whether a pad of that name is loose, by which of three pads are spare: the one before it, it, and the next one. A and B are each
-- other's neighbours.
abbrev pub loose_by : PadName → Bool → Bool → Bool → Bool
loose_by pad-v before own next = false
loose_by pad-c before own next = own
loose_by pad-a before own next = own && next
loose_by pad-b before own next = own && before
loose_by pad-n before own next = own

-- whether pad i is loose, by the names and the net numbers of all pads
unfoldable pub is_loose : List PadName → List ℕ → ℕ → Bool
is_loose names ns i = loose_by (get_or names i pad-v) (spare ns (i - 1)) (spare ns i) (spare ns (i + 1))

-- n numbers, one after the other, from i on
unfoldable pub numbers_from : ℕ → ℕ → List ℕ
numbers_from i zero = []
numbers_from i (suc n) = i ∷ numbers_from (i + 1) n

-- the loose pads of components of those kinds whose pads have the net numbers ns
unfoldable pub loose_pads : List ℕ → List ℕ → List ℕ
loose_pads kinds ns = filter (is_loose (pad_names kinds) ns) (numbers_from 0 (length (pad_names kinds)))

-- how many pads of a sheet are loose
unfoldable pub loose_of : Sheet → ℕ
loose_of s = length (loose_pads (kinds_of s.parts) (net_numbers s))
