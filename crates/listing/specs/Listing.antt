-- The wiring list, byte by byte (document 01, "Nets and the list").
use Rattle.std.specs.Prelude.{ℕ, zero, suc, ◌+◌, cond, List, [], ◌∷◌, ◌++◌, map, eqb, length, get_or}
use Rattle.label.specs.Labels.{label_part}
use Rattle.symbol.specs.Symbols.{pads_at}
use Rattle.sheet.specs.declared.Component.{Component}
use Rattle.sheet.specs.Drawings.{Sheet}
use Rattle.text.specs.Text.{decimal_of}
use Rattle.net_numbers.specs.Netted.{net_numbers}

-- ---- the lines: `R`, `S`, `N`, `.`, `A`, `B`, space and newline are the bytes 82, 83, 78, 46, 65, 66, 32 and 10

-- ` N<net>`
unfoldable pub net_word : ℕ → List ℕ
net_word net = 32 ∷ 78 ∷ decimal_of net

-- ` <label>.<pin>`
unfoldable pub pin_word : List ℕ → ℕ → List ℕ
pin_word label pin = 32 ∷ (label ++ (46 ∷ pin ∷ []))

-- `R N<net> <label>.A <label>.B`
unfoldable pub relay : List ℕ → ℕ → List ℕ
relay label net = 82 ∷ (net_word net ++ (pin_word label 65 ++ (pin_word label 66 ++ (10 ∷ []))))

-- `S <label>.<pin> N<C> N<net>`
unfoldable pub switch : List ℕ → ℕ → ℕ → ℕ → List ℕ
switch label pin c net = 83 ∷ (pin_word label pin ++ (net_word c ++ (net_word net ++ (10 ∷ []))))

-- ---- a component in the list

-- what the list tells of a component besides its nets: "The label comes back as the part before the first zero byte"
pub record Entry : Type 0 where
  pub kind : ℕ
  pub label : List ℕ

-- what the list tells of a component
abbrev pub entry : Component → Entry
entry c = record { kind = c.kind; label = label_part c.label }

-- how many pads a kind has
abbrev pub pads_in : ℕ → ℕ
pads_in kind = length (pads_at kind)

-- the lines of a component whose pads, in symbol order, are on the nets n, n' and n'': Power (kind 0) has none; a contact (1)
-- `S <label>.A N<C> N<A>` and `S <label>.B N<C> N<B>`; a coil (2) `R N<net> <label>.A <label>.B`
unfoldable pub entry_lines : ℕ → List ℕ → ℕ → ℕ → ℕ → List ℕ
entry_lines zero label n n' n'' = []
entry_lines (suc zero) label n n' n'' = switch label 65 n n' ++ switch label 66 n n''
entry_lines (suc (suc zero)) label n n' n'' = relay label n
entry_lines (suc (suc (suc k))) label n n' n'' = []

-- a component's part in the lines of one kind
unfoldable pub lines_in : ℕ → Entry → ℕ → ℕ → ℕ → List ℕ
lines_in kind e n n' n'' = cond (eqb e.kind kind) (entry_lines e.kind e.label n n' n'') []

-- the lines of all components of one kind, in row order; the first pad of the first component is pad i, and pad j is on net `net j`
unfoldable pub kind_lines : (ℕ → ℕ) → ℕ → ℕ → List Entry → List ℕ
kind_lines net kind i [] = []
kind_lines net kind i (e ∷ es) = lines_in kind e (net i) (net (i + 1)) (net (i + 2)) ++ kind_lines net kind (i + pads_in e.kind) es

-- "All coils in row order", "then per contact"
unfoldable pub list_with : (ℕ → ℕ) → List Entry → List ℕ
list_with net es = kind_lines net 2 0 es ++ kind_lines net 1 0 es

-- pad j is on the j-th net of a row of numbers. Past its end the 0 read there would mean fed, but no pad's number is missing: a sheet's
-- row has as many numbers as the sheet has pads (`Numbered.each`, net_numbers/proofs/Numbered: numbered), and a component's lines tell the
-- nets of its own pads alone.
abbrev pub nth : List ℕ → ℕ → ℕ
nth ns j = get_or ns j 0

-- the list of a sheet
unfoldable pub list_of : Sheet → List ℕ
list_of s = list_with (nth (net_numbers s)) (map entry s.parts)
