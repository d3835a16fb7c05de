-- Document 01's words to the letter: a row of wires, each next one having an end where the one before has an end, joins the points at its two outer ends. It joins what a chain joins, whichever ends are taken for the outer ones.
use mathlib.Core.Path.{◌≡◌, refl}
use mathlib.Core.Logic.{◌⊎◌, inl, inr}
use mathlib.Core.List.{List}
use Rattle.lists.specs.Lists.{◌∈◌}
use Rattle.nets.specs.Nets.{Linked, forth, back, Chain, here, on}

module _ {P : Type 0} where
  -- the wire has an end at the point
  pub data EndAt : P × P → P → Type 0 where
    one : {p q : P} → EndAt (p, q) p
    other : {p q : P} → EndAt (p, q) q

  -- a row of wires from the first to the last
  pub data Row (links : List (P × P)) : P × P → P × P → Type 0 where
    single : {l : P × P} → l ∈ links → Row links l l
    next : {l m n : P × P} {p : P} → l ∈ links → EndAt l p → EndAt m p → Row links m n → Row links l n

  -- one wire joins its ends
  across : {links : List (P × P)} {l : P × P} {p q : P} → l ∈ links → EndAt l p → EndAt l q → Chain links p q
  across m one one = here
  across m one other = on (forth m) here
  across m other one = on (back m) here
  across m other other = here

  pub row_chain : {links : List (P × P)} {f l : P × P} {p q : P} → Row links f l → EndAt f p → EndAt l q → Chain links p q
  row_chain (single m) a b = across m a b
  row_chain (next m one c r) one b = row_chain r c b
  row_chain (next m other c r) one b = on (forth m) (row_chain r c b)
  row_chain (next m one c r) other b = on (back m) (row_chain r c b)
  row_chain (next m other c r) other b = row_chain r c b

  -- a row with its outer ends at p and q
  pub record Joins (links : List (P × P)) (p q : P) : Type 0 where
    pub start : P × P
    pub end : P × P
    pub row : Row links start end
    pub outer : EndAt start p × EndAt end q

  first_of : {links : List (P × P)} {p q r : P} → Linked links p q → (q ≡ r) ⊎ Joins links q r → Joins links p r
  first_of {p = p} {q = q} (forth m) (inl e) = record { start = (p, q); end = (p, q); row = single m; outer = (one, rw (← e) other) }
  first_of {p = p} {q = q} (forth m) (inr j) = record { start = (p, q); end = j.end; row = next m other j.outer.0 j.row; outer = (one, j.outer.1) }
  first_of {p = p} {q = q} (back m) (inl e) = record { start = (q, p); end = (q, p); row = single m; outer = (other, rw (← e) one) }
  first_of {p = p} {q = q} (back m) (inr j) = record { start = (q, p); end = j.end; row = next m one j.outer.0 j.row; outer = (other, j.outer.1) }

  -- a chain is the empty row, or such a row
  pub chain_row : {links : List (P × P)} {p q : P} → Chain links p q → (p ≡ q) ⊎ Joins links p q
  chain_row here = inl refl
  chain_row (on l c) = inr (first_of l (chain_row c))
