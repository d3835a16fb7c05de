-- The bytes of the wires of a direction, from an index on: a wire's, if it is of the direction, and those of the wires behind it.
use mathlib.Core.Path.{◌≡◌, sym, ap, ◌∙◌}
use mathlib.Core.Bool.{Bool, true, false, cond, beq}
use mathlib.Core.List.{List, ◌∷◌, ◌++◌}
use Prim.Native.Nat.{ℕ, ◌+◌, ◌≤◌, ◌<◌}
use native.Mathlib.Numerals.{add-one}
use native.Mathlib.Omega.{arith}
use lib.ListN.{length, get_or, drop, length-append}
use lib.Seq.{drop-cons}
use Rattle.std.specs.List.{flat_map}
use Rattle.sheet.specs.declared.Wire.{Wire}
use Rattle.saved.specs.File.{wire_bytes, directed}

-- the bytes of those from i on
abbrev pub left : Bool → List Wire → ℕ → List ℕ
left v ws i = flat_map wire_bytes (directed v (drop i ws))

module _ (v : Bool) (ws : List Wire) (i : ℕ) (d : Wire) (h : i < length ws) where
  here : drop i ws ≡ get_or ws i d ∷ drop (i + 1) ws
  here = drop-cons ws i d h ∙ ap (λ k. get_or ws i d ∷ drop k ws) (sym (add-one i))

  pub of_it : beq (get_or ws i d).vertical v ≡ true → left v ws i ≡ wire_bytes (get_or ws i d) ++ left v ws (i + 1)
  of_it e = ap (λ l. flat_map wire_bytes (directed v l)) here ∙ (λ j. flat_map wire_bytes (cond (e j) (get_or ws i d ∷ directed v (drop (i + 1) ws)) (directed v (drop (i + 1) ws))))

  pub not_of_it : beq (get_or ws i d).vertical v ≡ false → left v ws i ≡ left v ws (i + 1)
  not_of_it e = ap (λ l. flat_map wire_bytes (directed v l)) here ∙ (λ j. flat_map wire_bytes (cond (e j) (get_or ws i d ∷ directed v (drop (i + 1) ws)) (directed v (drop (i + 1) ws))))
