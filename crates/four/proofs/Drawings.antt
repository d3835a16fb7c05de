-- The translated drawing: its lists are the translated lists, and the drawing of the translated lists is the translated drawing.
use Prim.Native.Nat.{ℕ, zero, suc, ◌-◌}
use mathlib.Core.List.{List, ◌∷◌, ◌++◌, map}
use mathlib.Core.Path.{◌≡◌, refl, sym, ap, ◌∙◌}
use lib.ListN.{length, take, drop, length-map, replicate}
use lib.Seq.{take-append_seam, drop-append_seam}
use Rattle.lists.specs.Tables.{pad}
use Rattle.lists.proofs.Mapped.{front}
use Rattle.sheet.specs.declared.Component.{Component}
use Rattle.sheet.specs.declared.Drawing.{Drawing}
use Rattle.sheet.specs.Drawings.{Sheet, zero_component, wire_table, joint_table, lists_of, drawn}
use Rattle.four.specs.Plans.{zero_part}
use Rattle.four.specs.Plans as Four
use Rattle.four.specs.Request1.{four, behind, four_drawing}
use Rattle.four.proofs.Sheets.{fours, same_joints}

pub lists_same : (d : Drawing) → Four.lists_of (four_drawing d) ≡ fours (lists_of d)
lists_same d = λ i. record { wires = (lists_of d).wires; parts = front four behind d.components.count d.components.rows i }

map_replicate : {A B : Type 0} (g : A → B) (n : ℕ) (x : A) → map g (replicate n x) ≡ replicate n (g x)
map_replicate g zero x = refl
map_replicate {B} g (suc n) x = ap (λ (k : List B). g x ∷ k) (map_replicate g n x)

-- the rows in use, and those behind, of a padded table
padded_four : (n : ℕ) (xs : List Component) → pad n zero_part (map four xs) ≡ map four (take (length xs) (pad n zero_component xs)) ++ map behind (drop (length xs) (pad n zero_component xs))
unfolding pad
padded_four n xs =
    let rest : replicate (n - length (map four xs)) zero_part ≡ map behind (replicate (n - length xs) zero_component) =
    ap (λ (k : ℕ). replicate (n - k) zero_part) (length-map xs four) ∙ sym (map_replicate behind (n - length xs) zero_component)
    in
    (λ i. map four xs ++ rest i)
    ∙ sym (λ i. map four (take-append_seam xs (replicate (n - length xs) zero_component) i) ++ map behind (drop-append_seam xs (replicate (n - length xs) zero_component) i))

pub drawn_same : (s : Sheet) → Four.drawn (fours s) ≡ four_drawing (drawn s)
unfolding drawn Four.drawn
drawn_same s = λ i. record { wires = wire_table s.wires; components = record { rows = padded_four 128 s.parts i; count = length-map s.parts four i }; joints = joint_table (same_joints s i) }
