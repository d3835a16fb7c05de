-- Beside the calls: the edits of document 01 ("Edits") by number, as scripts of a timing hold them.
use Rattle.std.specs.Prelude.{ℕ, ◌/◌, ◌%◌, ◌-◌, true, false, cond, ◌∷◌, eqb, ltb, ℤ, replicate}
use Rattle.label.specs.declared.Label.{Label}
use Rattle.sheet.specs.declared.Drawing.{Drawing}
use Rattle.sheet.specs.declared.Tally.{Tally}
use Rattle.redraw.specs.declared.Edited.{Edited}
use Rattle.redraw.specs.Calls.{add_wire, add_component, delete_at, rotate_at, mirror_at}

-- every component is labelled K
abbrev pub label : Label
label = record { bytes = 75 ∷ replicate 15 0; length = 1 }

-- a component of the kind what / 8 - 1, in the orientation what % 8
unfoldable pub place_by : ℕ → ℤ → ℤ → Drawing → Tally → Edited
place_by what x y d t = add_component d (what / 8 - 1) (what % 8) x y label t

-- 0 and 1 a wire, 2 delete, 3 turn right, 4 to 7 mirror, from 8 on a component
unfoldable pub edit_of : ℕ → ℤ → ℤ → ℤ → Drawing → Tally → Edited
edit_of what x y z d t =
    cond (ltb what 8)
    (cond (eqb what 0) (add_wire d false x y z t)
    (cond (eqb what 1) (add_wire d true x y z t)
    (cond (eqb what 2) (delete_at d x y z t)
    (cond (eqb what 3) (rotate_at d x y z t) (mirror_at d x y z t)))))
    (place_by what x y d t)
