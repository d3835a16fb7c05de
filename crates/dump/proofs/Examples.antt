-- Lines of rows as they are printed.
use mathlib.Core.Path.{◌≡◌, refl}
use mathlib.Core.Bool.{true}
use mathlib.Core.List.{[], ◌∷◌}
use lib.ListN.{replicate}
use Rattle.label.specs.Labels.{label_part}
use Rattle.text.specs.Text.{digits_in, decimal_of, signed_of}
use Rattle.dump.specs.Rows.{count_word, coordinate_word, label_word, tally_line, wire_line, joint_line, component_line}

-- `T 1 2 0 2`, `W v 50 -40 40`, `J 0 -5 12`
rows : (tally_line (record { wires = 1; joints = 2; components = 0; ends = 2 }) ≡ 84 ∷ 32 ∷ 49 ∷ 32 ∷ 50 ∷ 32 ∷ 48 ∷ 32 ∷ 50 ∷ 10 ∷ [])
    × (wire_line (record { vertical = true; line = 6050; start = 5960; end = 6040 }) ≡ 87 ∷ 32 ∷ 118 ∷ 32 ∷ 53 ∷ 48 ∷ 32 ∷ 45 ∷ 52 ∷ 48 ∷ 32 ∷ 52 ∷ 48 ∷ 10 ∷ [])
    × (joint_line (record { x = 6000; y = 5995; count = 12 }) ≡ 74 ∷ 32 ∷ 48 ∷ 32 ∷ 45 ∷ 53 ∷ 32 ∷ 49 ∷ 50 ∷ 10 ∷ [])
unfolding digits_in decimal_of signed_of count_word coordinate_word tally_line wire_line joint_line
rows = (refl, refl, refl)

-- `C 1 7 0 -5 K1`, and `C 0 2 -5 0 ` with its space
components : (component_line (record { kind = 1; orientation = 7; x = 6000; y = 5995; label = 75 ∷ 49 ∷ replicate 14 0 }) ≡ 67 ∷ 32 ∷ 49 ∷ 32 ∷ 55 ∷ 32 ∷ 48 ∷ 32 ∷ 45 ∷ 53 ∷ 32 ∷ 75 ∷ 49 ∷ 10 ∷ [])
    × (component_line (record { kind = 0; orientation = 2; x = 5995; y = 6000; label = replicate 16 0 }) ≡ 67 ∷ 32 ∷ 48 ∷ 32 ∷ 50 ∷ 32 ∷ 45 ∷ 53 ∷ 32 ∷ 48 ∷ 32 ∷ 10 ∷ [])
unfolding digits_in decimal_of signed_of label_part count_word coordinate_word label_word component_line
components = (refl, refl)
