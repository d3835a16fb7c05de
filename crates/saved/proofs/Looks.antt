-- A drawing's reader looks at 20,623 bytes at most: of longer input the first 20,624 tell the answer.
use mathlib.Core.Path.{◌≡◌, refl, ap, ◌∙◌}
use mathlib.Core.Bool.{Bool, true, false}
use mathlib.Core.List.{List, [], ◌∷◌, ◌++◌}
use Prim.Native.Nat.{ℕ, ◌≤◌}
use native.Mathlib.Omega.{arith}
use lib.ListN.{length}
use Rattle.lists.proofs.Tests.{test}
use Rattle.label.specs.Labels.{graphic}
use Rattle.sheet.specs.declared.Drawing.{Drawing}
use Rattle.sheet.specs.Drawings.{drawn}
use Rattle.rules.specs.Check.{lawful}
use Rattle.groups.specs.Taken.{Taken, then}
use Rattle.groups.proofs.Told.{Told, told, not}
use Rattle.groups.proofs.Looks.{and, Uses, Within, Any, within_more, within_then, within_took, within_times, within_if, within_byte, within_range}
use Rattle.saved.specs.Reading.{take_wire, take_graphic, take_label, take_part, take_sheet, take_drawing, at_end, take_file, opened, read_file}

within_wire : (v : Bool) → Within 15 Any (take_wire v)
unfolding take_wire
within_wire v =
    within_then (within_range 0 12000) (λ line a. within_then (within_range 0 12000) (λ start b. within_then (within_range 0 12000) (λ end c. within_took _ tt)))

within_graphic : Within 1 Any take_graphic
unfolding take_graphic
within_graphic = within_byte _ _ refl (λ b s. refl) (λ b. within_if b (test (graphic b)) (λ p. tt))

within_label : Within 21 Any take_label
unfolding take_label
within_label = within_then (within_range 0 16) (λ n a. within_more {m = 16} (omega (arith, a.1)) (within_times within_graphic n))

within_part : Within 41 Any take_part
unfolding take_part
within_part =
    within_then (within_range 0 2) (λ kind a. within_then (within_range 0 7) (λ orientation b.
    within_then (within_range 200 11800) (λ x c. within_then (within_range 200 11800) (λ y d.
    within_then within_label (λ label e. within_took _ tt)))))

within_sheet : Within 20623 Any take_sheet
unfolding take_sheet
within_sheet =
    within_then (within_range 0 512) (λ h a. within_then (within_more {m = 7680} (omega (arith, a.1)) (within_times (within_wire false) h)) (λ hs b.
    within_then (within_range 0 _) (λ v c. within_then (within_more {m = 7680} (omega (arith, c.1)) (within_times (within_wire true) v)) (λ vs d.
    within_then (within_range 0 128) (λ n e. within_then (within_more {m = 5248} (omega (arith, e.1)) (within_times within_part n)) (λ cs f. within_took _ tt))))))

within_drawing : Within 20623 Any take_drawing
unfolding take_drawing
within_drawing = within_then within_sheet (λ t a. within_if (drawn t) (test (lawful (drawn t))) (λ p. tt))

-- what stands behind the first 20,624 bytes makes no difference
pub longer_input : (p t : List ℕ) → 20624 ≤ length p → read_file (p ++ t) ≡ read_file p
unfolding read_file take_file then
longer_input p t h = ap (λ u. opened (then u at_end)) (within_drawing.same p t (omega arith)) ∙ go (within_drawing.used p)
  where
    end : (d : Drawing) (s : List ℕ) → 1 ≤ length s → opened (at_end d (s ++ t)) ≡ opened (at_end d s)
    end d [] some = absurd (omega arith)
    end d (x ∷ s) some = refl

    go : {u : Taken Drawing} → Told (λ d s. Any d × Uses 20623 p s) u → opened (then (and t u) at_end) ≡ opened (then u at_end)
    go (told {a = d} {s = s} o) = end d s (omega (arith, o.1.most))
    go (not r) = refl
