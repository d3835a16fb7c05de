-- Commands: what the last arm of a match knows.
use mathlib.Core.Path.{◌≡◌, refl, sym, subst}
use mathlib.Core.Bool.{true, false}
use lib.Dec.{T}
use mathlib.Core.List.{[]}
use Rattle.redraw.specs.declared.Edited.{Edited}
use Rattle.script.specs.Commands.{Command, Horizontal, Vertical, Place, Delete, Turn, Mirror, Nets, Unreadable}
use Rattle.telling.specs.Told.{After, told}
use Rattle.telling.specs.Fitting.{asks_list, is_counted, reply_line}

-- ---- what is told of a command, by the two tests

pub told_list : (k : Command) → asks_list k ≡ true → k ≡ Nets
told_list (Horizontal y x1 x2) q = absurd (subst T (sym q) tt)
told_list (Vertical x y1 y2) q = absurd (subst T (sym q) tt)
told_list (Place kind orient x y label) q = absurd (subst T (sym q) tt)
told_list (Delete x y size) q = absurd (subst T (sym q) tt)
told_list (Turn x y size) q = absurd (subst T (sym q) tt)
told_list (Mirror x y size) q = absurd (subst T (sym q) tt)
told_list Nets q = refl
told_list Unreadable q = absurd (subst T (sym q) tt)

pub told_edit : (k : Command) (e : Edited) → asks_list k ≡ false → ◌≡◌ {A = After} (record { outcome = e; list = []; answer = reply_line (is_counted k) e }) (told k e)
told_edit (Horizontal y x1 x2) e q = refl
told_edit (Vertical x y1 y2) e q = refl
told_edit (Place kind orient x y label) e q = refl
told_edit (Delete x y size) e q = refl
told_edit (Turn x y size) e q = refl
told_edit (Mirror x y size) e q = refl
told_edit Nets e q = absurd (subst T q tt)
told_edit Unreadable e q = refl
