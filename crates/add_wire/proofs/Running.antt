-- The run of a new wire, one row after another.
use Prim.Native.Nat.{ℕ, ◌+◌, ◌<◌, min, max}
use native.Mathlib.Omega.{arith}
use mathlib.Core.Path.{◌≡◌, refl, sym, ap, ◌∙◌}
use mathlib.Core.List.{List, [], ◌∷◌, ◌++◌}
use mathlib.Core.Bool.{Bool, true, false, cond}
use lib.ListN.{length, take, get_or}
use Rattle.lists.proofs.Passes.{take_more}
use Rattle.sheet.specs.declared.Wire.{Wire}
use Rattle.sheet.specs.Geometry.{meets}
use Rattle.sheet.specs.Run.{stretch, run}

both_ways : (r w a : Wire) → stretch (stretch r w) a ≡ stretch (stretch r a) w
both_ways r w a =
    let s : min (min r.start w.start) a.start ≡ min (min r.start a.start) w.start = omega arith in
    let e : max (max r.end w.end) a.end ≡ max (max r.end a.end) w.end = omega arith in
    λ i. record { vertical = r.vertical; line = r.line; start = s i; end = e i }

run_snoc : (n : Wire) (ws : List Wire) (w : Wire) → run n (ws ++ (w ∷ [])) ≡ cond (meets n w) (stretch (run n ws) w) (run n ws)
unfolding run
run_snoc n [] w = refl
run_snoc n (a ∷ ws) w = ap (λ (r : Wire). cond (meets n a) (stretch r a) r) (run_snoc n ws w) ∙ step (meets n a) (meets n w) (run n ws)
  where
    step : (x y : Bool) (r : Wire) → cond x (stretch (cond y (stretch r w) r) a) (cond y (stretch r w) r) ≡ cond y (stretch (cond x (stretch r a) r) w) (cond x (stretch r a) r)
    step true true r = both_ways r w a
    step true false r = refl
    step false true r = refl
    step false false r = refl

module _ (n : Wire) (l : List Wire) {i : ℕ} {r : Wire} (d : Wire) (o : r ≡ run n (take i l)) where
  pub run_yes : meets n (get_or l i d) ≡ true → i < length l → stretch r (get_or l i d) ≡ run n (take (i + 1) l)
  run_yes e h = ap (λ (t : Wire). stretch t (get_or l i d)) o ∙ sym (ap (run n) (take_more l i d h) ∙ run_snoc n (take i l) (get_or l i d) ∙ rw e)

  pub run_no : meets n (get_or l i d) ≡ false → i < length l → r ≡ run n (take (i + 1) l)
  run_no e h = o ∙ sym (ap (run n) (take_more l i d h) ∙ run_snoc n (take i l) (get_or l i d) ∙ rw e)
