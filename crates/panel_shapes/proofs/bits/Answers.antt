-- What equals itself is no NaN.
use mathlib.Core.Path.{◌≡◌, subst}
use mathlib.Core.Bool.{false, not}
use lib.Dec.{T}
use lib.Ieee.{Float, nan, inf, fin, ne, eq, is_nan}
use Rattle.panel_shapes.proofs.bits.Goals as goal

itself : (x : Float) → ne x x ≡ false → T (not (is_nan x))
unfolding ne eq is_nan
itself nan e = subst T e tt
itself (inf s) e = tt
itself (fin s m e) f = tt

pub float_to_bits-result : goal.float_to_bits-result
float_to_bits-result c = itself c.args.f c.if-f.false
