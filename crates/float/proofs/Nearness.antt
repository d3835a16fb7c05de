-- What `round` makes at binary32 of N units, where these are below 8,192: a float within 1/4,096 of them, and 0 only from 0.
-- The multiple of the last place nearest to N is within half a last place, and that is 1/4,096 at most.
use mathlib.Core.Path.{◌≡◌, sym, ap, ◌∙◌, subst}
use Prim.Native.Nat.{ℕ, zero, suc, ◌+◌, ◌-◌, ◌*◌, ◌/◌, ◌%◌, ◌^◌, ◌≤◌, ◌<◌, compare, Ordering}
use native.Mathlib.Nat.{le_trans, le_of_eq, lt_of_le_of_lt, mul_comm, mul-le-mul_right, mul-lt-mul_of_pos_right, le_of_mul-le-mul_right, mul-pos, one-mul, div-add-mod', le-div_iff_mul-le, div-lt_iff_lt-mul, mod-lt, zero-lt-suc}
use native.Mathlib.Omega.{arith}
use mathlib.Core.Bool.{Bool, not}
use lib.Dec.{T, is_le, compare_is_eq, leb→le, nleb→lt, lit≤, lit<, eqb→eq}
use lib.Pow.{pow_pos, pow_mono}
use lib.Ieee.{Float, nan, inf, fin, binary32, up, down, size, nearest, round}
use lib.Ieee.Digits.{size-lt, size-le, size_reaches}
use lib.Ieee.Fits.{round_is, down_pos}
use lib.Ieee.Exact.{HasValue, units_val}
use lib.Ieee.Nearest.{closest, nearest-ge}
use Rattle.float.specs.Close.{unit}

-- ---- the multiple of b nearest to a is within b / 2 of it

abbrev Half : ℕ → ℕ → ℕ → Type 0
Half q a b = (q * b * 2 ≤ a * 2 + b) × (a * 2 ≤ q * b * 2 + b)

closest_near : (a b : ℕ) → 0 < b → Half (closest a b) a b
closest_near a b B = go (compare (a % b * 2) b) (leb→le (a % b * 2) b) (nleb→lt (a % b * 2) b) (eqb→eq (a % b * 2) b)
  where
    stay : (w r : ℕ) → w * b + r ≡ a → r * 2 ≤ b → Half w a b
    stay w r e h = omega arith

    next : (w r : ℕ) → w * b + r ≡ a → b < r * 2 → r < b → Half (suc w) a b
    next w r e h l = omega arith

    tie : (w r t : ℕ) → t < 2 → w * b + r ≡ a → r * 2 ≡ b → Half (w + t) a b
    tie w r zero l e h = omega arith
    tie w r (suc zero) l e h = omega arith
    tie w r (suc (suc t)) l e h = omega arith

    go : (o : Ordering) → (T (is_le o) → a % b * 2 ≤ b) → (T (not (is_le o)) → b < a % b * 2) → (T (compare_is_eq o) → a % b * 2 ≡ b) → Half (nearest (a / b) o) a b
    go Ordering.lt h k e = stay (a / b) (a % b) (div-add-mod' a b) (h tt)
    go Ordering.eq h k e = tie (a / b) (a % b) (a / b % 2) (mod-lt (a / b) (zero-lt-suc 1)) (div-add-mod' a b) (e tt)
    go Ordering.gt h k e = next (a / b) (a % b) (div-add-mod' a b) (k tt) (mod-lt a B)

-- ---- the last place: a fraction below 2 ^ 13 is below 2 ^ 162 of the smallest values, so at most 138 digits are dropped

last_place : (N : ℕ) → N < 2 ^ 37 → 2 ^ (size (N * 2 ^ 149 / unit) - 24) * 2048 ≤ 2 ^ 149
last_place N h = mul-le-mul_right 2048 (pow_mono (dropped (size-le (N * 2 ^ 149 / unit) 162 ((div-lt_iff_lt-mul (pow_pos 24)).1 (mul-lt-mul_of_pos_right {n = 2 ^ 37} h (pow_pos 149))))))
  where
    dropped : {z : ℕ} → z ≤ 162 → z - 24 ≤ 138
    dropped h = omega arith

-- g smallest values, of which L make 1, are within 1/4,096 of N units, of which D make 1
abbrev Within : (g D N L : ℕ) → Type 0
Within g D N L = (g * D * 4096 ≤ N * L * 4096 + D * L) × (N * L * 4096 ≤ g * D * 4096 + D * L)

spread : (q p D N L : ℕ) → p * 2048 ≤ L → Half q (N * L) (D * p) → Within (q * p) D N L
spread q p D N L h (a, b) = omega (arith, mul-le-mul_right D h)

-- the same of the fraction M / d that has the value of g smallest values
within_at : (g D N L d M : ℕ) → 0 < L → M * L ≡ g * d → Within g D N L → Within M D N d
within_at g D N L d M P e (a, b) = (
  le_of_mul-le-mul_right (omega (arith, mul-le-mul_right d a, ap (λ (z : ℕ). z * D) e)) P,
  le_of_mul-le-mul_right (omega (arith, mul-le-mul_right d b, ap (λ (z : ℕ). z * D) e)) P,
)

-- no overflow
cap : (g N L : ℕ) → N < 2 ^ 37 → g * unit * 4096 ≤ N * L * 4096 + unit * L → g ≤ 2 ^ 14 * L
cap g N L l h = omega (arith, mul-le-mul_right {n = 2 ^ 37} L (below l))
  where
    below : {a b : ℕ} → a < b → a ≤ b
    below h = omega arith

-- ---- what is not 0 does not round to 0: its first digit is kept

kept : (N : ℕ) → 0 < N → 0 < closest (N * 2 ^ 149) (unit * 2 ^ (size (N * 2 ^ 149 / unit) - 24))
kept N h =
    let n = N * 2 ^ 149 in
    let w = n / unit in
    let k = size w - 24 in
    let u = unit * 2 ^ k in
    let w1 : 0 < w = (le-div_iff_mul-le (pow_pos 24)).1 (le_trans {m = 1 * 2 ^ 149} (lit≤ tt) (mul-le-mul_right (2 ^ 149) h)) in
    let r : 2 ^ k ≤ w = size_reaches w k (less (some w (size w) w1 (size-lt w))) in
    let e : 1 * u ≤ n = le_trans (le_of_eq (one-mul u ∙ mul_comm unit (2 ^ k))) ((le-div_iff_mul-le (pow_pos 24)).0 r) in
    le_trans ((le-div_iff_mul-le (mul-pos (pow_pos 24) (pow_pos k))).1 e) (nearest-ge (n / u) (compare (n % u * 2) u))
  where
    less : {z : ℕ} → 0 < z → z - 24 < z
    less h = omega arith

    some : (x z : ℕ) → 0 < x → x < 2 ^ z → 0 < z
    some x zero h l = omega arith
    some x (suc z) h l = zero-lt-suc z

-- ---- together

-- x has the sign s, is within 1/4,096 of N units, and is 0 only where N is
abbrev pub Rounded : Float → Bool → ℕ → Type 0
Rounded nan s N = ⊥
Rounded (inf t) s N = ⊥
Rounded (fin t m e) s N = (t ≡ s) × (Within (m * up e) unit N (down e) × (0 < N → 0 < m))

pub round_near : (s : Bool) (N : ℕ) → N < 2 ^ 37 → Rounded (round binary32 s N unit) s N
round_near s N h =
    let n = N * 2 ^ 149 in
    let k = size (n / unit) - 24 in
    let q = closest n (unit * 2 ^ k) in
    let near = spread q (2 ^ k) unit N (2 ^ 149) (last_place N h) (closest_near n (unit * 2 ^ k) (mul-pos (pow_pos 24) (pow_pos k))) in
    let fine : q * 2 ^ k < 2 ^ 277 = lt_of_le_of_lt (cap (q * 2 ^ k) N (2 ^ 149) h near.0) (lit< tt) in
    go (round binary32 s N unit) (q * 2 ^ k) (subst (λ (x : Float). HasValue x s (q * 2 ^ k) (2 ^ 149)) (sym (round_is binary32 s N unit)) (units_val binary32 s q k fine)) near (λ g. mul-pos (kept N g) (pow_pos k))
  where
    some : (m u L r : ℕ) → m * u * L ≡ r → 0 < r → 0 < m
    some zero u L r e h = omega arith
    some (suc m) u L r e h = zero-lt-suc m

    go : (x : Float) (g : ℕ) → HasValue x s g (2 ^ 149) → Within g unit N (2 ^ 149) → (0 < N → 0 < g) → Rounded x s N
    go nan g v a b = v
    go (inf t) g v a b = v
    go (fin t m e) g v a b = (v.0, (within_at g unit N (2 ^ 149) (down e) (m * up e) (pow_pos 149) v.1 a, λ l. some m (up e) (2 ^ 149) (g * down e) v.1 (mul-pos (b l) (down_pos e))))
