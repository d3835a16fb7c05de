-- What splitting at points does to a list of wires.
use Prim.Native.Nat.{ℕ, suc, ◌+◌, ◌≤◌, ◌<◌}
use mathlib.Core.Bool.{Bool, true, false, cond}
use mathlib.Core.List.Memᴰ.{append_cases as ∈-append}
use mathlib.Core.List.Memᴰ.{cases_cons as ∈-cases}
use mathlib.Core.List.Memᴰ.{eq_of_singleton as ∈-one}
use mathlib.Core.List.Memᴰ.{head as ∈-head}
use mathlib.Core.List.Memᴰ.{not-nil as ∈-nil}
use mathlib.Core.List.Memᴰ.{tail as ∈-tail}
use mathlib.Core.List.{List, [], ◌∷◌, ◌++◌}
use mathlib.Core.Path.{◌≡◌, refl, sym, subst, ◌∙◌}
use mathlib.Core.Logic.{⊎_elim, ◌⊎◌, inl, inr}
use native.Mathlib.Omega.{arith}
use lib.ListN.{length}
use Rattle.lists.specs.Lists.{◌∈◌, Rows, none, more}
use Rattle.std.specs.List.{filter, flat_map}
use Rattle.lists.proofs.Lists.{gather_in, in_gather}
use Rattle.lists.proofs.Appends.{gather_append}
use Rattle.symbol.specs.declared.Point.{Point}
use Rattle.sheet.specs.declared.Wire.{Wire}
use Rattle.sheet.specs.Geometry.{EndAt, inside, Inside, Before}
use Rattle.sheet.specs.Split.{left, right, split_one, split_at, split_all}
use Rattle.sheet.specs.Wiring.{Ended, Fits}
use Rattle.sheet.proofs.Geometry.{On, same_dir, end_on, on_cases}
use Rattle.sheet.proofs.Pieces.{Cut, entire, within_trans, within_before, within_inside, within_end, one, one_none, Within, Piece}

-- ---- one point and many wires

pub split_from : (p : Point) (ws : List Wire) {v : Wire} → v ∈ split_at p ws → (w : Wire) × w ∈ ws × v ∈ split_one p w
unfolding split_at
split_from p ws m = gather_in (split_one p) ws m

pub split_to : (p : Point) {v w : Wire} {ws : List Wire} → w ∈ ws → v ∈ split_one p w → v ∈ split_at p ws
unfolding split_at
split_to p m n = in_gather (split_one p) m n

split_none : (p : Point) (ws : List Wire) → ((w : Wire) → w ∈ ws → Inside p w → ⊥) → split_at p ws ≡ ws
unfolding split_at
split_none p [] f = refl
split_none p (w ∷ ws) f = rw (one_none p (f w (∈-head refl)), split_none p ws (λ v m. f v (∈-tail m)))

-- for lists: rows with more rows behind them
rows_append : {A : Type 0} {R : A → A → Type 0} {xs ys : List A} → Rows R xs → ((x y : A) → x ∈ xs → y ∈ ys → R x y) → Rows R ys → Rows R (xs ++ ys)
rows_append none f o = o
rows_append {ys = ys} (more {x} {xs} h s) f o = more (λ u m. ⊎_elim (h u) (λ (k : u ∈ ys). f x u (∈-head refl) k) (∈-append xs m)) (rows_append s (λ u w m n. f u w (∈-tail m) n) o)

split_order : (p : Point) {ws : List Wire} → Rows Before ws → Rows Before (split_at p ws)
unfolding split_at
split_order p none = none
split_order p (more {x = w} {xs = ws} h s) = rows_append (one p w).order
    (λ v u m n. let t = gather_in (split_one p) ws n in within_before ((one p w).from v m).within ((one p t.0).from u t.2).within (h t.0 t.1))
    (split_order p s)

-- ---- many points and many wires

cut_more : {p : Point} {qs : List Point} {w u : Wire} {m : ℕ} → Within w u → Cut qs u m → Cut (p ∷ qs) w m
cut_more {m = m} k c = let s = same_dir k.dir c.0 in (c.0, ∈-tail c.1, within_inside k c.2, omega (arith, c.3))

cut_one : {p : Point} {qs : List Point} {w : Wire} {m : ℕ} → Cut (p ∷ []) w m → Cut (p ∷ qs) w m
cut_one c = (c.0, ∈-head (∈-one c.1), c.2, c.3)

then : {x y z : ℕ} {p : Point} {qs : List Point} {w u : Wire} → Within w u → (y ≡ z) ⊎ Cut (p ∷ []) w y → (x ≡ y) ⊎ Cut qs u x → (x ≡ z) ⊎ Cut (p ∷ qs) w x
then k (inl e) (inl f) = inl (f ∙ e)
then {p = p} {qs} {w} k (inr c) (inl f) = inr (subst (Cut (p ∷ qs) w) (sym f) (cut_one c))
then k e (inr d) = inr (cut_more k d)

piece_then : {p : Point} {qs : List Point} {w u v : Wire} → Piece (p ∷ []) w u → Piece qs u v → Piece (p ∷ qs) w v
piece_then k t = record { within = within_trans k.within t.within; tip = λ s. then k.within (k.tip s) (t.tip s); fits = λ f. t.fits (k.fits f) }

-- each wire of the result is a piece of one before
pub all_from : (qs : List Point) {ws : List Wire} {v : Wire} → v ∈ split_all qs ws → (w : Wire) × w ∈ ws × Piece qs w v
unfolding split_all
all_from [] {v = v} m = (v, m, entire)
all_from (p ∷ qs) {ws} {v} m =
    let t = all_from qs m in
    let s = split_from p ws t.1 in
    (s.0, s.1, piece_then ((one p s.0).from t.0 s.2) t.2)

-- no point of the list lies strictly inside
pub all_clean : (qs : List Point) (ws : List Wire) {v : Wire} {q : Point} → v ∈ split_all qs ws → q ∈ qs → Inside q v → ⊥
unfolding split_all
all_clean [] ws m n i = ∈-nil n
all_clean (p ∷ qs) ws {v} {q} m n i = ⊎_elim
    (λ (e : q ≡ p). let t = all_from qs m in let s = split_from p ws t.1 in (one p s.0).clean t.0 s.2 (within_inside t.2.within (subst (λ x. Inside x v) e i)))
    (λ (k : q ∈ qs). all_clean qs (split_at p ws) m k i)
    (∈-cases n)

-- what lay on a wire lies on a piece of it
pub all_cover : (qs : List Point) {ws : List Wire} {w : Wire} {q : Point} → w ∈ ws → On q w → (v : Wire) × v ∈ split_all qs ws × On q v × Piece qs w v
unfolding split_all
all_cover [] {w = w} m o = (w, m, o, entire)
all_cover (p ∷ qs) {w = w} {q} m o =
    let s = (one p w).cover q o in
    let t = all_cover qs (split_to p m s.1) s.2 in
    (t.0, t.1, t.2, piece_then ((one p w).from s.0 s.1) t.3)

-- and each stretch of it too
pub all_span : (qs : List Point) {ws : List Wire} {w : Wire} → w ∈ ws → (a : ℕ) → w.start ≤ a → a < w.end → (v : Wire) × v ∈ split_all qs ws × ((v.start ≤ a) × (a < v.end)) × Piece qs w v
unfolding split_all
all_span [] {w = w} m a x y = (w, m, (x, y), entire)
all_span (p ∷ qs) {w = w} m a x y =
    let s = (one p w).span a x y in
    let t = all_span qs (split_to p m s.1) a s.2.0 s.2.1 in
    (t.0, t.1, t.2, piece_then ((one p w).from s.0 s.1) t.3)

pub all_none : (qs : List Point) (ws : List Wire) → ((q : Point) (w : Wire) → q ∈ qs → w ∈ ws → Inside q w → ⊥) → split_all qs ws ≡ ws
unfolding split_all
all_none [] ws f = refl
all_none (p ∷ qs) ws f = rw (split_none p ws (λ w m. f p w (∈-head refl) m)) (all_none qs ws (λ q w m. f q w (∈-tail m)))

pub all_untouched : (qs : List Point) {ws : List Wire} {w : Wire} → w ∈ ws → ((q : Point) → q ∈ qs → Inside q w → ⊥) → w ∈ split_all qs ws
unfolding split_all
all_untouched [] m f = m
all_untouched (p ∷ qs) {w = w} m f = all_untouched qs (split_to p m (rw (one_none p (f p (∈-head refl))) (∈-head refl))) (λ q n. f q (∈-tail n))

pub all_order : (qs : List Point) {ws : List Wire} → Rows Before ws → Rows Before (split_all qs ws)
unfolding split_all
all_order [] o = o
all_order (p ∷ qs) o = all_order qs (split_order p o)

-- an end of a wire stays one, and a point of the list on a wire becomes one

pub end_stays : (qs : List Point) {ws : List Wire} {w : Wire} {q : Point} → Fits w → w ∈ ws → EndAt q w → Ended (split_all qs ws) w.vertical q
end_stays qs f m e = let t = all_cover qs m (end_on f e.1) in record { wire = t.0; among = t.1; dir = t.3.within.dir; here = (e.0, within_end t.3.within t.2 e.1) }

pub cut_end : (qs : List Point) {ws : List Wire} {w : Wire} {q : Point} → w ∈ ws → On q w → q ∈ qs → Ended (split_all qs ws) w.vertical q
cut_end qs {ws} {q = q} m o n = let t = all_cover qs m o in
    record { wire = t.0; among = t.1; dir = t.3.within.dir; here = ⊎_elim (λ (i : Inside q t.0). absurd (all_clean qs ws t.1 n i)) (λ (e : EndAt q t.0). e) (on_cases t.2) }

-- ---- a split makes as many more wires as have the point inside

pub length_split : (p : Point) (ws : List Wire) → length (split_at p ws) ≡ length ws + length (filter (inside p) ws)
unfolding split_at split_one
length_split p [] = refl
length_split p (w ∷ ws) = step (inside p w) (length_split p ws)
  where
    step : (b : Bool) → length (flat_map (split_one p) ws) ≡ length ws + length (filter (inside p) ws)
        → length (cond b (left p w ∷ right p w ∷ []) (w ∷ []) ++ flat_map (split_one p) ws) ≡ suc (length ws) + length (cond b (w ∷ filter (inside p) ws) (filter (inside p) ws))
    step true e = omega arith
    step false e = omega arith

pub split_no_shorter : (p : Point) (ws : List Wire) → length ws ≤ length (split_at p ws)
split_no_shorter p ws = omega (arith, length_split p ws)

pub split_all_no_shorter : (qs : List Point) (ws : List Wire) → length ws ≤ length (split_all qs ws)
unfolding split_all
split_all_no_shorter [] ws = omega arith
split_all_no_shorter (q ∷ qs) ws = omega (arith, split_no_shorter q ws, split_all_no_shorter qs (split_at q ws))

pub split_all_append : (qs rs : List Point) (ws : List Wire) → split_all (qs ++ rs) ws ≡ split_all rs (split_all qs ws)
unfolding split_all
split_all_append [] rs ws = refl
split_all_append (q ∷ qs) rs ws = split_all_append qs rs (split_at q ws)

pub split_append : (p : Point) (vs ws : List Wire) → split_at p (vs ++ ws) ≡ split_at p vs ++ split_at p ws
unfolding split_at
split_append p vs ws = gather_append (split_one p) vs ws
