-- A wire cut at marked places one after another is the wire split at the points that lie there, in whatever order those come.
use Prim.Native.Nat.{ℕ, zero, suc, ◌+◌, ◌≤◌, ◌<◌}
use native.Mathlib.Omega.{arith}
use mathlib.Core.Path.{◌≡◌, refl, sym, ap, ◌∙◌}
use mathlib.Core.List.Memᴰ.{head as ∈-head}
use mathlib.Core.List.Memᴰ.{tail as ∈-tail}
use mathlib.Core.List.{List, [], ◌∷◌, ◌++◌}
use mathlib.Core.Logic.{⊎_elim}
use mathlib.Core.Bool.{Bool, true, false, ◌&&◌, ◌||◌, cond, or-false, or_assoc}
use borrow.Author.Tests.{eq-eqb}
use lib.Dec.{eqb}
use Rattle.symbol.specs.declared.Point.{Point}
use Rattle.lists.specs.Lists.{◌∈◌}
use Rattle.std.specs.List.{list_any, flat_map}
use Rattle.sheet.specs.declared.Wire.{Wire}
use Rattle.sheet.specs.Geometry.{along, across, inside}
use Rattle.sheet.specs.Split.{up_to, from_on, split_one, split_at, split_all}
use Rattle.add_wire.specs.Marks.{strictly_in, cut_from}
use Rattle.add_wire.proofs.Cutting.{In, cut_at, cuts, skips, whether, any_cut}

-- only what is marked of the places to come counts
cut_as : (m n : ℕ → Bool) (a k : ℕ) (v : Wire) → ((c : ℕ) → a ≤ c → c < a + k → m c ≡ n c) → cut_from m a k v ≡ cut_from n a k v
unfolding cut_from
cut_as m n a zero v e = refl
cut_as m n a (suc k) v e =
    let rest : (u : Wire) → cut_from m (suc a) k u ≡ cut_from n (suc a) k u = λ u. cut_as m n (suc a) k u (λ c g l. e c (omega arith) (omega arith)) in
    λ i. cond (e a (omega arith) (omega arith) i && strictly_in a v) (up_to a v ∷ rest (from_on a v) i) (rest v i)

none_cut : (a k : ℕ) (v : Wire) → cut_from (λ c. false) a k v ≡ v ∷ []
unfolding cut_from
none_cut a zero v = refl
none_cut a (suc k) v = none_cut (suc a) k v

-- a point on the wire's line splits it as a cut at its place does
split_cut : (q : Point) (v : Wire) → v.line ≡ across v.vertical q → split_one q v ≡ cut_at (along v.vertical q) v
unfolding split_one inside
split_cut q v e = rw (eq-eqb v.line (across v.vertical q) e)

pieces_cut : (q : Point) (m : ℕ → Bool) (a k : ℕ) (v : Wire) → v.line ≡ across v.vertical q → flat_map (split_one q) (cut_from m a k v) ≡ flat_map (cut_at (along v.vertical q)) (cut_from m a k v)
unfolding cut_from
pieces_cut q m a zero v e = ap (λ (l : List Wire). l ++ []) (split_cut q v e)
pieces_cut q m a (suc k) v e = ⊎_elim
    (λ (t : (m a ≡ true) × In a v). let w = cuts m a k v t.0 t.1 in
    ap (flat_map (split_one q)) w ∙ (λ i. split_cut q (up_to a v) e i ++ pieces_cut q m (suc a) k (from_on a v) e i) ∙ sym (ap (flat_map (cut_at (along v.vertical q))) w))
    (λ (n : m a ≡ true → In a v → ⊥). let w = skips m a k v n in ap (flat_map (split_one q)) w ∙ pieces_cut q m (suc a) k v e ∙ sym (ap (flat_map (cut_at (along v.vertical q))) w))
    (whether m a k v)

-- a point on the line, whose place, if it is strictly inside, is one of the k from a on
pub record Aimed (v : Wire) (a k : ℕ) (q : Point) : Type 0 where
  pub line : v.line ≡ across v.vertical q
  pub among : In (along v.vertical q) v → (a ≤ along v.vertical q) × (along v.vertical q < a + k)

all_cut : (qs : List Point) (m : ℕ → Bool) (a k : ℕ) (v : Wire) → ((q : Point) → q ∈ qs → Aimed v a k q) → split_all qs (cut_from m a k v) ≡ cut_from (λ c. m c || list_any (λ q. eqb (along v.vertical q) c) qs) a k v
unfolding split_all split_at
all_cut [] m a k v h = cut_as m (λ c. m c || false) a k v (λ c g l. sym (or-false (m c)))
all_cut (q ∷ qs) m a k v h =
    let t = h q (∈-head refl) in
    ap (split_all qs) (pieces_cut q m a k v t.line ∙ any_cut m (along v.vertical q) a k v t.among)
    ∙ all_cut qs (λ c. m c || eqb (along v.vertical q) c) a k v (λ p i. h p (∈-tail i))
    ∙ cut_as _ _ a k v (λ c g l. or_assoc (m c) (eqb (along v.vertical q) c) (list_any (λ p. eqb (along v.vertical p) c) qs))

-- the wire split at the points, as cuts at their places
pub split_cuts : (qs : List Point) (m : ℕ → Bool) (a k : ℕ) (v : Wire) → ((q : Point) → q ∈ qs → Aimed v a k q) → ((c : ℕ) → a ≤ c → c < a + k → m c ≡ list_any (λ q. eqb (along v.vertical q) c) qs)
    → cut_from m a k v ≡ split_all qs (v ∷ [])
split_cuts qs m a k v h e =
    cut_as m (λ c. list_any (λ q. eqb (along v.vertical q) c) qs) a k v e
    ∙ sym (ap (split_all qs) (sym (none_cut a k v)) ∙ all_cut qs (λ c. false) a k v h)
