-- The walk over the components: what is counted of the pads passed, and what is left to count from pad p on, make the whole.
use Prim.Native.Nat.{ℕ, zero, suc, ◌+◌, ◌-◌, ◌<◌}
use native.Mathlib.Omega.{arith}
use mathlib.Core.Bool.{Bool, true, false, ◌&&◌, cond}
use mathlib.Core.List.{List, [], ◌∷◌, ◌++◌}
use mathlib.Core.Path.{◌≡◌, refl, sym, ap, subst, ◌∙◌}
use lib.ListN.{length, get_or, drop}
use lib.Seq.{get_or-drop, drop-drop, drop-cons}
use native.Mathlib.Numerals.{add-one}
use Rattle.std.specs.List.{filter}
use Rattle.symbol.specs.Symbols.{pads_at}
use Rattle.sheet.specs.declared.Component.{Component}
use Rattle.loose_pads.specs.Loose.{PadName, pad-v, names_of, pad_names, kinds_of}
use Rattle.loose_pads.specs.Counting.{spare, loose_by, is_loose, numbers_from, loose_pads}
use Rattle.loose_pads.specs.Walking.{counts, loose_part}
use Rattle.loose_pads.proofs.Names.{kind_names}

both_count : (a b : Bool) → counts (a && b) true ≡ counts a b
both_count true true = refl
both_count true false = refl
both_count false b = refl

-- ---- a component of a kind

pub contact_part : (kind : ℕ) (c a b : Bool) → kind ≡ 1 → loose_part kind c a b ≡ counts c true + counts a b + counts b a
contact_part kind c a b e = ap (λ k. loose_part k c a b) e

pub coil_part : (kind : ℕ) (n a b : Bool) → (kind ≡ 0 → ⊥) → (kind ≡ 1 → ⊥) → loose_part kind n a b ≡ counts n true
coil_part zero n a b f g = absurd (f refl)
coil_part (suc zero) n a b f g = absurd (g refl)
coil_part (suc (suc k)) n a b f g = refl

-- ---- the pads from one on

module _ (names : List PadName) (ns : List ℕ) where
  -- how many of the m pads from p on are loose
  unfoldable pub loose_from : ℕ → ℕ → ℕ
  loose_from p m = length (filter (is_loose names ns) (numbers_from p m))

  from_next : (p m : ℕ) → loose_from p (suc m) ≡ counts (is_loose names ns p) true + loose_from (p + 1) m
  unfolding loose_from numbers_from
  from_next p m = by (is_loose names ns p)
    where
      by : (b : Bool) → length (cond b (p ∷ filter (is_loose names ns) (numbers_from (p + 1) m)) (filter (is_loose names ns) (numbers_from (p + 1) m))) ≡ counts b true + length (filter (is_loose names ns) (numbers_from (p + 1) m))
      by true = omega arith
      by false = omega arith

  from_named : (p m : ℕ) {x : PadName} → get_or names p pad-v ≡ x → loose_from p (suc m) ≡ counts (loose_by x (spare ns (p - 1)) (spare ns p) (spare ns (p + 1))) true + loose_from (p + 1) m
  unfolding is_loose
  from_named p m e = from_next p m ∙ ap (λ (y : PadName). counts (loose_by y (spare ns (p - 1)) (spare ns p) (spare ns (p + 1))) true + loose_from (p + 1) m) e

  -- the component whose pads are those from p on
  from_part : (k p : ℕ) (more : List PadName) → drop p names ≡ names_of k ++ more
      → loose_from p (length (names_of k ++ more)) ≡ loose_part k (spare ns p) (spare ns (p + 1)) (spare ns (p + 2)) + loose_from (p + length (names_of k)) (length more)
  from_part k p more e = by k e
    where
      name : (l : List PadName) → drop p names ≡ l → (j q : ℕ) → p + j ≡ q → get_or names q pad-v ≡ get_or l j pad-v
      name l d j q r = subst (λ i. get_or names i pad-v ≡ get_or l j pad-v) r (sym (get_or-drop p names j pad-v) ∙ ap (λ (t : List PadName). get_or t j pad-v) d)

      by : (k : ℕ) → drop p names ≡ names_of k ++ more → loose_from p (length (names_of k ++ more)) ≡ loose_part k (spare ns p) (spare ns (p + 1)) (spare ns (p + 2)) + loose_from (p + length (names_of k)) (length more)
      by zero d = from_named p (length more) (name _ d 0 p (omega arith))
      by (suc zero) d =
          let m : ℕ = length more in
          let two : p + 1 + 1 ≡ p + 2 = omega arith in
          let back : p + 2 - 1 ≡ p + 1 = omega arith in
          let three : p + 2 + 1 ≡ p + 3 = omega arith in
          let c = from_named p (suc (suc m)) (name _ d 0 p (omega arith)) in
          let a = from_named (p + 1) (suc m) (name _ d 1 (p + 1) refl) ∙ ap (λ q. counts (spare ns (p + 1) && spare ns q) true + loose_from q (suc m)) two in
          let b = from_named (p + 2) m (name _ d 2 (p + 2) refl) ∙ (λ i. counts (spare ns (p + 2) && spare ns (back i)) true + loose_from (three i) m) in
          omega (arith, c, a, b, both_count (spare ns (p + 1)) (spare ns (p + 2)), both_count (spare ns (p + 2)) (spare ns (p + 1)))
      by (suc (suc j)) d = from_named p (length more) (name _ d 0 p (omega arith))

-- ---- the walk

-- a walk over the kinds, where those in `left` are still to come, from pad p on, and so many pads were loose
pub record Walked (kinds ns left : List ℕ) (p loose : ℕ) : Type 0 where
  pub named : drop p (pad_names kinds) ≡ pad_names left
  pub whole : loose + loose_from (pad_names kinds) ns p (length (pad_names left)) ≡ length (loose_pads kinds ns)

pub walk_start : (kinds ns : List ℕ) → Walked kinds ns kinds 0 0
unfolding loose_from loose_pads
walk_start kinds ns = record { named = refl; whole = omega arith }

module _ {kinds ns : List ℕ} {p loose : ℕ} where
  pub walk_next : {left : List ℕ} {k m r : ℕ} → Walked kinds ns (k ∷ left) p loose → m ≡ length (pads_at k) → r ≡ loose_part k (spare ns p) (spare ns (p + 1)) (spare ns (p + 2)) → Walked kinds ns left (p + m) (loose + r)
  unfolding pad_names
  walk_next {left} {k} {m} {r} w e f =
      let names : List PadName = pad_names kinds in
      let long : length (names_of k) ≡ m = kind_names k ∙ sym e in
      let part = from_part names ns k p (pad_names left) w.named in
      record {
        named = subst (λ j. drop (p + j) names ≡ pad_names left) long (sym (drop-drop (length (names_of k)) p names) ∙ ap (drop (length (names_of k))) w.named ∙ dropped k);
        whole = subst (λ j. loose + r + loose_from names ns (p + j) (length (pad_names left)) ≡ length (loose_pads kinds ns)) long (omega (arith, w.whole, part, f));
      }
    where
      dropped : (k : ℕ) → drop (length (names_of k)) (names_of k ++ pad_names left) ≡ pad_names left
      dropped zero = refl
      dropped (suc zero) = refl
      dropped (suc (suc j)) = refl

  -- the component at i of a list
  pub walk_row : (cs : List Component) (i : ℕ) (d : Component) → i < length cs → Walked kinds ns (kinds_of (drop i cs)) p loose
      → {m r : ℕ} → m ≡ length (pads_at (get_or cs i d).kind) → {n a b : Bool} → n ≡ spare ns p → a ≡ spare ns (p + 1) → b ≡ spare ns (p + 2) → r ≡ loose_part (get_or cs i d).kind n a b
      → Walked kinds ns (kinds_of (drop (i + 1) cs)) (p + m) (loose + r)
  walk_row cs i d h w e en ea eb f =
      let here : drop i cs ≡ get_or cs i d ∷ drop (i + 1) cs = drop-cons cs i d h ∙ ap (λ k. get_or cs i d ∷ drop k cs) (sym (add-one i)) in
      walk_next (subst (λ (l : List Component). Walked kinds ns (kinds_of l) p loose) here w) e (f ∙ (λ j. loose_part (get_or cs i d).kind (en j) (ea j) (eb j)))

  pub walk_end : Walked kinds ns [] p loose → loose ≡ length (loose_pads kinds ns)
  unfolding pad_names loose_from numbers_from
  walk_end w = omega (arith, w.whole)
