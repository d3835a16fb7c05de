-- Rows in order.
use mathlib.Core.Bool.{Bool}
use mathlib.Core.List.Memᴰ.{head as ∈-head}
use mathlib.Core.List.Memᴰ.{not-nil as ∈-nil}
use mathlib.Core.List.Memᴰ.{of_map as ∈-map}
use mathlib.Core.List.Memᴰ.{tail as ∈-tail}
use mathlib.Core.List.{List, [], ◌∷◌, map}
use mathlib.Core.Path.{◌≡◌, refl, sym, subst, ap₂, ◌∙◌}
use mathlib.Core.Logic.{⊎_elim, ◌⊎◌, inl, inr}
use Rattle.lists.specs.Lists.{◌∈◌, Rows, none, more, insert}
use Rattle.std.specs.List.{filter}
use Rattle.lists.proofs.Adjacent.{Adjacent, empty, single, link}
use Rattle.lists.proofs.Tests.{Reads, test, choose}
use Rattle.lists.proofs.Lists.{in_cons, keep_old, insert_in}

module _ {A : Type 0} where
  module _ {R : A → A → Type 0} where
    pub rows_head : {x : A} {xs : List A} → Rows R (x ∷ xs) → (y : A) → y ∈ xs → R x y
    rows_head (more h s) = h

    pub rows_tail : {x : A} {xs : List A} → Rows R (x ∷ xs) → Rows R xs
    rows_tail (more h s) = s

    pub rows_one : {x : A} → Rows R (x ∷ [])
    rows_one = more (λ y m. absurd (∈-nil m)) none

    pub rows_keep : (f : A → Bool) {xs : List A} → Rows R xs → Rows R (filter f xs)
    rows_keep f none = none
    rows_keep f (more {x} {xs} h s) = let k = rows_keep f s in choose (test (f x)) (Rows R) (λ t. more (λ y m. h y (keep_old f xs m)) k) (λ n. k)

    pub rows_map : {B : Type 0} (f : B → A) {xs : List B} → Rows (λ x y. R (f x) (f y)) xs → Rows R (map f xs)
    rows_map f none = none
    rows_map {B} f (more {x} {xs} h s) = more (λ y m. let k = ∈-map f xs m in subst (R (f x)) k.2 (h k.0 k.1)) (rows_map f s)

    -- two rows are one, or one stands before the other
    pub rows_two : {xs : List A} → Rows R xs → {x y : A} → x ∈ xs → y ∈ xs → (x ≡ y) ⊎ (R x y ⊎ R y x)
    rows_two none m n = elim m [ ]
    rows_two (more h s) {x} {y} (∈-head e) (∈-head e') = inl (e ∙ sym e')
    rows_two (more h s) {x} {y} (∈-head e) (∈-tail n) = inr (inl (subst (λ z. R z y) (sym e) (h y n)))
    rows_two (more h s) {x} {y} (∈-tail m) (∈-head e) = inr (inr (subst (λ z. R z x) (sym e) (h x m)))
    rows_two (more h s) {x} {y} (∈-tail m) (∈-tail n) = rows_two s m n

    pub rows_all : {S : A → A → Type 0} {xs : List A} → Rows R xs → ((x y : A) → x ∈ xs → y ∈ xs → R x y → S x y) → Rows S xs
    rows_all none f = none
    rows_all (more {x} h s) f = more (λ y m. f x y (∈-head refl) (∈-tail m) (h y m)) (rows_all s (λ y z m n. f y z (∈-tail m) (∈-tail n)))

    pub rows_both : {S Q : A → A → Type 0} {xs : List A} → Rows R xs → Rows S xs → ((x y : A) → x ∈ xs → y ∈ xs → R x y → S x y → Q x y) → Rows Q xs
    rows_both none none f = none
    rows_both (more {x} h s) (more k t) f = more (λ y m. f x y (∈-head refl) (∈-tail m) (h y m) (k y m)) (rows_both s t (λ y z m n. f y z (∈-tail m) (∈-tail n)))

    -- neighbours in order are rows in order
    pub rows_chain : {xs : List A} → Rows R xs → Adjacent R xs
    rows_chain none = empty
    rows_chain (more h none) = single
    rows_chain (more h (more {x = y} k s)) = link (h y (∈-head refl)) (rows_chain (more k s))

    pub chain_rows : ((x y z : A) → R x y → R y z → R x z) → {xs : List A} → Adjacent R xs → Rows R xs
    chain_rows trans empty = none
    chain_rows trans single = rows_one
    chain_rows trans (link {x} {y} p c) = let s = chain_rows trans c in more (λ z m. in_cons (R x) p (λ w n. trans x y w p (rows_head s w n)) m) s

    -- a row goes in where a test P puts it
    pub rows_insert : (f : A → A → Bool) (x : A) {P : A → Type 0} {ys : List A} → ((y : A) → y ∈ ys → Reads (P y) (f x y)) → Rows R ys
        → ((y : A) → y ∈ ys → P y → R x y) → ((y z : A) → y ∈ ys → z ∈ ys → P y → R y z → R x z) → ((y : A) → y ∈ ys → (P y → ⊥) → R y x) → Rows R (insert f x ys)
    unfolding insert
    rows_insert f x r none p p' q = rows_one
    rows_insert f x r (more {x = y} {xs = ys} h s) p p' q =
        let later = rows_insert f x (λ z m. r z (∈-tail m)) s (λ z m. p z (∈-tail m)) (λ z w m n. p' z w (∈-tail m) (∈-tail n)) (λ z m. q z (∈-tail m)) in
        choose (r y (∈-head refl)) (Rows R)
        (λ t. more (λ z m. in_cons (R x) (p y (∈-head refl) t) (λ w k. p' y w (∈-head refl) (∈-tail k) t (h w k)) m) (more h s))
        (λ n. more (λ z m. ⊎_elim (λ (e : z ≡ x). subst (R y) (sym e) (q y (∈-head refl) n)) (λ (k : z ∈ ys). h z k) (insert_in f x ys m)) later)

    -- rows in order are told by what is among them
    module _ (asym : (x y : A) → R x y → R y x → ⊥) where
      front : {x y : A} {xs ys : List A} → ((z : A) → z ∈ xs → R x z) → ((z : A) → z ∈ ys → R y z) → x ∈ y ∷ ys → y ∈ x ∷ xs → x ≡ y
      front {x} {y} h k (∈-head e) n = e
      front {x} {y} h k (∈-tail m) (∈-head e) = sym e
      front {x} {y} h k (∈-tail m) (∈-tail n) = absurd (asym x y (h y n) (k x m))

      behind : {x y z : A} {ys : List A} → x ≡ y → R x z → z ∈ y ∷ ys → z ∈ ys
      behind {x} {y} {z} e p (∈-head e') = let s : R z z = subst (λ w. R w z) (e ∙ sym e') p in absurd (asym z z s s)
      behind e p (∈-tail m) = m

      pub rows_ext : {xs ys : List A} → Rows R xs → Rows R ys → ((z : A) → z ∈ xs → z ∈ ys) → ((z : A) → z ∈ ys → z ∈ xs) → xs ≡ ys
      rows_ext none none f g = refl
      rows_ext none (more {x = y} h s) f g = absurd (∈-nil (g y (∈-head refl)))
      rows_ext (more {x} h s) none f g = absurd (∈-nil (f x (∈-head refl)))
      rows_ext (more {x} {xs} h s) (more {x = y} {xs = ys} k t) f g =
          let e : x ≡ y = front h k (f x (∈-head refl)) (g y (∈-head refl)) in
          ap₂ {C = List A} (λ a l. a ∷ l) e (rows_ext s t (λ z m. behind e (h z m) (f z (∈-tail m))) (λ z m. behind (sym e) (k z m) (g z (∈-tail m))))
