-- Laws of lists of rows: what is among them, tests over them, rows inserted and gathered.
use mathlib.Core.Bool.{Bool}
use mathlib.Core.List.Memᴰ.{append_cases as ∈-append}
use mathlib.Core.List.Memᴰ.{append_left as ∈-left}
use mathlib.Core.List.Memᴰ.{append_right as ∈-right}
use mathlib.Core.List.Memᴰ.{cases_cons as ∈-cases}
use mathlib.Core.List.Memᴰ.{cast as ∈-cast}
use mathlib.Core.List.Memᴰ.{head as ∈-head}
use mathlib.Core.List.Memᴰ.{not-nil as ∈-nil}
use mathlib.Core.List.Memᴰ.{tail as ∈-tail}
use mathlib.Core.List.{List, [], ◌∷◌}
use mathlib.Core.Path.{◌≡◌, refl, sym, subst, ap}
use mathlib.Core.Logic.{⊎_elim, ◌⊎◌, inl, inr}
use Rattle.lists.specs.Lists.{◌∈◌, Rows, none, more, pairs, links, insert}
use Rattle.std.specs.List.{list_any, list_all, filter, flat_map}
use Rattle.lists.proofs.Adjacent.{Adjacent, empty, single, link}
use Rattle.lists.proofs.Tests.{Reads, pass, fail, test, choose, reads_as, and_reads, or_reads}

module _ {A : Type 0} where
  -- what holds of the first row and of the others holds of each
  pub in_cons {ℓ} : {x y : A} {xs : List A} (P : A → Type ℓ) → P y → ((z : A) → z ∈ xs → P z) → x ∈ y ∷ xs → P x
  in_cons P f g (∈-head e) = subst P (sym e) f
  in_cons {x} P f g (∈-tail m) = g x m

  pub in_one {ℓ} : {x y : A} (P : A → Type ℓ) → P y → x ∈ y ∷ [] → P x
  in_one P f m = in_cons P f (λ z n. absurd (∈-nil n)) m

  -- ---- tests over a list

  module _ {P : A → Type 0} {f : A → Bool} (r : (x : A) → Reads (P x) (f x)) where
    pub any_reads : (xs : List A) → Reads ((x : A) × x ∈ xs × P x) (list_any f xs)
    any_reads [] = fail (λ t. ∈-nil t.1)
    any_reads (x ∷ xs) = reads_as (into, out) (or_reads (r x) (any_reads xs))
      where
        into : P x ⊎ ((y : A) × y ∈ xs × P y) → (y : A) × y ∈ x ∷ xs × P y
        into (inl p) = (x, ∈-head refl, p)
        into (inr t) = (t.0, ∈-tail t.1, t.2)

        out : (y : A) × y ∈ x ∷ xs × P y → P x ⊎ ((y : A) × y ∈ xs × P y)
        out t = in_cons (λ z. P z → P x ⊎ ((y : A) × y ∈ xs × P y)) inl (λ z m p. inr (z, m, p)) t.1 t.2

    pub all_reads : (xs : List A) → Reads ((x : A) → x ∈ xs → P x) (list_all f xs)
    all_reads [] = pass (λ x m. absurd (∈-nil m))
    all_reads (x ∷ xs) = reads_as (λ t y m. in_cons P t.0 t.1 m, λ h. (h x (∈-head refl), λ y m. h y (∈-tail m))) (and_reads (r x) (all_reads xs))

    -- ---- the rows that pass

    pub keep_in : (xs : List A) {x : A} → x ∈ filter f xs → x ∈ xs × P x
    keep_in [] m = absurd (∈-nil m)
    keep_in (y ∷ ys) {x} m =
        let later : (z : A) → z ∈ filter f ys → z ∈ y ∷ ys × P z = λ z k. let t = keep_in ys k in (∈-tail t.0, t.1) in
        choose (r y) (λ l. x ∈ l → x ∈ y ∷ ys × P x) (λ p. in_cons (λ z. z ∈ y ∷ ys × P z) (∈-head refl, p) later) (λ n. later x) m

    pub in_keep : {x : A} {xs : List A} → x ∈ xs → P x → x ∈ filter f xs
    in_keep {x} (∈-head {x = y} {xs = ys} e) p = choose (r y) (λ l. x ∈ l) (λ s. ∈-head e) (λ n. absurd (n (subst P e p)))
    in_keep {x} (∈-tail {x = y} {xs = ys} m) p = let k = in_keep m p in choose (r y) (λ l. x ∈ l) (λ s. ∈-tail k) (λ n. k)

    pub keep_all : (xs : List A) → ((x : A) → x ∈ xs → P x) → filter f xs ≡ xs
    keep_all [] h = refl
    keep_all (x ∷ xs) h = let ih = keep_all xs (λ y m. h y (∈-tail m)) in choose (r x) (λ l. l ≡ x ∷ xs) (λ p. ap {B = List A} (λ l. x ∷ l) ih) (λ n. absurd (n (h x (∈-head refl))))

    pub keep_none : (xs : List A) → ((x : A) → x ∈ xs → P x → ⊥) → filter f xs ≡ []
    keep_none [] h = refl
    keep_none (x ∷ xs) h = let ih = keep_none xs (λ y m. h y (∈-tail m)) in choose (r x) (λ l. l ≡ []) (λ p. absurd (h x (∈-head refl) p)) (λ n. ih)

  pub keep_old : (f : A → Bool) (xs : List A) {x : A} → x ∈ filter f xs → x ∈ xs
  keep_old f xs m = (keep_in (λ z. test (f z)) xs m).0

  pub pairs_reads : {R : A → A → Type 0} {f : A → A → Bool} → ((x y : A) → Reads (R x y) (f x y)) → (xs : List A) → Reads (Rows R xs) (pairs f xs)
  unfolding pairs
  pairs_reads r [] = pass none
  pairs_reads {R} r (x ∷ xs) = reads_as (λ t. more t.0 t.1, out) (and_reads (all_reads (r x) xs) (pairs_reads r xs))
    where
      out : Rows R (x ∷ xs) → ((y : A) → y ∈ xs → R x y) × Rows R xs
      out (more h s) = (h, s)

  pub links_reads : {R : A → A → Type 0} {f : A → A → Bool} → ((x y : A) → Reads (R x y) (f x y)) → (xs : List A) → Reads (Adjacent R xs) (links f xs)
  unfolding links
  links_reads r [] = pass empty
  links_reads r (x ∷ []) = pass single
  links_reads {R} r (x ∷ (y ∷ ys)) = reads_as (λ t. link t.0 t.1, out) (and_reads (r x y) (links_reads r (y ∷ ys)))
    where
      out : Adjacent R (x ∷ y ∷ ys) → R x y × Adjacent R (y ∷ ys)
      out (link p c) = (p, c)

  -- ---- insertion and gathering

  pub insert_in : (f : A → A → Bool) (x : A) (ys : List A) {z : A} → z ∈ insert f x ys → (z ≡ x) ⊎ (z ∈ ys)
  unfolding insert
  insert_in f x [] m = ∈-cases m
  insert_in f x (y ∷ ys) {z} m =
      let later : (w : A) → w ∈ insert f x ys → (w ≡ x) ⊎ (w ∈ y ∷ ys) = λ w k. ⊎_elim inl (λ (t : w ∈ ys). inr (∈-tail t)) (insert_in f x ys k) in
      choose (test (f x y)) (λ l. z ∈ l → (z ≡ x) ⊎ (z ∈ y ∷ ys)) (λ t. ∈-cases) (λ n. in_cons (λ w. (w ≡ x) ⊎ (w ∈ y ∷ ys)) (inr (∈-head refl)) later) m

  pub in_insert : (f : A → A → Bool) (x : A) (ys : List A) {z : A} → (z ≡ x) ⊎ (z ∈ ys) → z ∈ insert f x ys
  unfolding insert
  in_insert f x [] (inl e) = ∈-head e
  in_insert f x [] (inr m) = absurd (∈-nil m)
  in_insert f x (y ∷ ys) {z} (inl e) = let k = in_insert f x ys (inl e) in choose (test (f x y)) (λ l. z ∈ l) (λ t. ∈-head e) (λ n. ∈-tail k)
  in_insert f x (y ∷ ys) {z} (inr m) =
      let later : (w : A) → w ∈ ys → w ∈ y ∷ insert f x ys = λ w k. ∈-tail (in_insert f x ys (inr k)) in
      choose (test (f x y)) (λ l. z ∈ l) (λ t. ∈-tail m) (λ n. in_cons (λ w. w ∈ y ∷ insert f x ys) (∈-head refl) later m)

  -- the new row, and the old ones
  pub insert_new : (f : A → A → Bool) (x : A) (ys : List A) → x ∈ insert f x ys
  insert_new f x ys = in_insert f x ys (inl refl)

  pub insert_old : (f : A → A → Bool) (x : A) {ys : List A} {z : A} → z ∈ ys → z ∈ insert f x ys
  insert_old f x {ys} m = in_insert f x ys (inr m)

  -- each row of the first list goes into the second
  unfoldable pub insert_all : (A → A → Bool) → List A → List A → List A
  insert_all f [] ys = ys
  insert_all f (x ∷ xs) ys = insert f x (insert_all f xs ys)

  pub insert_all_in : (f : A → A → Bool) (xs ys : List A) {z : A} → z ∈ insert_all f xs ys → (z ∈ xs) ⊎ (z ∈ ys)
  unfolding insert_all
  insert_all_in f [] ys m = inr m
  insert_all_in f (x ∷ xs) ys {z} m = ⊎_elim
      (λ (e : z ≡ x). inl (∈-head e))
      (λ (k : z ∈ insert_all f xs ys). ⊎_elim (λ (t : z ∈ xs). inl (∈-tail t)) inr (insert_all_in f xs ys k))
      (insert_in f x (insert_all f xs ys) m)

  pub insert_all_new : (f : A → A → Bool) {z : A} {xs : List A} (ys : List A) → z ∈ xs → z ∈ insert_all f xs ys
  unfolding insert_all
  insert_all_new f ys (∈-head {x} {xs} e) = ∈-cast e (insert_new f x (insert_all f xs ys))
  insert_all_new f ys (∈-tail {x} m) = insert_old f x (insert_all_new f ys m)

  pub insert_all_old : (f : A → A → Bool) (xs : List A) {ys : List A} {z : A} → z ∈ ys → z ∈ insert_all f xs ys
  unfolding insert_all
  insert_all_old f [] m = m
  insert_all_old f (x ∷ xs) m = insert_old f x (insert_all_old f xs m)

  pub gather_in : {B : Type 0} (f : A → List B) (xs : List A) {b : B} → b ∈ flat_map f xs → (x : A) × x ∈ xs × b ∈ f x
  gather_in f [] m = absurd (∈-nil m)
  gather_in f (x ∷ xs) {b} m =
      ⊎_elim (λ (l : b ∈ f x). (x, ∈-head refl, l)) (λ (t : b ∈ flat_map f xs). let k = gather_in f xs t in (k.0, ∈-tail k.1, k.2)) (∈-append (f x) m)

  pub in_gather : {B : Type 0} (f : A → List B) {x : A} {xs : List A} {b : B} → x ∈ xs → b ∈ f x → b ∈ flat_map f xs
  in_gather f {b = b} (∈-head {x = y} {xs = ys} e) m = ∈-left (flat_map f ys) (subst (λ z. b ∈ f z) e m)
  in_gather f (∈-tail {x = y} m') m = ∈-right (f y) (in_gather f m' m)
