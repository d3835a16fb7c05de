-- n values read one behind the other: what a loop has read and what is left are all.
use mathlib.Core.Path.{◌≡◌, refl, sym, ap, ◌∙◌}
use mathlib.Core.List.{List, [], ◌∷◌, ◌++◌, append_assoc, append-nil}
use Prim.Native.Nat.{ℕ, suc, ◌+◌, ◌-◌, ◌≤◌, ◌<◌}
use native.Mathlib.Omega.{arith}
use lib.ListN.{length, drop}
use Rattle.lists.proofs.Tables.{length_snoc}
use Rattle.groups.specs.Taken.{Taken, took, refused, then, times}
use Rattle.file_rows.specs.Answers.{Got}

pub record SoFar {A : Type 0} (f : List ℕ → Taken A) (s : List ℕ) (n : ℕ) (whole : Taken (List A)) (i next : ℕ) (P : List A → Type 0) : Type 0 where
  pub values : List A
  pub size : length values ≡ i
  pub inside : next ≤ length s
  pub all : whole ≡ then (times f (n - i) (drop next s)) (λ ys. took (values ++ ys))
  pub so : P values

then_took : {A : Type 0} (t : Taken A) → t ≡ then t took
unfolding then
then_took (took a s) = refl
then_took (refused r) = refl

then_then : {A B C : Type 0} (t : Taken A) (f : A → List ℕ → Taken B) (g : B → List ℕ → Taken C) → then (then t f) g ≡ then t (λ a s. then (f a s) g)
unfolding then
then_then (took a s) f g = refl
then_then (refused r) f g = refl

module _ {A : Type 0} (f : List ℕ → Taken A) (s : List ℕ) where
  pub sofar_start : (n at : ℕ) {P : List A → Type 0} → at ≤ length s → P [] → SoFar f s n (times f n (drop at s)) 0 at P
  sofar_start n at h p = record { values = []; size = refl; inside = h; all = let e : n - 0 ≡ n = omega arith in rw e (then_took (times f n (drop at s))); so = p }

  inner : (k : ℕ) (xs : List A) (x : A) (r : List ℕ) → then (then (times f k r) (λ ys. took (x ∷ ys))) (λ ys. took (xs ++ ys)) ≡ then (times f k r) (λ ys. took (xs ++ x ∷ ys))
  unfolding then
  inner k xs x r = then_then (times f k r) (λ ys. took (x ∷ ys)) (λ ys. took (xs ++ ys))

  -- one value, and the rest
  one_more : (n i next : ℕ) (xs : List A) → i < n → then (times f (n - i) (drop next s)) (λ ys. took (xs ++ ys)) ≡ then (f (drop next s)) (λ x r. then (times f (n - (i + 1)) r) (λ ys. took (xs ++ x ∷ ys)))
  unfolding times
  one_more n i next xs h =
      let e : n - i ≡ suc (n - (i + 1)) = omega arith in
      ap (λ m. then (times f m (drop next s)) (λ ys. took (xs ++ ys))) e
      ∙ then_then (f (drop next s)) (λ x r. then (times f (n - (i + 1)) r) (λ ys. took (x ∷ ys))) (λ ys. took (xs ++ ys))
      ∙ (λ j. then (f (drop next s)) (λ x r. inner (n - (i + 1)) xs x r j))

  -- all are read
  end_all : (n i next : ℕ) (xs : List A) → n ≤ i → then (times f (n - i) (drop next s)) (λ ys. took (xs ++ ys)) ≡ took xs (drop next s)
  unfolding times then
  end_all n i next xs h = let e : n - i ≡ 0 = omega arith in rw e (ap (λ l. took l (drop next s)) (append-nil xs))

module _ {A : Type 0} {f : List ℕ → Taken A} {s : List ℕ} {n i next : ℕ} {whole : Taken (List A)} {P : List A → Type 0} (g : SoFar f s n whole i next P) where
  -- the next is refused
  pub sofar_stop : {r : ℕ} → i < n → refused r ≡ f (drop next s) → whole ≡ refused r
  unfolding then
  sofar_stop h e = g.all ∙ one_more f s n i next g.values h ∙ ap (λ u. then u (λ x r. then (times f (n - (i + 1)) r) (λ ys. took (g.values ++ x ∷ ys)))) (sym e)

  -- the next is read
  next_all : i < n → (next' : ℕ) (x : A) → f (drop next s) ≡ took x (drop next' s)
      → whole ≡ then (times f (n - (i + 1)) (drop next' s)) (λ ys. took ((g.values ++ (x ∷ [])) ++ ys))
  unfolding then
  next_all h next' x e =
      g.all ∙ one_more f s n i next g.values h ∙ ap (λ u. then u (λ x r. then (times f (n - (i + 1)) r) (λ ys. took (g.values ++ x ∷ ys)))) e
      ∙ (λ j. then (times f (n - (i + 1)) (drop next' s)) (λ ys. took (sym (append_assoc g.values (x ∷ []) ys) j)))

  pub sofar_next : {P' : List A → Type 0} {next' : ℕ} (x : A) → i < n → took x (drop next' s) ≡ f (drop next s) → next' ≤ length s
      → ((xs : List A) → P xs → P' (xs ++ (x ∷ []))) → SoFar f s n whole (i + 1) next' P'
  sofar_next {next' = next'} x h e l p = record {
    values = g.values ++ (x ∷ []);
    size = length_snoc g.values x ∙ ap (λ k. k + 1) g.size;
    inside = l;
    all = next_all h next' x (sym e);
    so = p g.values g.so;
  }

  -- all are read
  pub sofar_end : {R : List A → Type 0} → n ≤ i → ((xs : List A) → P xs → R xs) → Got whole s next R
  sofar_end h r = record { value = g.values; is = g.all ∙ end_all f s n i next g.values h; inside = g.inside; so = r g.values g.so }
