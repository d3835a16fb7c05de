-- A label as rows hold it is its leading part with zeros behind; what `held_label` accepts is one, and comes back as it was given.
use mathlib.Core.Path.{◌≡◌, refl, sym, ap, ◌∙◌, subst}
use Prim.Native.Nat.{ℕ, zero, suc, ◌≤◌}
use native.Mathlib.Omega.{arith}
use native.Mathlib.Nat.{le_of_suc-le-suc, not-suc-le-zero}
use mathlib.Core.Bool.{Bool, true, false, not, ◌&&◌, cond}
use mathlib.Core.List.{List, [], ◌∷◌}
use lib.Dec.{T, leb, eqb, leb→le, eqb→eq}
use lib.ListN.{length, take, length-take}
use borrow.Author.Tests.{eq-eqb, ne_eqb}
use Rattle.std.specs.List.{list_all}
use Rattle.std.proofs.lemmas.List.Sums.{take_while-cons}
use Rattle.lists.proofs.Tests.{agree, both_l, both_r, both_T}
use Rattle.label.specs.Labels.{graphic, padded, given, label_of, judged, held_label, all_zero, label_ok, label_part}
use Rattle.label.specs.declared.Label.{Label}

-- l is held for the label bs: it passes the test, and the label comes back
pub record Holds (bs l : List ℕ) : Type 0 where
  pub ok : T (label_ok l)
  pub back : label_part l ≡ bs

-- a byte that a label may have is not 0
not_zero : (b : ℕ) → T (graphic b) → b ≡ 0 → ⊥
not_zero b t e = subst (λ (x : ℕ). T (graphic x)) e t

next_part : (b : ℕ) (l : List ℕ) → T (graphic b) → label_part (b ∷ l) ≡ b ∷ label_part l
unfolding label_part
next_part b l t = take_while-cons (λ c. not (eqb c 0)) b l ∙ (λ j. cond (not (ne_eqb b 0 (not_zero b t) j)) (b ∷ label_part l) [])

-- ---- bytes that a label may have, with zeros behind
zeros : (n : ℕ) → T (all_zero (padded n []))
unfolding padded
zeros zero = tt
zeros (suc n) = zeros n

none : (n : ℕ) → Holds [] (padded n [])
unfolding padded label_ok label_part
none zero = record { ok = tt; back = refl }
none (suc n) = record { ok = zeros n; back = refl }

pub holds : (n : ℕ) (bs : List ℕ) → length bs ≤ n → T (list_all graphic bs) → Holds bs (padded n bs)
unfolding padded label_ok
holds n [] h t = none n
holds zero (b ∷ bs) h t = absurd (not-suc-le-zero h)
holds (suc n) (b ∷ bs) h t =
    let g = both_l (graphic b) (list_all graphic bs) t in
    let r = holds n bs (le_of_suc-le-suc h) (both_r (graphic b) (list_all graphic bs) t) in
    let e : graphic b ≡ true = agree (graphic b) true (λ u. tt) (λ u. g) in
    record {
      ok = subst T (sym (λ i. cond (e i) (label_ok (padded n bs)) (all_zero (b ∷ padded n bs)))) r.ok;
      back = next_part b (padded n bs) g ∙ ap {B = List ℕ} (λ x. b ∷ x) r.back;
    }

-- ---- what `held_label` accepts
pub accepted_holds : (l : Label) → (held_label l).reply ≡ 0 → Holds (given l) (held_label l).bytes
unfolding held_label
accepted_holds l e = go (leb l.length 16 && list_all graphic (given l)) (λ t. t) e
  where
    go : (b : Bool) → (T b → T (leb l.length 16 && list_all graphic (given l))) → (judged b (given l)).reply ≡ 0 → Holds (given l) (judged b (given l)).bytes
    go true f e =
        let h = leb→le l.length 16 (both_l (leb l.length 16) (list_all graphic (given l)) (f tt)) in
        holds 16 (given l) (simp length-take (omega arith)) (both_r (leb l.length 16) (list_all graphic (given l)) (f tt))
    go false f e = absurd (let z : ⊥ = omega arith in z)

-- the label of a slice
taken : (n : ℕ) (s : List ℕ) → length s ≤ n → take (length s) (padded n s) ≡ s
unfolding padded
taken n [] h = refl
taken zero (b ∷ s) h = absurd (not-suc-le-zero h)
taken (suc n) (b ∷ s) h = ap {B = List ℕ} (λ x. b ∷ x) (taken n s (le_of_suc-le-suc h))

pub slice_held : (s : List ℕ) → held_label (label_of s) ≡ judged (leb (length s) 16 && list_all graphic s) s
unfolding held_label label_of
slice_held s = go (leb (length s) 16) (λ t. taken 16 s (leb→le (length s) 16 t))
  where
    go : (b : Bool) → (T b → take (length s) (padded 16 s) ≡ s) → judged (b && list_all graphic (take (length s) (padded 16 s))) (take (length s) (padded 16 s)) ≡ judged (b && list_all graphic s) s
    go true f = λ i. judged (list_all graphic (f tt i)) (f tt i)
    go false f = refl

-- ---- a label is its leading part, of bytes that a label may have, with zeros behind
zeros_part : (l : List ℕ) → T (all_zero l) → (label_part l ≡ []) × (l ≡ padded (length l) [])
unfolding label_part padded
zeros_part [] t = (refl, refl)
zeros_part (b ∷ l) t =
    let e = eqb→eq b 0 (both_l (eqb b 0) (all_zero l) t) in
    (take_while-cons (λ c. not (eqb c 0)) b l ∙ (λ j. cond (not (eq-eqb b 0 e j)) (b ∷ label_part l) []), λ j. e j ∷ (zeros_part l (both_r (eqb b 0) (all_zero l) t)).1 j)

pub record IsLabel (l : List ℕ) : Type 0 where
  pub bytes : T (list_all graphic (label_part l))
  pub whole : l ≡ padded (length l) (label_part l)

pub ok_is_label : (l : List ℕ) → T (label_ok l) → IsLabel l
unfolding label_ok label_part padded
ok_is_label [] t = record { bytes = tt; whole = refl }
ok_is_label (b ∷ l) t = go (graphic b) refl (ok_is_label l) t
  where
    go : (g : Bool) → graphic b ≡ g → (T (label_ok l) → IsLabel l) → T (cond g (label_ok l) (all_zero (b ∷ l))) → IsLabel (b ∷ l)
    go true e ih t =
        let r = ih t in
        let g : T (graphic b) = subst T (sym e) tt in
        let q = next_part b l g in
        record {
          bytes = subst (λ (x : List ℕ). T (list_all graphic x)) (sym q) (both_T (graphic b) (list_all graphic (label_part l)) g r.bytes);
          whole = ap {B = List ℕ} (λ x. b ∷ x) r.whole ∙ sym (ap (padded (length (b ∷ l))) q);
        }
    go false e ih t =
        let z = zeros_part (b ∷ l) t in
        record { bytes = subst (λ (x : List ℕ). T (list_all graphic x)) (sym z.0) tt; whole = z.1 ∙ sym (ap (padded (length (b ∷ l))) z.0) }
