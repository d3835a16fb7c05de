-- Placing many components in turn: what stands afterwards, and what is lost.
use Prim.Native.Nat.{suc, ◌+◌, ◌≤◌}
use mathlib.Core.List.Memᴰ.{cases_cons as ∈-cases}
use mathlib.Core.List.Memᴰ.{head as ∈-head}
use mathlib.Core.List.Memᴰ.{not-nil as ∈-nil}
use mathlib.Core.List.Memᴰ.{tail as ∈-tail}
use mathlib.Core.List.{List, [], ◌∷◌}
use mathlib.Core.Path.{◌≡◌, refl, subst}
use mathlib.Core.Logic.{⊎_elim, ◌⊎◌, inl, inr}
use native.Mathlib.Omega.{arith}
use lib.ListN.{length}
use Rattle.lists.specs.Lists.{◌∈◌, insert, Rows, none, more}
use Rattle.lists.proofs.Tests.{choose}
use Rattle.lists.proofs.Lists.{insert_in, in_insert}
use Rattle.lists.proofs.Appends.{length_insert}
use Rattle.sheet.specs.declared.Component.{Component}
use Rattle.sheet.specs.Boxes.{Shares}
use Rattle.sheet.specs.Parts.{box, ahead, PartFits}
use Rattle.sheet.specs.Drawings.{Sheet}
use Rattle.sheet.proofs.Wiring.{Good}
use Rattle.sheet.specs.Edits.{place_one, gone, place_all, Placed}
use Rattle.sheet.proofs.Boxes.{shares_mirror}
use Rattle.sheet.proofs.Edits.{Clear, touched_reads, place_good}

pub place_all_good : (cs : List Component) (s : Sheet) → ((c : Component) → c ∈ cs → PartFits c) → Good s → Good (place_all cs s).sheet
unfolding place_all
place_all_good [] s fits g = g
place_all_good (c ∷ cs) s fits g = choose (touched_reads c s.parts) (λ (o : Placed). Good o.sheet)
    (λ t. place_all_good cs s (λ b m. fits b (∈-tail m)) g)
    (λ n. place_all_good cs (place_one c s) (λ b m. fits b (∈-tail m)) (place_good c s (fits c (∈-head refl)) g (λ b m s. n (b, m, s))))

pub place_all_count : (cs : List Component) (s : Sheet) → length (place_all cs s).sheet.parts + (place_all cs s).lost ≡ length s.parts + length cs
unfolding place_all place_one
place_all_count [] s = refl
place_all_count (c ∷ cs) s = choose (touched_reads c s.parts) (λ (o : Placed). length o.sheet.parts + o.lost ≡ length s.parts + suc (length cs))
    {x = gone (place_all cs s)} {y = place_all cs (place_one c s)}
    (λ t. omega (arith, place_all_count cs s))
    (λ n. omega (arith, place_all_count cs (place_one c s), length_insert ahead c s.parts))

pub lost_at_most : (cs : List Component) (s : Sheet) → (place_all cs s).lost ≤ length cs
unfolding place_all
lost_at_most [] s = omega arith
lost_at_most (c ∷ cs) s = choose (touched_reads c s.parts) (λ (o : Placed). o.lost ≤ suc (length cs))
    {x = gone (place_all cs s)} {y = place_all cs (place_one c s)}
    (λ t. omega (arith, lost_at_most cs s))
    (λ n. omega (arith, lost_at_most cs (place_one c s)))

-- what touches nothing is not lost
pub place_all_safe : {cs : List Component} (s : Sheet) → Rows Clear cs → ((b c : Component) → b ∈ s.parts → c ∈ cs → Clear c b) → (place_all cs s).lost ≡ 0
unfolding place_all
place_all_safe s none f = refl
place_all_safe s (more {x = c} {xs = cs} h r) f = choose (touched_reads c s.parts) (λ (o : Placed). o.lost ≡ 0) {x = gone (place_all cs s)}
    (λ t. absurd (f t.0 c t.1 (∈-head refl) t.2))
    (λ n. place_all_safe (place_one c s) r (λ b a m k t. ⊎_elim
    (λ (e : b ≡ c). h a k (shares_mirror (subst (λ x. Shares (box a) (box x)) e t)))
    (λ (i : b ∈ s.parts). f b a i (∈-tail k) t)
    (insert_in ahead c s.parts (unfold place_one in m))))

-- what stands afterwards
pub place_all_in : (cs : List Component) (s : Sheet) {z : Component} → z ∈ (place_all cs s).sheet.parts → (z ∈ cs) ⊎ (z ∈ s.parts)
unfolding place_all place_one
place_all_in [] s m = inr m
place_all_in (c ∷ cs) s {z} m = choose (touched_reads c s.parts) (λ (o : Placed). z ∈ o.sheet.parts → (z ∈ c ∷ cs) ⊎ (z ∈ s.parts)) {x = gone (place_all cs s)} {y = place_all cs (place_one c s)}
    (λ t k. ⊎_elim (λ (i : z ∈ cs). inl (∈-tail i)) inr (place_all_in cs s k))
    (λ n k. ⊎_elim (λ (i : z ∈ cs). inl (∈-tail i)) (λ (i : z ∈ insert ahead c s.parts). ⊎_elim (λ (e : z ≡ c). inl (∈-head e)) inr (insert_in ahead c s.parts i)) (place_all_in cs (place_one c s) k))
    m

pub in_place_all : (cs : List Component) (s : Sheet) → (place_all cs s).lost ≡ 0 → {z : Component} → (z ∈ cs) ⊎ (z ∈ s.parts) → z ∈ (place_all cs s).sheet.parts
unfolding place_all place_one
in_place_all [] s e (inl m) = absurd (∈-nil m)
in_place_all [] s e (inr m) = m
in_place_all (c ∷ cs) s e {z} m = choose (touched_reads c s.parts) (λ (o : Placed). o.lost ≡ 0 → z ∈ o.sheet.parts) {x = gone (place_all cs s)} {y = place_all cs (place_one c s)}
    (λ t k. absurd (omega arith))
    (λ n k. in_place_all cs (place_one c s) k (⊎_elim
    (λ (i : z ∈ c ∷ cs). ⊎_elim (λ (x : z ≡ c). inr (in_insert ahead c s.parts (inl x))) inl (∈-cases i))
    (λ (i : z ∈ s.parts). inr (in_insert ahead c s.parts (inr i)))
    m))
    e
