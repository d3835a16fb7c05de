-- Turn right and mirror keep a sheet good; mirroring loses nothing.
use Prim.Native.Nat.{ℕ, ◌+◌, ◌≤◌}
use mathlib.Core.Bool.{Bool, false, cond, not}
use mathlib.Core.List.Memᴰ.{cast as ∈-cast}
use mathlib.Core.List.Memᴰ.{map as map-∈}
use mathlib.Core.List.Memᴰ.{of_map as ∈-map}
use mathlib.Core.List.{map}
use mathlib.Core.Path.{◌≡◌, refl, sym, subst, subst₂, ap₂, ◌∙◌}
use mathlib.Core.Logic.{⊎_elim, ◌⊎◌, inl, inr}
use native.Mathlib.Omega.{arith}
use lib.Dec.{T}
use lib.ListN.{length, length-map}
use Rattle.lists.specs.Lists.{◌∈◌, Rows}
use Rattle.std.specs.List.{filter}
use Rattle.lists.proofs.Tests.{test, decide, holds, choose, not_reads, and_reads, eqb_reads}
use Rattle.lists.proofs.Lists.{keep_in, in_keep, keep_none, keep_old}
use Rattle.lists.proofs.Appends.{length_parts}
use Rattle.lists.proofs.Order.{rows_keep, rows_map, rows_two, rows_all, rows_ext}
use Rattle.orientation.specs.Orientations.{turn_by, rights, mirrors}
use Rattle.orientation.proofs.Turns.{right_stays, mirror_stays}
use Rattle.symbol.specs.declared.Point.{Point}
use Rattle.sheet.specs.declared.Component.{Component}
use Rattle.sheet.specs.Points.{same, Rise}
use Rattle.sheet.specs.Geometry.{at}
use Rattle.sheet.specs.Boxes.{Shares}
use Rattle.sheet.specs.Parts.{position, box, turned_right, mirrored, PartFits}
use Rattle.sheet.specs.Drawings.{Sheet}
use Rattle.sheet.proofs.Wiring.{Good}
use Rattle.sheet.specs.Edits.{remove, meets_part, place_all, turn, hits, turn_right, mirror, Outcome}
use Rattle.sheet.proofs.Points.{rise_asym}
use Rattle.sheet.proofs.Boxes.{shares_mirror}
use Rattle.sheet.proofs.Parts.{reoriented_fits, mirrored_box}
use Rattle.sheet.proofs.Edits.{Clear, remove_good, remove_nothing}
use Rattle.sheet.proofs.Placing.{place_all_good, place_all_count, lost_at_most, place_all_safe, place_all_in, in_place_all}

module _ (g : Component → Bool) (alter : Component → Component) (s : Sheet) where
  pub turn_lost : (turn g alter s).lost ≤ (turn g alter s).hit
  unfolding turn
  turn_lost = omega (arith, lost_at_most (map alter (filter g s.parts)) (remove (λ w. false) g s), length-map (filter g s.parts) alter)

  -- as many components as before, but for the lost ones
  pub turn_count : length (turn g alter s).sheet.parts + (turn g alter s).lost ≡ length s.parts
  unfolding turn remove
  turn_count = omega (arith, place_all_count (map alter (filter g s.parts)) (remove (λ w. false) g s), length-map (filter g s.parts) alter, length_parts g s.parts)

  -- what stands afterwards
  turn_in : {z : Component} → z ∈ (turn g alter s).sheet.parts → (z ∈ map alter (filter g s.parts)) ⊎ (z ∈ filter (λ c. not (g c)) s.parts)
  unfolding turn remove
  turn_in m = place_all_in (map alter (filter g s.parts)) (remove (λ w. false) g s) m

  in_turn : (turn g alter s).lost ≡ 0 → {z : Component} → (z ∈ map alter (filter g s.parts)) ⊎ (z ∈ filter (λ c. not (g c)) s.parts) → z ∈ (turn g alter s).sheet.parts
  unfolding turn remove
  in_turn e m = in_place_all (map alter (filter g s.parts)) (remove (λ w. false) g s) e m

  module _ (good : Good s) where
    pub turn_good : ((c : Component) → PartFits c → PartFits (alter c)) → Good (turn g alter s).sheet
    unfolding turn
    turn_good fits = place_all_good (map alter (filter g s.parts)) (remove (λ w. false) g s)
        (λ c m. let k = ∈-map alter (filter g s.parts) m in subst PartFits k.2 (fits k.0 (good.fits k.0 (keep_old g s.parts k.1))))
        (remove_good (λ w. false) g s good)

    pub turn_nothing : ((c : Component) → c ∈ s.parts → T (g c) → ⊥) → turn g alter s ≡ record { sheet = s; hit = 0; lost = 0 }
    unfolding turn place_all
    turn_nothing q = ap₂ {C = Outcome} (λ cs e. let o = place_all (map alter cs) e in record { sheet = o.sheet; hit = length cs; lost = o.lost }) (keep_none (λ c. test (g c)) s.parts q) (remove_nothing (λ w. false) g s good (λ w m t. t) q)

    -- the components are placed again by rising position, if altering one does not move it
    pub turn_rising : ((c : Component) → position (alter c) ≡ position c) → Rows (λ b c. Rise (position b) (position c)) (map alter (filter g s.parts))
    turn_rising e = rows_map {R = λ b c. Rise (position b) (position c)} alter (rows_all (rows_keep g good.order) (λ b c m n r. subst₂ Rise (sym (e b)) (sym (e c)) r))

    -- if the altered ones keep their boxes, none is lost
    pub turn_safe : ((c : Component) → c ∈ s.parts → T (g c) → box (alter c) ≡ box c) → (turn g alter s).lost ≡ 0
    unfolding turn remove
    turn_safe same = place_all_safe (remove (λ w. false) g s)
        (rows_map {R = Clear} alter (rows_all (rows_keep g good.apart) (λ b c m n f t. f (subst₂ Shares (kept m) (kept n) t))))
        (λ b c m n u.
        let k = ∈-map alter (filter g s.parts) n in
        let i = keep_in (λ x. not_reads (test (g x))) s.parts m in
        let j = keep_in (λ x. test (g x)) s.parts k.1 in
        let t : Shares (box k.0) (box b) = subst (λ x. Shares x (box b)) (kept k.1) (subst (λ x. Shares (box x) (box b)) (sym k.2) u) in
        ⊎_elim
        (λ (e : b ≡ k.0). i.1 (subst (λ x. T (g x)) (sym e) j.1))
        (⊎_elim (λ (f : Clear b k.0). f (shares_mirror t)) (λ (f : Clear k.0 b). f t))
        (rows_two good.apart i.0 j.0))
      where
        kept : {c : Component} → c ∈ filter g s.parts → box (alter c) ≡ box c
        kept {c} m = let j = keep_in (λ x. test (g x)) s.parts m in same c j.0 j.1

    -- and each row stays where it is, those that are hit altered
    pub turn_parts : ((c : Component) → PartFits c → PartFits (alter c)) → ((c : Component) → position (alter c) ≡ position c) → ((c : Component) → c ∈ s.parts → T (g c) → box (alter c) ≡ box c) → (turn g alter s).sheet.parts ≡ map (λ c. cond (g c) (alter c) c) s.parts
    turn_parts fits at same = rows_ext (λ b c. rise_asym) (turn_good fits).order
        (rows_map {R = λ b c. Rise (position b) (position c)} altered (rows_all good.order (λ b c m n r. subst₂ Rise (sym (still b)) (sym (still c)) r)))
        (λ z m. ⊎_elim
        (λ (i : z ∈ map alter (filter g s.parts)).
        let k = ∈-map alter (filter g s.parts) i in
        let j = keep_in (λ x. test (g x)) s.parts k.1 in
        ∈-cast (sym (hit k.0 j.1 ∙ k.2)) (map-∈ altered j.0))
        (λ (i : z ∈ filter (λ c. not (g c)) s.parts). let j = keep_in (λ x. not_reads (test (g x))) s.parts i in ∈-cast (sym (missed z j.1)) (map-∈ altered j.0))
        (turn_in m))
        (λ z m. let k = ∈-map altered s.parts m in in_turn (turn_safe same) (⊎_elim
        (λ (t : T (g k.0)). inl (∈-cast (sym k.2 ∙ hit k.0 t) (map-∈ alter (in_keep (λ x. test (g x)) k.1 t))))
        (λ (f : T (g k.0) → ⊥). inr (∈-cast (sym k.2 ∙ missed k.0 f) (in_keep (λ x. not_reads (test (g x))) k.1 f)))
        (decide (test (g k.0)))))
      where
        altered : Component → Component
        altered c = cond (g c) (alter c) c

        still : (c : Component) → position (altered c) ≡ position c
        still c = choose (test (g c)) (λ b. position b ≡ position c) (λ t. at c) (λ f. refl)

        hit : (c : Component) → T (g c) → altered c ≡ alter c
        hit c t = choose (test (g c)) (λ b. b ≡ alter c) (λ u. refl) (λ f. absurd (f t))

        missed : (c : Component) → (T (g c) → ⊥) → altered c ≡ c
        missed c f = choose (test (g c)) (λ b. b ≡ c) (λ t. absurd (f t)) (λ n. refl)

-- ---- the two edits

-- only contacts are hit
hits_contact : (p : Point) (size : ℕ) (c : Component) → T (hits p size c) → c.kind ≡ 1
unfolding hits
hits_contact p size c t = (holds (and_reads (eqb_reads c.kind 1) (test (meets_part p size c))) t).0

module _ (p : Point) (size : ℕ) (s : Sheet) (good : Good s) where
  pub turn_right_good : Good (turn_right p size s).sheet
  unfolding turn_right
  turn_right_good = turn_good (hits p size) turned_right s good (reoriented_fits (turn_by rights) right_stays)

  pub mirror_good : Good (mirror p size s).sheet
  unfolding mirror
  mirror_good = turn_good (hits p size) mirrored s good (reoriented_fits (turn_by mirrors) mirror_stays)

  same_box : (c : Component) → c ∈ s.parts → T (hits p size c) → box (mirrored c) ≡ box c
  same_box c m t = mirrored_box c (hits_contact p size c t) (good.fits c m)

  -- mirroring never loses a component
  pub mirror_safe : (mirror p size s).lost ≡ 0
  unfolding mirror
  mirror_safe = turn_safe (hits p size) mirrored s good same_box

  -- and leaves each row where it is
  pub mirror_parts : (mirror p size s).sheet.parts ≡ map (λ c. cond (hits p size c) (mirrored c) c) s.parts
  unfolding mirror
  mirror_parts = turn_parts (hits p size) mirrored s good (reoriented_fits (turn_by mirrors) mirror_stays) (λ c. refl) same_box
