-- Passes over the tables, one pad or one wire at a time.
use mathlib.Core.Path.{◌≡◌, refl, sym, ap, ap₂, subst, ◌∙◌}
use mathlib.Core.Logic.{⊎_elim}
use mathlib.Core.List.Memᴰ.{append_cases as ∈-append}
use mathlib.Core.List.Memᴰ.{append_left as ∈-left}
use mathlib.Core.List.Memᴰ.{append_right as ∈-right}
use mathlib.Core.List.Memᴰ.{head as ∈-head}
use mathlib.Core.List.Memᴰ.{map as ∈-map}
use mathlib.Core.List.Memᴰ.{not-nil as ∈-nil}
use mathlib.Core.List.Memᴰ.{tail as ∈-tail}
use mathlib.Core.List.{List, [], ◌∷◌, ◌++◌, map}
use Prim.Native.Nat.{ℕ, ◌+◌, ◌<◌}
use native.Mathlib.Omega.{arith}
use native.Mathlib.Nat.{le_refl}
use lib.ListN.{length, get_or, set, take, length-set}
use lib.Seq.{take-length}
use Rattle.lists.specs.Lists.{◌∈◌}
use Rattle.lists.proofs.Lists.{in_one}
use Rattle.lists.proofs.Tables.{row_in}
use Rattle.lists.proofs.Passes.{take_more}
use Rattle.lists.proofs.Tests.{decide}
use Rattle.nets.specs.declared.Link.{Link}
use Rattle.nets.specs.Joined.{Links, Pads}
use Rattle.nets.specs.Numbers.{first_net}
use Rattle.nets.specs.Tables.{JointNumber, EachJoint, EachEnd, link_ends, link_rows, pad_rows, tabulate}
use Rattle.nets.proofs.Tabulate.{tabulated, tabulate_at, length_tabulate, after_set}
use Rattle.nets.proofs.Told.{start_reads, start_power, start_other}

-- ---- for lists
map_snoc : {A B : Type 0} (f : A → B) (xs : List A) (x : A) → map f (xs ++ (x ∷ [])) ≡ map f xs ++ (f x ∷ [])
map_snoc f [] x = refl
map_snoc f (y ∷ xs) x = ap (λ l. f y ∷ l) (map_snoc f xs x)

pub map_as : {A B : Type 0} {f g : A → B} (xs : List A) → ((x : A) → x ∈ xs → f x ≡ g x) → map f xs ≡ map g xs
map_as [] h = refl
map_as (x ∷ xs) h = ap₂ ◌∷◌ (h x (∈-head refl)) (map_as xs (λ y i. h y (∈-tail i)))

-- ---- pads

module _ (ps : List ℕ) (each : EachJoint ps) (i : ℕ) (h : i < length ps) where
  pub pad_joint : JointNumber (get_or ps i 0)
  pad_joint = each (get_or ps i 0) (subst (λ l. get_or ps i 0 ∈ l) (take-length ps) (row_in ps (length ps) i 0 h (le_refl (length ps))))

  pub pad_next : take (i + 1) ps ≡ take i ps ++ (get_or ps i 0 ∷ [])
  pad_next = take_more ps i 0 h

  -- what f is of the pads passed
  pub pads_next : (f : ℕ → ℕ) → map f (take (i + 1) ps) ≡ map f (take i ps) ++ (f (get_or ps i 0) ∷ [])
  pads_next f = ap (map f) pad_next ∙ map_snoc f (take i ps) (get_or ps i 0)

-- ---- wires

module _ (ws : List Link) (each : EachEnd (map link_ends ws)) (k : ℕ) (h : k < length ws) (d : Link) where
  pub wire_joints : JointNumber (get_or ws k d).from × JointNumber (get_or ws k d).to
  wire_joints = each (link_ends (get_or ws k d)) (∈-map link_ends (subst (λ l. get_or ws k d ∈ l) (take-length ws) (row_in ws (length ws) k d h (le_refl (length ws)))))

  pub wire_next : map link_ends (take (k + 1) ws) ≡ map link_ends (take k ws) ++ (link_ends (get_or ws k d) ∷ [])
  wire_next = ap (map link_ends) (take_more ws k d h) ∙ map_snoc link_ends (take k ws) (get_or ws k d)

-- ---- the rows in use of the tables

pub rows_links : (t : Links) {ws : List Link} → ws ≡ take t.count t.rows → map link_ends ws ≡ link_rows t
unfolding link_rows
rows_links t e = ap (map link_ends) e

pub rows_pads : (t : Pads) {ps : List ℕ} → ps ≡ take t.count t.rows → ps ≡ pad_rows t
unfolding pad_rows
rows_pads t e = e

-- ---- the aliases before any wire, one power pad at a time

pub start_none : tabulate (λ n. n) 1409 ≡ tabulate (first_net []) 1409
start_none = tabulated (tabulate (λ n. n) 1409) (first_net []) 1409 (length_tabulate (λ n. n) 1409) (λ j lt. tabulate_at (λ n. n) 1409 j lt ∙ sym (start_other [] j (λ i. absurd (∈-nil i))))

pub start_next : (ps : List ℕ) (p : ℕ) → p < 1409 → set (tabulate (first_net ps) 1409) p 0 ≡ tabulate (first_net (ps ++ (p ∷ []))) 1409
start_next ps p h =
    let old : List ℕ = tabulate (first_net ps) 1409 in
    let len : length old ≡ 1409 = length_tabulate (first_net ps) 1409 in
    tabulated (set old p 0) (first_net (ps ++ (p ∷ []))) 1409 (length-set old p 0 ∙ len)
    (λ j lt. after_set old p 0 j (first_net (ps ++ (p ∷ [])) j) (omega arith)
    (λ e. sym (start_power (ps ++ (p ∷ [])) j (∈-right ps (∈-head e))))
    (λ ne. tabulate_at (first_net ps) 1409 j lt ∙ ⊎_elim
    (λ (i : j ∈ ps). start_power ps j i ∙ sym (start_power (ps ++ (p ∷ [])) j (∈-left (p ∷ []) i)))
    (λ (n : j ∈ ps → ⊥). start_other ps j n ∙ sym (start_other (ps ++ (p ∷ [])) j (λ i. ⊎_elim n (λ (m : j ∈ p ∷ []). ne (in_one (λ z. z ≡ p) refl m)) (∈-append ps i))))
    (decide (start_reads ps j))))
