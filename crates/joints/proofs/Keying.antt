-- Keys of points: one more, and how many there are.
use Prim.Native.Nat.{ℕ, suc, ◌+◌, ◌*◌, ◌≤◌, ◌<◌}
use native.Mathlib.Omega.{arith}
use mathlib.Core.Bool.{Bool, true, false, cond}
use mathlib.Core.List.{List, [], ◌∷◌, ◌++◌, map, map-append, append_assoc}
use mathlib.Core.Path.{◌≡◌, refl, sym, ap, ap₂, subst, ◌∙◌}
use lib.ListN.{length, take, get_or, set, length-set, length-take, length-append, length-replicate}
use Rattle.lists.specs.Tables.{pad}
use Rattle.table.specs.Tables
use lib.Seq.{get_or-take}
use Rattle.std.specs.List.{filter}
use Rattle.lists.proofs.Pushes.{take_push}
use Rattle.lists.proofs.Finding.{maps_at}
use Rattle.symbol.specs.declared.Point.{Point}
use Rattle.sheet.specs.declared.Wire.{Wire}
use Rattle.sheet.specs.declared.Joint.{Joint}
use Rattle.sheet.specs.Points.{same}
use Rattle.sheet.specs.Geometry.{ends, marks}
use Rattle.sheet.specs.Joints.{joint_point, number, joints_of}
use Rattle.sheet.specs.Drawings.{zero_joint}
use Rattle.sheet.proofs.JointRows.{length_ends, joints_same}
use Rattle.sheet.proofs.Points.{point_path}
use Rattle.joints.specs.Table.{Keys}
use Rattle.joints.specs.Sorting.{key_rows, Same}
use Rattle.joints.specs.Keys.{spot, Keyed, KeysOf}

-- the point of a key is the point that the key was made of
pub key_spot : (p : Point) → p.x < 65536 → spot (p.y * 65536 + p.x) ≡ p
key_spot p h = point_path (omega arith) (omega arith)

-- the key of a joint row
pub keys_at : {js : List Joint} {keys : List ℕ} → KeysOf js keys → length js ≤ 1408 → (m : ℕ) → m < length js → spot (get_or keys m 0) ≡ joint_point (get_or js m zero_joint)
keys_at {js} {keys} h room m g =
    ap spot (sym (get_or-take (length js) keys m 0 g))
    ∙ maps_at spot joint_point (take (length js) keys) js h.spots m 0 zero_joint (omega (arith, length-take (length js) keys, h.size))

-- the table with one key more
abbrev pub pushed : Keys → ℕ → Keys
pushed t k = record { rows = set t.rows t.count k; count = t.count + 1 }

pub keyed_push : {ps : List Point} {t : Keys} {p : Point} (k : ℕ) → Keyed ps t → spot k ≡ p → t.count < 1408 → Keyed (ps ++ (p ∷ [])) (pushed t k)
keyed_push {ps} {t} {p} k h e b = record {
  size = length-set t.rows t.count k ∙ h.size;
  count_is = omega (arith, h.count_is, length-append ps (p ∷ []));
  points = ap (map spot) (take_push t.rows t.count k (omega (arith, h.size))) ∙ map-append spot (key_rows t) (k ∷ []) ∙ ap₂ (λ qs q. qs ++ (q ∷ [])) h.points e;
}

pub keyed_more : {ps : List Point} {t r : Keys} {p : Point} (k : ℕ) → Keyed ps t → spot k ≡ p → t.count < 1408 → r ≡ Tables.pushed k t → Keyed (ps ++ (p ∷ [])) r
keyed_more {ps} {t} {r} {p} k h e b q = subst (Keyed (ps ++ (p ∷ []))) (sym q) (keyed_push k h e b)

pub keyed_none : {t : Keys} → t ≡ Tables.table_of 1408 0 [] → Keyed [] t
unfolding pad
keyed_none e = subst (Keyed []) (sym e) (record { size = length-replicate {A = ℕ} 1408 0; count_is = refl; points = refl })

-- and two keys more
pub keyed_two : {ps : List Point} {t r q : Keys} {a b : Point} (k l : ℕ) → Keyed ps t → spot k ≡ a → spot l ≡ b → t.count + 1 < 1408 → r ≡ Tables.pushed k t → q ≡ Tables.pushed l r → Keyed (ps ++ (a ∷ b ∷ [])) q
keyed_two {ps} {q = q} {a} {b} k l h e f c x y =
    let one = keyed_more k h e (omega arith) x in
    subst (λ qs. Keyed qs q) (append_assoc ps (a ∷ []) (b ∷ [])) (keyed_more l one f (omega (arith, one.count_is, h.count_is, length-append ps (a ∷ []))) y)

-- ---- how many there are

pub ends_few : (ws : List Wire) {t : Keys} → Keyed (ends ws) t → length ws ≤ 512 → t.count ≤ 1024
ends_few ws h b = omega (arith, h.count_is, length_ends ws)

pub marks_few : (ws : List Wire) (ps : List Point) {t : Keys} → Keyed (marks ws ps) t → length ws ≤ 512 → length ps ≤ 384 → t.count ≤ 1408
marks_few ws ps h a b = omega (arith, h.count_is, length-append (ends ws) ps, length_ends ws)

number_spots : (p : Point) (ks : List ℕ) → number p (map spot ks) ≡ length (filter (λ k. same p (spot k)) ks)
unfolding number
number_spots p [] = refl
number_spots p (k ∷ ks) = step (same p (spot k)) (number_spots p ks)
  where
    step : (b : Bool) → number p (map spot ks) ≡ length (filter (λ k. same p (spot k)) ks)
        → cond b (suc (number p (map spot ks))) (number p (map spot ks)) ≡ length (cond b (k ∷ filter (λ k. same p (spot k)) ks) (filter (λ k. same p (spot k)) ks))
    step true e = ap suc e
    step false e = e

-- the same keys in another order have the same joints
pub same_joints : {ps : List Point} {t : Keys} {ls : List ℕ} → Keyed ps t → Same (key_rows t) ls → joints_of (map spot ls) ≡ joints_of ps
same_joints {ps} {t} {ls} h s =
    joints_same (map spot ls) (map spot (key_rows t)) (λ p. number_spots p ls ∙ s.passing (λ k. same p (spot k)) ∙ sym (number_spots p (key_rows t))) ∙ ap joints_of h.points
