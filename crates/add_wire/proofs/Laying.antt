-- The wire edit in one go: the rows before the run, the run and the rows behind it, each cut at the standing joints, are the edit.
use Prim.Native.Nat.{ℕ, ◌+◌, ◌-◌, ◌≤◌, ◌<◌}
use native.Mathlib.Omega.{arith}
use mathlib.Core.Path.{◌≡◌, sym, ap, ◌∙◌, subst}
use mathlib.Core.List.{List, [], ◌∷◌, ◌++◌, append-nil, append_assoc}
use mathlib.Core.Bool.{Bool, true, false, not}
use lib.Dec.{eqb}
use lib.ListN.{length, get_or, take, drop, length-append}
use Rattle.symbol.specs.declared.Point.{Point}
use Rattle.lists.specs.Lists.{◌∈◌, insert}
use Rattle.std.specs.List.{list_any, filter, flat_map}
use Rattle.lists.specs.Span.{span}
use Rattle.lists.proofs.Lists.{keep_in}
use Rattle.lists.proofs.Appends.{keep_append, gather_append, length_insert}
use Rattle.lists.proofs.Passes.{gather_as, gather_gather, gather_each}
use Rattle.lists.proofs.Insert.{insert_at, insert_place, span_le}
use Rattle.lists.proofs.Finding.{in_take, in_drop}
use Rattle.sheet.specs.declared.Wire.{Wire}
use Rattle.sheet.specs.Geometry.{along, low, high, tip, tips, ends, on, Meets, first}
use Rattle.sheet.specs.Split.{split_one, split_at, split_all}
use Rattle.sheet.specs.Run.{kept, run, rest, standing, lay, lay_wire}
use Rattle.sheet.proofs.Geometry.{On, on_reads, same_dir}
use Rattle.sheet.proofs.Split.{split_all_no_shorter, all_from}
use Rattle.sheet.proofs.Rest.{kept_in}
use Rattle.sheet.proofs.Reach.{run_reaches, within_meets}
use Rattle.std.specs.Prelude.{Result}
use Rattle.std.specs.List.{position}
use Rattle.std.specs.Option.{unwrap_or}
use Rattle.table.proofs.Positions.{place_is}
use Rattle.lists.proofs.Tables.{holds_as}
use Rattle.table.specs.declared.NoRoom.{NoRoom}
use Rattle.sheet.specs.Tables.{Wires}
use Rattle.wires.specs.Tables.{Tabled, Grows}
use Rattle.add_wire.specs.Marks.{Marked, Adds, Over, cut_across, cut_from}
use Rattle.add_wire.proofs.Pointed.{Aimed, split_cuts}
use Rattle.add_wire.proofs.Crossing.{cut_across_lem}
use Rattle.add_wire.proofs.Adding.{adds_more}

-- ---- before the run goes in

-- no wire of the rest meets the new one
rest_free : (n : Wire) (ws : List Wire) (w : Wire) → w ∈ rest n ws → Meets n w → ⊥
unfolding rest
rest_free n ws w m t = let s = all_from (tips n) m in (kept_in n ws s.1).1 (within_meets s.2.within t)

-- with no room for the rest there is none at the end
pub rest_over : (n : Wire) (ws : List Wire) (ps : List Point) → 512 < length (rest n ws) → 512 < length (lay_wire n ws ps)
unfolding lay_wire lay
rest_over n ws ps h = omega (arith, split_all_no_shorter (standing n (rest n ws) ps) (insert first (run n ws) (rest n ws)), length_insert first (run n ws) (rest n ws))

-- ---- wires split at many points

-- each by itself
split_each : (qs : List Point) (ws : List Wire) → split_all qs ws ≡ flat_map (λ w. split_all qs (w ∷ [])) ws
unfolding split_all split_at
split_each [] ws = sym (gather_each ws)
split_each (q ∷ qs) ws =
    split_each qs (flat_map (split_one q) ws) ∙ gather_gather (λ v. split_all qs (v ∷ [])) (split_one q) ws
    ∙ gather_as ws (λ w m. sym (split_each qs (split_one q w)) ∙ ap (split_all qs) (sym (append-nil (split_one q w))))

standing_on : (n : Wire) (ws : List Wire) (ps : List Point) (q : Point) → q ∈ standing n ws ps → On q n
unfolding standing
standing_on n ws ps q m = (keep_in (λ q. on_reads q n) _ m).1

module _ (n r : Wire) (ws : List Wire) (ps : List Point) {marks : List Bool} (k : Marked n.vertical (standing n ws ps) marks) (e : n.end ≤ 12000) (free : (w : Wire) → w ∈ ws → Meets n w → ⊥) where
  -- the rows around the run
  rows_cut : (vs : List Wire) → ((v : Wire) → v ∈ vs → v ∈ ws) → flat_map (cut_across n marks) vs ≡ split_all (standing n ws ps) vs
  rows_cut vs h = gather_as vs (λ v m. cut_across_lem n v (standing_on n ws ps) k e (free v (h v m))) ∙ sym (split_each (standing n ws ps) vs)

  -- the run
  run_cut : r.vertical ≡ n.vertical → r.line ≡ n.line → cut_from (λ a. get_or marks a false) n.start (n.end + 1 - n.start) r ≡ split_all (standing n ws ps) (r ∷ [])
  run_cut d l = split_cuts (standing n ws ps) (λ a. get_or marks a false) n.start (n.end + 1 - n.start) r aim
      (λ c g h. k.each c (omega arith) ∙ ap (λ (v : Bool). list_any (λ q. eqb (along v q) c) (standing n ws ps)) (sym d))
    where
      aim : (q : Point) → q ∈ standing n ws ps → Aimed r n.start (n.end + 1 - n.start) q
      aim q m =
          let o = standing_on n ws ps q m in
          let s = same_dir d q in
          record { line = l ∙ o.line ∙ sym s.1; among = λ h. (omega (arith, o.from, s.0), omega (arith, o.from, o.to, s.0)) }

  split_append : (us vs : List Wire) → split_all (standing n ws ps) (us ++ vs) ≡ split_all (standing n ws ps) us ++ split_all (standing n ws ps) vs
  split_append us vs =
      split_each (standing n ws ps) (us ++ vs) ∙ gather_append (λ w. split_all (standing n ws ps) (w ∷ [])) us vs
      ∙ (λ i. sym (split_each (standing n ws ps) us) i ++ sym (split_each (standing n ws ps) vs) i)

  -- all of them
  laid_whole : (p : ℕ) → p ≡ span (λ v. not (first r v)) ws → r.vertical ≡ n.vertical → r.line ≡ n.line
      → (flat_map (cut_across n marks) (take p ws) ++ cut_from (λ a. get_or marks a false) n.start (n.end + 1 - n.start) r) ++ flat_map (cut_across n marks) (drop p ws) ≡ lay n r ws ps
  unfolding lay insert_at
  laid_whole p s d l =
      (λ i. (rows_cut (take p ws) (λ v m. in_take p ws m) i ++ run_cut d l i) ++ rows_cut (drop p ws) (λ v m. in_drop p ws m) i)
      ∙ append_assoc (split_all Q (take p ws)) (split_all Q (r ∷ [])) (split_all Q (drop p ws))
      ∙ ap (λ (x : List Wire). split_all Q (take p ws) ++ x) (sym (split_append (r ∷ []) (drop p ws)))
      ∙ sym (split_append (take p ws) (r ∷ drop p ws))
      ∙ ap (split_all Q) (sym (insert_place first r ws ∙ ap (λ (j : ℕ). take j ws ++ r ∷ drop j ws) (sym s)))
    where
      Q : List Point
      Q = standing n ws ps

-- the wire ends that stand, then the pads
pub standing_marks : (n : Wire) (ws : List Wire) (ps : List Point) {marks : List Bool} → Marked n.vertical (filter (λ p. on p n) (ends ws) ++ filter (λ p. on p n) ps) marks → Marked n.vertical (standing n ws ps) marks
unfolding standing
standing_marks n ws ps {marks} m = subst (λ (l : List Point). Marked n.vertical l marks) (sym (keep_append (λ p. on p n) (ends ws) ps)) m

-- the place of the run among the rows
pub place_of : (r : Wire) (ws : List Wire) {p : ℕ} → p ≡ unwrap_or (position (first r) ws) (length ws) → p ≡ span (λ v. not (first r v)) ws
place_of r ws e = e ∙ place_is (first r) ws

pub place_within : (r : Wire) (ws : List Wire) {p : ℕ} → p ≡ unwrap_or (position (first r) ws) (length ws) → p ≤ length ws
place_within r ws e = omega (arith, place_of r ws e, span_le (λ v. not (first r v)) ws)

-- ---- on a table: the rows before the run, the run, the rows behind it

module _ (n r : Wire) (ws : List Wire) (ps : List Point) {marks : List Bool} {p : ℕ} {front back : List Wire} (s : p ≡ span (λ v. not (first r v)) ws) (m : Marked n.vertical (standing n ws ps) marks) (e : n.end ≤ 12000)
    (free : (w : Wire) → w ∈ ws → Meets n w → ⊥) (line : (r.vertical ≡ n.vertical) × (r.line ≡ n.line)) (f : front ≡ take p ws) (b : back ≡ drop p ws) where
  pieces : (flat_map (cut_across n marks) front ++ cut_from (λ a. get_or marks a false) n.start (n.end + 1 - n.start) r) ++ flat_map (cut_across n marks) back ≡ lay n r ws ps
  pieces = (λ i. (flat_map (cut_across n marks) (f i) ++ cut_from (λ a. get_or marks a false) n.start (n.end + 1 - n.start) r) ++ flat_map (cut_across n marks) (b i)) ∙ laid_whole n r ws ps m e free p s line.0 line.1

  module _ {t : Wires} (z : Tabled [] t) where
    pub front_over : Over (flat_map (cut_across n marks) front) t → 512 < length (lay n r ws ps)
    front_over o = let us = flat_map (cut_across n marks) front in let v = cut_from (λ a. get_or marks a false) n.start (n.end + 1 - n.start) r in
        omega (arith, o.so [] z, ap length pieces, length-append (us ++ v) (flat_map (cut_across n marks) back), length-append us v)

    module _ {h : Wires} (x : Adds (flat_map (cut_across n marks) front) t h) where
      pub run_over : Over (cut_from (λ a. get_or marks a false) n.start (n.end + 1 - n.start) r) h → 512 < length (lay n r ws ps)
      run_over o = let us = flat_map (cut_across n marks) front in let v = cut_from (λ a. get_or marks a false) n.start (n.end + 1 - n.start) r in
          omega (arith, o.so us (x.so [] z), ap length pieces, length-append (us ++ v) (flat_map (cut_across n marks) back))

      module _ {k : Wires} (y : Adds (cut_from (λ a. get_or marks a false) n.start (n.end + 1 - n.start) r) h k) where
        pub back_over : Over (flat_map (cut_across n marks) back) k → 512 < length (lay n r ws ps)
        back_over o = omega (arith, o.so _ ((adds_more x y).so [] z), ap length pieces)

        pub laid_table : {o : Wires} → Adds (flat_map (cut_across n marks) back) k o → Tabled (lay n r ws ps) o
        laid_table a = holds_as pieces ((adds_more (adds_more x y) a).so [] z)

-- the run and the rest as the edit has them
pub laid_edit : (n : Wire) (ws : List Wire) (ps : List Point) (o : Result Wires NoRoom) {r : Wire} {vs : List Wire} → r ≡ run n ws → vs ≡ rest n ws → Grows (lay n r vs ps) o → Grows (lay_wire n ws ps) o
unfolding lay_wire
laid_edit n ws ps o e f h = subst (λ (l : List Wire). Grows l o) (λ i. lay n (e i) (f i) ps) h

-- what laying asks of them
pub edit_line : (n : Wire) (ws : List Wire) {r : Wire} → r ≡ run n ws → (r.vertical ≡ n.vertical) × (r.line ≡ n.line)
edit_line n ws e = let d = (run_reaches n ws).drawn in (ap (λ (w : Wire). w.vertical) e ∙ sym d.dir, ap (λ (w : Wire). w.line) e ∙ sym d.line)

pub edit_free : (n : Wire) (ws : List Wire) {vs : List Wire} → vs ≡ rest n ws → (w : Wire) → w ∈ vs → Meets n w → ⊥
edit_free n ws e w m = rest_free n ws w (subst (λ (l : List Wire). w ∈ l) e m)
