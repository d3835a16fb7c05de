-- Room: once rows are left out the wires of an edit never get fewer, so that the end has the most, and what passes the room at
-- some moment passes it at the end.
use Prim.Native.Nat.{ℕ, ◌≤◌, ◌<◌}
use mathlib.Core.Bool.{Bool, true, false, cond, not}
use mathlib.Core.List.{List, [], ◌∷◌, ◌++◌, append-nil}
use mathlib.Core.Path.{◌≡◌, refl, subst}
use mathlib.Core.Logic.{◌↔◌}
use native.Mathlib.Omega.{arith}
use lib.ListN.{length}
use Rattle.lists.specs.Lists.{insert}
use Rattle.std.specs.List.{list_any, filter}
use Rattle.lists.proofs.Tests.{choose}
use Rattle.lists.proofs.Appends.{length_keep, length_insert}
use Rattle.symbol.specs.declared.Point.{Point}
use Rattle.sheet.specs.declared.Wire.{Wire}
use Rattle.sheet.specs.declared.Component.{Component}
use Rattle.sheet.specs.Geometry.{tips, meets, first}
use Rattle.sheet.specs.Split.{split_all}
use Rattle.sheet.specs.Merge.{merge}
use Rattle.sheet.specs.Run.{kept, run, rest, standing, lay, lay_wire}
use Rattle.sheet.specs.Parts.{pads, pads_of, touches}
use Rattle.sheet.specs.Drawings.{Sheet}
use Rattle.sheet.specs.Edits.{place_one, remove, gone, place_all, Placed}
use Rattle.sheet.proofs.Split.{split_all_no_shorter, split_all_append}
use Rattle.sheet.proofs.Held.{held_reads}
use Rattle.sheet.proofs.Merged.{merged, merged_no_longer}
use Rattle.sheet.proofs.Edits.{touched_reads}

-- ---- split

-- after some of the points there are no more wires than at the end
pub moment_points : (qs rs : List Point) (ws : List Wire) → length (split_all qs ws) ≤ length (split_all (qs ++ rs) ws)
moment_points qs rs ws = rw split_all_append (split_all_no_shorter rs (split_all qs ws))

-- ---- wire

pub kept_no_longer : (n : Wire) (ws : List Wire) → length (kept n ws) ≤ length ws
unfolding kept
kept_no_longer n ws = length_keep (λ w. not (meets n w)) ws

pub rest_no_shorter : (n : Wire) (ws : List Wire) → length (kept n ws) ≤ length (rest n ws)
unfolding rest
rest_no_shorter n ws = split_all_no_shorter (tips n) (kept n ws)

pub laid_longer : (n : Wire) (ws : List Wire) (ps : List Point) → length (rest n ws) < length (lay_wire n ws ps)
unfolding lay_wire lay
laid_longer n ws ps = omega (arith, split_all_no_shorter (standing n (rest n ws) ps) (insert first (run n ws) (rest n ws)), length_insert first (run n ws) (rest n ws))

-- ---- delete

pub merge_no_longer : (ws : List Wire) (ps : List Point) → length (merge ws ps) ≤ length ws
unfolding merge
merge_no_longer ws ps = merged_no_longer (merged (held_reads ws ps) ws)

pub remove_no_longer : (f : Wire → Bool) (g : Component → Bool) (s : Sheet) → length (remove f g s).wires ≤ length s.wires
unfolding remove
remove_no_longer f g s = omega (arith, merge_no_longer (filter (λ w. not (f w)) s.wires) (pads_of (filter (λ c. not (g c)) s.parts)), length_keep (λ w. not (f w)) s.wires)

-- ---- place, and turn

pub place_no_shorter : (c : Component) (s : Sheet) → length s.wires ≤ length (place_one c s).wires
unfolding place_one
place_no_shorter c s = split_all_no_shorter (pads c) s.wires

pub place_all_no_shorter : (cs : List Component) (s : Sheet) → length s.wires ≤ length (place_all cs s).sheet.wires
unfolding place_all
place_all_no_shorter [] s = omega arith
place_all_no_shorter (c ∷ cs) s = choose (touched_reads c s.parts) (λ (o : Placed). length s.wires ≤ length o.sheet.wires)
    {x = gone (place_all cs s)} {y = place_all cs (place_one c s)}
    (λ t. place_all_no_shorter cs s)
    (λ n. omega (arith, place_no_shorter c s, place_all_no_shorter cs (place_one c s)))

pub place_all_append : (bs cs : List Component) (s : Sheet) → (place_all (bs ++ cs) s).sheet ≡ (place_all cs (place_all bs s).sheet).sheet
unfolding place_all
place_all_append [] cs s = refl
place_all_append (b ∷ bs) cs s = step (list_any (touches b) s.parts) (place_all_append bs cs s) (place_all_append bs cs (place_one b s))
  where
    step : (t : Bool)
        → (place_all (bs ++ cs) s).sheet ≡ (place_all cs (place_all bs s).sheet).sheet
        → (place_all (bs ++ cs) (place_one b s)).sheet ≡ (place_all cs (place_all bs (place_one b s)).sheet).sheet
        → (cond t (gone (place_all (bs ++ cs) s)) (place_all (bs ++ cs) (place_one b s))).sheet
        ≡ (place_all cs (cond t (gone (place_all bs s)) (place_all bs (place_one b s))).sheet).sheet
    step true e f = e
    step false e f = f

-- after some of the components there are no more wires than at the end
pub moment : (bs cs : List Component) (s : Sheet) → length (place_all bs s).sheet.wires ≤ length (place_all (bs ++ cs) s).sheet.wires
moment bs cs s = rw place_all_append (place_all_no_shorter cs (place_all bs s).sheet)

-- over N wires at some moment is over N at the end
pub over : (N : ℕ) (cs : List Component) (s : Sheet) → ((bs : List Component) × (bs' : List Component) × (bs ++ bs' ≡ cs) × (N < length (place_all bs s).sheet.wires)) ↔ (N < length (place_all cs s).sheet.wires)
over N cs s = (λ r. subst (λ l. N < length (place_all l s).sheet.wires) r.2 (omega (arith, moment r.0 r.1 s, r.3)), λ l. (cs, [], append-nil cs, l))
