-- To cut the run alone and put its pieces in comes to the same as to put the run in and cut all.
use mathlib.Core.List.Memᴰ.{cast as ∈-cast}
use mathlib.Core.List.Memᴰ.{eq_of_singleton as ∈-one}
use mathlib.Core.List.Memᴰ.{head as ∈-head}
use mathlib.Core.List.Memᴰ.{tail as ∈-tail}
use mathlib.Core.List.{List, [], ◌∷◌}
use mathlib.Core.Path.{◌≡◌, refl, subst}
use mathlib.Core.Logic.{⊎_elim, inl}
use Rattle.lists.specs.Lists.{◌∈◌, insert, Rows, none, more}
use Rattle.lists.proofs.Lists.{insert_all, insert_in, insert_new, insert_all_in, insert_all_new, insert_all_old}
use Rattle.lists.proofs.Order.{rows_one}
use Rattle.symbol.specs.declared.Point.{Point}
use Rattle.sheet.specs.declared.Wire.{Wire}
use Rattle.sheet.specs.Geometry.{first, Before}
use Rattle.sheet.specs.Split.{split_all}
use Rattle.sheet.specs.Run.{run, rest, standing, lay, lay_wire}
use Rattle.sheet.specs.Wiring.{AllFit}
use Rattle.sheet.proofs.Before.{Apart, wires_ext, insert_order}
use Rattle.sheet.proofs.Pieces.{whole, apart_within, Piece}
use Rattle.sheet.proofs.Split.{split_from, split_to, all_from, all_order}
use Rattle.sheet.proofs.Rest.{run_of, rest_of, run_fits, rest_fits, rest_order, rest_apart, Draws}
use Rattle.sheet.proofs.Laid.{laid_of, cuts_of, laid_order}
use Rattle.sheet.proofs.LaidClear.{rest_piece, rest_laid}

-- "Cut the run .." and nothing else: the wire edit with the run cut alone, and its pieces put in
unfoldable pub add_pieces : Wire → List Wire → List Point → List Wire
add_pieces n ws ps = insert_all first (split_all (standing n (rest n ws) ps) (run n ws ∷ [])) (rest n ws)

-- ---- a list is split wire by wire

all_grows : (qs : List Point) {xs ys : List Wire} {v : Wire} → ((w : Wire) → w ∈ xs → w ∈ ys) → v ∈ split_all qs xs → v ∈ split_all qs ys
unfolding split_all
all_grows [] {v = v} f m = f v m
all_grows (p ∷ qs) {xs} f m = all_grows qs (λ w i. let s = split_from p xs i in split_to p (f s.0 s.1) s.2) m

all_one : (qs : List Point) {ws : List Wire} {v : Wire} → v ∈ split_all qs ws → (w : Wire) × w ∈ ws × v ∈ split_all qs (w ∷ [])
unfolding split_all
all_one [] {v = v} m = (v, m, ∈-head refl)
all_one (p ∷ qs) {ws} m =
    let t = all_one qs m in
    let s = split_from p ws t.1 in
    (s.0, s.1, all_grows qs (λ u i. ∈-cast (∈-one i) (split_to p (∈-head refl) s.2)) t.2)

one_all : (qs : List Point) {ws : List Wire} {w v : Wire} → w ∈ ws → v ∈ split_all qs (w ∷ []) → v ∈ split_all qs ws
one_all qs m n = all_grows qs (λ u i. ∈-cast (∈-one i) m) n

-- ---- the run's pieces

module _ (E : Draws) where
  abbrev Pieces : List Wire
  Pieces = split_all (cuts_of E) (run_of E ∷ [])

  piece_of : {w v : Wire} → v ∈ split_all (cuts_of E) (w ∷ []) → Piece (cuts_of E) w v
  piece_of {v = v} m = let t = all_from (cuts_of E) m in subst (λ x. Piece (cuts_of E) x v) (∈-one t.1) t.2

  pieces_fit : AllFit Pieces
  pieces_fit v m = (piece_of m).fits (run_fits E)

  pieces_apart : (v w : Wire) → v ∈ Pieces → w ∈ rest_of E → Apart v w
  pieces_apart v w m k = apart_within (piece_of m).within whole (rest_apart E w k)

  all_fit : {vs : List Wire} → AllFit vs → AllFit (insert_all first vs (rest_of E))
  all_fit {vs} f v m = ⊎_elim (f v) (rest_fits E v) (insert_all_in first vs (rest_of E) m)

  insert_all_order : {vs : List Wire} → Rows Before vs → AllFit vs → ((v w : Wire) → v ∈ vs → w ∈ rest_of E → Apart v w) → Rows Before (insert_all first vs (rest_of E))
  unfolding insert_all
  insert_all_order none f a = rest_order E
  insert_all_order (more {x = v} {xs = vs} h s) f a = insert_order (f v (∈-head refl)) (all_fit (λ u m. f u (∈-tail m)))
      (λ u m. ⊎_elim (λ (x : u ∈ vs). inl (h u x)) (a v u (∈-head refl)) (insert_all_in first vs (rest_of E) m))
      (insert_all_order s (λ u m. f u (∈-tail m)) (λ u w m. a u w (∈-tail m)))

  pub result_pieces : add_pieces E.new E.wires E.pads ≡ laid_of E
  unfolding add_pieces lay_wire lay
  result_pieces = wires_ext (insert_all_order (all_order (cuts_of E) rows_one) pieces_fit pieces_apart) (laid_order E) (all_fit pieces_fit) to from
    where
      to : (v : Wire) → v ∈ insert_all first Pieces (rest_of E) → v ∈ split_all (cuts_of E) (insert first (run_of E) (rest_of E))
      to v m = ⊎_elim (λ (x : v ∈ Pieces). one_all (cuts_of E) (insert_new first (run_of E) (rest_of E)) x) (rest_laid E v) (insert_all_in first Pieces (rest_of E) m)

      from : (v : Wire) → v ∈ split_all (cuts_of E) (insert first (run_of E) (rest_of E)) → v ∈ insert_all first Pieces (rest_of E)
      from v m =
          let t = all_one (cuts_of E) m in
          ⊎_elim
          (λ (e : t.0 ≡ run_of E). insert_all_new first (rest_of E) (subst (λ x. v ∈ split_all (cuts_of E) (x ∷ [])) e t.2))
          (λ (i : t.0 ∈ rest_of E). insert_all_old first Pieces (∈-cast (rest_piece E i (piece_of t.2)) i))
          (insert_in first (run_of E) (rest_of E) t.1)
