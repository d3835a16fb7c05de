-- Under the translation each edit of a sheet is that of the plan: by the laws of lists whose rows are translated, and because a turn of the
-- number is the turn of its four numbers.
use Prim.Native.Nat.{ℕ}
use mathlib.Core.Bool.{Bool, true, false, cond, not}
use mathlib.Core.List.{List, [], ◌∷◌, map}
use mathlib.Core.Path.{◌≡◌, refl, sym, ap, ◌∙◌}
use lib.ListN.{length, length-map}
use Rattle.std.specs.List.{list_any, filter}
use Rattle.lists.proofs.Mapped.{any_mapped, keep_mapped, insert_mapped, gather_mapped, map_mapped}
use Rattle.orientation.specs.declared.RotMirror.{RotMirror}
use Rattle.orientation.specs.Orientations.{turn_by, rights, mirrors, right_of, mirror_of}
use Rattle.orientation.proofs.Turns.{Follows, eighth_right, eighth_mirror}
use Rattle.symbol.specs.declared.Point.{Point}
use Rattle.sheet.specs.declared.Wire.{Wire}
use Rattle.sheet.specs.declared.Component.{Component}
use Rattle.sheet.specs.Geometry.{marks}
use Rattle.sheet.specs.Joints.{joints_of, total}
use Rattle.sheet.specs.Split.{split_all}
use Rattle.sheet.specs.Merge.{merge}
use Rattle.sheet.specs.Run.{draw_wire}
use Rattle.sheet.specs.Drawings.{Sheet}
use Rattle.sheet.specs.Parts as Number
use Rattle.sheet.specs.Drawings
use Rattle.sheet.specs.Edits
use Rattle.four.specs.Plans.{Part, Plan}
use Rattle.four.specs.Plans as Four
use Rattle.four.specs.Edits as FourEdits
use Rattle.four.specs.Request1.{four}

abbrev pub fours : Sheet → Plan
fours s = record { wires = s.wires; parts = map four s.parts }

abbrev pub four_outcome : Edits.Outcome → FourEdits.Outcome
four_outcome o = record { plan = fours o.sheet; hit = o.hit; lost = o.lost }

-- ---- boxes, pads, joints

pub same_box : (c : Component) → Four.box (four c) ≡ Number.box c
unfolding Number.box
same_box c = refl

same_pads : (c : Component) → Four.pads (four c) ≡ Number.pads c
unfolding Number.pads
same_pads c = refl

pub same_touch : (b c : Component) → Four.touches (four b) (four c) ≡ Number.touches b c
unfolding Number.touches Number.box
same_touch b c = refl

pub same_pads_of : (cs : List Component) → Four.pads_of (map four cs) ≡ Number.pads_of cs
same_pads_of cs = gather_mapped four Four.pads Number.pads same_pads cs

pub same_joints : (s : Sheet) → Four.joints (fours s) ≡ Drawings.joints s
unfolding Four.joints Drawings.joints
same_joints s = ap (λ (ps : List Point). joints_of (marks s.wires ps)) (same_pads_of s.parts)

pub same_tally : (s : Sheet) → Four.tally_of (fours s) ≡ Drawings.tally_of s
unfolding Four.tally_of Drawings.tally_of
same_tally s = λ i. record { wires = length s.wires; joints = length (same_joints s i); components = length-map s.parts four i; ends = total (same_joints s i) }

-- ---- the edits

pub same_wire : (w : Wire) (s : Sheet) → FourEdits.wire w (fours s) ≡ fours (Edits.wire w s)
unfolding FourEdits.wire Edits.wire
same_wire w s = λ i. record { wires = draw_wire w s.wires (same_pads_of s.parts i); parts = map four s.parts }

pub same_place : (c : Component) (s : Sheet) → FourEdits.place_one (four c) (fours s) ≡ fours (Edits.place_one c s)
unfolding FourEdits.place_one Edits.place_one
same_place c s = λ i. record { wires = split_all (same_pads c i) s.wires; parts = insert_mapped four Four.ahead Number.ahead (λ x y. refl) c s.parts i }

same_remove : (f : Wire → Bool) (g : Part → Bool) (h : Component → Bool) → ((c : Component) → g (four c) ≡ h c) → (s : Sheet) → FourEdits.remove f g (fours s) ≡ fours (Edits.remove f h s)
unfolding FourEdits.remove Edits.remove
same_remove f g h e s =
    let kept = keep_mapped four (λ c. not (g c)) (λ c. not (h c)) (λ c. ap not (e c)) s.parts in
    let ws = filter (λ w. not (f w)) s.wires in
    λ i. record { wires = merge ws ((ap Four.pads_of kept ∙ same_pads_of (filter (λ c. not (h c)) s.parts)) i); parts = kept i }

same_meets : (p : Point) (n : ℕ) (c : Component) → FourEdits.meets_part p n (four c) ≡ Edits.meets_part p n c
unfolding Edits.meets_part Number.box
same_meets p n c = refl

same_hits : (p : Point) (n : ℕ) (c : Component) → FourEdits.hits p n (four c) ≡ Edits.hits p n c
unfolding Edits.hits Edits.meets_part Number.box
same_hits p n c = refl

pub same_delete : (p : Point) (n : ℕ) (s : Sheet) → FourEdits.delete p n (fours s) ≡ fours (Edits.delete p n s)
unfolding FourEdits.delete Edits.delete
same_delete p n s = same_remove (Edits.meets_wire p n) (FourEdits.meets_part p n) (Edits.meets_part p n) (same_meets p n) s

abbrev four_placed : Edits.Placed → FourEdits.Placed
four_placed o = record { plan = fours o.sheet; lost = o.lost }

same_place_all : (cs : List Component) (s : Sheet) → FourEdits.place_all (map four cs) (fours s) ≡ four_placed (Edits.place_all cs s)
unfolding FourEdits.place_all Edits.place_all
same_place_all [] s = refl
same_place_all (c ∷ cs) s =
    (λ i. cond (any_mapped four (Four.touches (four c)) (Number.touches c) (same_touch c) s.parts i) (FourEdits.gone (same_place_all cs s i)) ((ap (FourEdits.place_all (map four cs)) (same_place c s) ∙ same_place_all cs (Edits.place_one c s)) i))
    ∙ case (list_any (Number.touches c) s.parts)
  where
    case : (b : Bool) → cond b (FourEdits.gone (four_placed (Edits.place_all cs s))) (four_placed (Edits.place_all cs (Edits.place_one c s))) ≡ four_placed (cond b (Edits.gone (Edits.place_all cs s)) (Edits.place_all cs (Edits.place_one c s)))
    case true = refl
    case false = refl

-- a turn that follows the table t
module _ (f : RotMirror → RotMirror) (t : List ℕ) (e : Follows f t) (p : Point) (n : ℕ) (s : Sheet) where
  abbrev alter : Component → Component
  alter c = Number.reoriented (turn_by t) c

  again : (h : List Component) → map (Four.reoriented f) (map four h) ≡ map four (map alter h)
  again h =
      map_mapped four (Four.reoriented f) (λ c. four (alter c)) (λ c. λ i. record { kind = c.kind; turn = sym (e c.orientation) i; x = c.x; y = c.y; label = c.label }) h
      ∙ sym (map_mapped alter four (λ c. four (alter c)) (λ c. refl) h)

  same_turned : FourEdits.turn (FourEdits.hits p n) (Four.reoriented f) (fours s) ≡ four_outcome (Edits.turn (Edits.hits p n) alter s)
  unfolding FourEdits.turn Edits.turn
  same_turned =
      let h = filter (Edits.hits p n) s.parts in
      let kept : filter (FourEdits.hits p n) (map four s.parts) ≡ map four h = keep_mapped four (FourEdits.hits p n) (Edits.hits p n) (same_hits p n) s.parts in
      let out = same_remove (λ w. false) (FourEdits.hits p n) (Edits.hits p n) (same_hits p n) s in
      let done : FourEdits.place_all (map (Four.reoriented f) (filter (FourEdits.hits p n) (map four s.parts))) (FourEdits.remove (λ w. false) (FourEdits.hits p n) (fours s)) ≡ four_placed (Edits.place_all (map alter h) (Edits.remove (λ w. false) (Edits.hits p n) s)) =
      (λ i. FourEdits.place_all ((ap (map (Four.reoriented f)) kept ∙ again h) i) (out i)) ∙ same_place_all (map alter h) (Edits.remove (λ w. false) (Edits.hits p n) s)
      in
      λ i. record { plan = (done i).plan; hit = (ap length kept ∙ length-map h four) i; lost = (done i).lost }

pub same_turn : (p : Point) (n : ℕ) (s : Sheet) → FourEdits.turn_right p n (fours s) ≡ four_outcome (Edits.turn_right p n s)
unfolding FourEdits.turn_right Edits.turn_right
same_turn p n s = same_turned right_of rights eighth_right p n s

pub same_mirror : (p : Point) (n : ℕ) (s : Sheet) → FourEdits.mirror p n (fours s) ≡ four_outcome (Edits.mirror p n s)
unfolding FourEdits.mirror Edits.mirror
same_mirror p n s = same_turned mirror_of mirrors eighth_mirror p n s
