-- A sheet: what is written is read back, cut short it has a byte due, and only what is written so is read. The wires of a lawful drawing are its horizontal ones and then its
-- vertical ones.
use mathlib.Core.Path.{◌≡◌, refl, sym, ap, ap₂, subst, ◌∙◌}
use mathlib.Core.Bool.{Bool, true, false, cond, beq}
use mathlib.Core.List.{List, [], ◌∷◌, ◌++◌, append_assoc, append-nil}
use Prim.Native.Nat.{ℕ, ◌+◌, ◌-◌, ◌≤◌, ◌<◌}
use native.Mathlib.Omega.{arith}
use lib.ListN.{length, take, length-append}
use Rattle.lists.specs.Lists.{◌∈◌, Rows, none, more}
use Rattle.std.specs.List.{filter, flat_map}
use Rattle.lists.proofs.Tests.{Reads, beq_reads, clash}
use Rattle.lists.proofs.Lists.{in_cons, keep_all, keep_none}
use Rattle.lists.proofs.Appends.{keep_append}
use Rattle.sheet.specs.declared.Wire.{Wire}
use Rattle.sheet.specs.declared.Component.{Component}
use Rattle.sheet.specs.Drawings.{Sheet}
use Rattle.sheet.specs.Rules.{Upward, upright, up, along}
use Rattle.groups.specs.Taken.{Taken, took, then, short, times}
use Rattle.groups.specs.Groups.{groups_of, take_in, Bytes}
use Rattle.groups.proofs.Told.{Told, told, told_then}
use Rattle.groups.proofs.Codes.{Only, Codes, Between, cut_last, cut_then, range_codes, times_codes}
use Rattle.saved.specs.File.{wire_bytes, part_bytes, listed, directed, file_of}
use Rattle.saved.specs.Reading.{take_sheet}
use Rattle.saved.proofs.Rows.{WireIn, wire_codes}
use Rattle.saved.proofs.Parts.{PartIn, part_codes}

-- ---- the wires of a direction

pub by_direction : (v : Bool) (w : Wire) → Reads (w.vertical ≡ v) (beq w.vertical v)
by_direction v w = beq_reads w.vertical v

-- all wires are of the direction
abbrev pub AllOf : Bool → List Wire → Type 0
AllOf v ws = (w : Wire) → w ∈ ws → w.vertical ≡ v

same_direction : (v : Bool) (ws : List Wire) → AllOf v ws → directed v ws ≡ ws
same_direction v ws h = keep_all (by_direction v) ws h

other_direction : (v u : Bool) (ws : List Wire) → AllOf u ws → (u ≡ v → ⊥) → directed v ws ≡ []
other_direction v u ws h n = keep_none (by_direction v) ws (λ w m e. n (sym (h w m) ∙ e))

module _ (hs vs : List Wire) (h : AllOf false hs) (v : AllOf true vs) where
  levels_are : directed false (hs ++ vs) ≡ hs
  levels_are =
      keep_append (λ w. beq w.vertical false) hs vs
      ∙ ap₂ ◌++◌ (same_direction false hs h) (other_direction false true vs v (λ e. clash refl e))
      ∙ append-nil hs

  uprights_are : directed true (hs ++ vs) ≡ vs
  uprights_are =
      keep_append (λ w. beq w.vertical true) hs vs
      ∙ ap₂ ◌++◌ (other_direction true false hs h (λ e. clash e refl)) (same_direction true vs v)

-- rising rows are the horizontal wires and then the vertical ones
after_upright : {w y : Wire} → Upward w y → w.vertical ≡ true → y.vertical ≡ true
after_upright (upright f t) e = t
after_upright (up d l) e = sym d ∙ e
after_upright (along d l s) e = sym d ∙ e

first_level : (w : Wire) (ws : List Wire) → w.vertical ≡ false → directed false ws ++ directed true ws ≡ ws → directed false (w ∷ ws) ++ directed true (w ∷ ws) ≡ w ∷ ws
first_level w ws e ih =
    (λ i. cond (beq (e i) false) (w ∷ directed false ws) (directed false ws) ++ cond (beq (e i) true) (w ∷ directed true ws) (directed true ws))
    ∙ ap {B = List Wire} (λ l. w ∷ l) ih

all_upright : (ws : List Wire) → AllOf true ws → directed false ws ++ directed true ws ≡ ws
all_upright ws h = ap₂ ◌++◌ (other_direction false true ws h (λ e. clash refl e)) (same_direction true ws h)

pub levels_first : {ws : List Wire} → Rows Upward ws → directed false ws ++ directed true ws ≡ ws
levels_first none = refl
levels_first (more {x = w} {xs = ws} h r) = go w.vertical refl (levels_first r)
  where
    go : (v : Bool) → w.vertical ≡ v → directed false ws ++ directed true ws ≡ ws → directed false (w ∷ ws) ++ directed true (w ∷ ws) ≡ w ∷ ws
    go false e ih = first_level w ws e ih
    go true e ih = all_upright (w ∷ ws) (λ y m. in_cons (λ (x : Wire). x.vertical ≡ true) e (λ z n. after_upright (h z n) e) m)

-- ---- sheets

-- what can be written and read back
pub record SheetIn (s : Sheet) : Type 0 where
  pub wires : length s.wires ≤ 512
  pub parts : length s.parts ≤ 128
  pub order : directed false s.wires ++ directed true s.wires ≡ s.wires
  pub levels : (w : Wire) → w ∈ directed false s.wires → WireIn false w
  pub uprights : (w : Wire) → w ∈ directed true s.wires → WireIn true w
  pub each : (c : Component) → c ∈ s.parts → PartIn c

rooms : (n : ℕ) → n ≤ 512 → Codes (Between 0 n) groups_of (take_in 0 n)
rooms n h = range_codes 0 n (omega arith)

pub sheet_back : (s : Sheet) (rest : List ℕ) → SheetIn s → take_sheet (file_of s ++ rest) ≡ took s rest
unfolding take_sheet file_of then
sheet_back s rest h =
    let hs = directed false s.wires in
    let vs = directed true s.wires in
    let cs = s.parts in
    let both : length hs + length vs ≡ length s.wires = sym (length-append hs vs) ∙ ap length h.order in
    let n1 = groups_of (length hs) in
    let b1 = flat_map wire_bytes hs in
    let n2 = groups_of (length vs) in
    let b2 = flat_map wire_bytes vs in
    let n3 = groups_of (length cs) in
    let b3 = flat_map part_bytes cs in
    let flat : ((n1 ++ b1) ++ ((n2 ++ b2) ++ (n3 ++ b3))) ++ rest ≡ n1 ++ (b1 ++ (n2 ++ (b2 ++ (n3 ++ (b3 ++ rest))))) = simp append_assoc in
    rw (
      flat,
      (rooms 512 (omega arith)).back (length hs) (b1 ++ (n2 ++ (b2 ++ (n3 ++ (b3 ++ rest))))) (omega arith, omega (arith, both, h.wires)),
      (times_codes (wire_codes false) (length hs)).back hs (n2 ++ (b2 ++ (n3 ++ (b3 ++ rest)))) (refl, h.levels),
      (rooms (512 - length hs) (omega arith)).back (length vs) (b2 ++ (n3 ++ (b3 ++ rest))) (omega arith, omega (arith, both, h.wires)),
      (times_codes (wire_codes true) (length vs)).back vs (n3 ++ (b3 ++ rest)) (refl, h.uprights),
      (rooms 128 (omega arith)).back (length cs) (b3 ++ rest) (omega arith, h.parts),
      (times_codes part_codes (length cs)).back cs rest (refl, h.each),
    ) (λ i. took (record { wires = h.order i; parts = cs }) rest)

-- the parts of a file, cut short anywhere
listed_cut : {A : Type 0} {Ok : A → Type 0} {w : A → List ℕ} {f : List ℕ → Taken A} {B : Type 0} (g : ℕ → List A → List ℕ → Taken B) (most : ℕ) → most ≤ 512 → Codes Ok w f → (xs : List A) → length xs ≤ most → ((x : A) → x ∈ xs → Ok x) → (r : List ℕ)
    → ((k : ℕ) → k < length r → g (length xs) xs (take k r) ≡ short) → (k : ℕ) → k < length (listed w xs ++ r) → then (take_in 0 most (take k (listed w xs ++ r))) (λ n s. then (times f n s) (g n)) ≡ short
listed_cut {w = w} {f = f} g most small c xs few each r later k h =
    let n = groups_of (length xs) in
    let flat = append_assoc n (flat_map w xs) r in
    ap (λ l. then (take_in 0 most (take k l)) (λ m s. then (times f m s) (g m))) flat
    ∙ cut_then _ (rooms most small) (length xs) (omega arith, few) (flat_map w xs ++ r) (cut_then (g (length xs)) (times_codes c (length xs)) xs (refl, each) r later) k (omega (arith, ap length flat))

pub sheet_cut : (s : Sheet) → SheetIn s → (k : ℕ) → k < length (file_of s) → take_sheet (take k (file_of s)) ≡ short
unfolding take_sheet file_of
sheet_cut s h =
    let hs = directed false s.wires in
    let vs = directed true s.wires in
    let both : length hs + length vs ≡ length s.wires = sym (length-append hs vs) ∙ ap length h.order in
    listed_cut _ 512 (omega arith) (wire_codes false) hs (omega (arith, both, h.wires)) h.levels _
    (listed_cut _ (512 - length hs) (omega arith) (wire_codes true) vs (omega (arith, both, h.wires)) h.uprights _
    (cut_then _ (rooms 128 (omega arith)) (length s.parts) (omega arith, h.parts) _ (cut_last _ (times_codes part_codes (length s.parts)) s.parts (refl, h.each))))

-- what was read of the two directions
record Wired (hs vs : List Wire) (n : ℕ) : Type 0 where
  levels : (w : Wire) → w ∈ hs → WireIn false w
  uprights : (w : Wire) → w ∈ vs → WireIn true w
  room : length hs + length vs ≤ n

module _ (hs vs : List Wire) (cs : List Component) (w : Wired hs vs 512) where
  sheet : Sheet
  sheet = record { wires = hs ++ vs; parts = cs }

  level_dir : AllOf false hs
  level_dir x m = (w.levels x m).dir

  upright_dir : AllOf true vs
  upright_dir x m = (w.uprights x m).dir

  are_levels : directed false (hs ++ vs) ≡ hs
  are_levels = levels_are hs vs level_dir upright_dir

  are_uprights : directed true (hs ++ vs) ≡ vs
  are_uprights = uprights_are hs vs level_dir upright_dir

  sheet_in : length cs ≤ 128 → ((c : Component) → c ∈ cs → PartIn c) → SheetIn sheet
  unfolding sheet
  sheet_in few each = record {
    wires = omega (arith, w.room, length-append hs vs);
    parts = few;
    order = ap₂ ◌++◌ are_levels are_uprights;
    levels = λ x m. w.levels x (subst (λ l. x ∈ l) are_levels m);
    uprights = λ x m. w.uprights x (subst (λ l. x ∈ l) are_uprights m);
    each = each;
  }

  sheet_bytes : file_of sheet ≡ listed wire_bytes hs ++ (listed wire_bytes vs ++ listed part_bytes cs)
  unfolding file_of sheet
  sheet_bytes = λ i. listed wire_bytes (are_levels i) ++ (listed wire_bytes (are_uprights i) ++ listed part_bytes cs)

pub sheet_only : (s : List ℕ) → Bytes s → Told (Only SheetIn file_of s) (take_sheet s)
unfolding take_sheet sheet
sheet_only s h =
    told_then ((rooms 512 (omega arith)).only s h) (λ n1 s1 o1.
    told_then ((times_codes (wire_codes false) n1).only s1 o1.bytes) (λ hs s2 o2.
    told_then ((rooms (512 - n1) (omega arith)).only s2 o2.bytes) (λ n2 s3 o3.
    told_then ((times_codes (wire_codes true) n2).only s3 o3.bytes) (λ vs s4 o4.
    told_then ((rooms 128 (omega arith)).only s4 o4.bytes) (λ n3 s5 o5.
    told_then ((times_codes part_codes n3).only s5 o5.bytes) (λ cs s6 o6.
    let w : Wired hs vs 512 = record { levels = o2.ok.1; uprights = o4.ok.1; room = omega (arith, o1.ok.1, o3.ok.1, o2.ok.0, o4.ok.0) } in
    let c1 = o2.ok.0 in
    let c2 = o4.ok.0 in
    let c3 = o6.ok.0 in
    told (record {
      is = o1.is ∙ (λ i. groups_of (sym c1 i) ++ (o2.is ∙ ap (λ t. flat_map wire_bytes hs ++ t) (o3.is ∙ (λ j. groups_of (sym c2 j) ++ (o4.is ∙ ap (λ t. flat_map wire_bytes vs ++ t) (o5.is ∙ (λ k. groups_of (sym c3 k) ++ o6.is k))) j))) i)
          ∙ sym (ap (λ t. t ++ s6) (sheet_bytes hs vs cs w) ∙ simp append_assoc);
      ok = sheet_in hs vs cs w (omega (arith, o5.ok.1, c3)) o6.ok.1;
      bytes = o6.bytes;
    })))))))
