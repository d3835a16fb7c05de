-- A wire and a label: what is written is read back, cut short it has a byte due, and only what is written so is read.
use mathlib.Core.Path.{◌≡◌, refl, sym, ap, ◌∙◌}
use mathlib.Core.Bool.{Bool, true, false}
use mathlib.Core.List.Memᴰ.{tail as ∈-tail}
use mathlib.Core.List.{List, [], ◌∷◌, ◌++◌, append_assoc}
use Prim.Native.Nat.{ℕ, zero, suc, ◌≤◌, ◌<◌}
use native.Mathlib.Omega.{arith}
use lib.Dec.{T}
use lib.ListN.{length, take}
use Rattle.lists.specs.Lists.{◌∈◌}
use Rattle.std.specs.List.{flat_map}
use Rattle.lists.proofs.Tests.{test}
use Rattle.lists.proofs.Passes.{gather_each}
use Rattle.label.specs.Labels.{graphic}
use Rattle.sheet.specs.declared.Wire.{Wire}
use Rattle.groups.specs.Taken.{took, then, short, if, times}
use Rattle.groups.specs.Groups.{groups_of, take_in, Bytes}
use Rattle.groups.proofs.Told.{Told, told, not, ends, told_then, told_as, told_if}
use Rattle.groups.proofs.Codes.{Only, Codes, Between, cut_last, cut_then, range_codes, times_codes}
use Rattle.saved.specs.File.{wire_bytes, label_bytes}
use Rattle.saved.specs.Reading.{take_wire, take_graphic, take_label}

-- ---- wires

-- a wire of the direction, with coordinates in range; its start may lie behind its end
pub record WireIn (v : Bool) (w : Wire) : Type 0 where
  pub dir : w.vertical ≡ v
  pub line : w.line ≤ 12000
  pub start : w.start ≤ 12000
  pub end : w.end ≤ 12000

coordinate : Codes (Between 0 12000) groups_of (take_in 0 12000)
coordinate = range_codes 0 12000 (omega arith)

wire_back : (v : Bool) (w : Wire) (rest : List ℕ) → WireIn v w → take_wire v (wire_bytes w ++ rest) ≡ took w rest
unfolding take_wire wire_bytes then
wire_back v w rest h =
    let l = groups_of w.line in
    let a = groups_of w.start in
    let e = groups_of w.end in
    rw (
      append_assoc l (a ++ e) rest,
      append_assoc a e rest,
      coordinate.back w.line (a ++ (e ++ rest)) (omega arith, h.line),
      coordinate.back w.start (e ++ rest) (omega arith, h.start),
      coordinate.back w.end rest (omega arith, h.end),
    ) (ap (λ d. took (record { vertical = d; line = w.line; start = w.start; end = w.end }) rest) (sym h.dir))

wire_only : (v : Bool) (s : List ℕ) → Bytes s → Told (Only (WireIn v) wire_bytes s) (take_wire v s)
unfolding take_wire wire_bytes
wire_only v s h =
    told_then (coordinate.only s h) (λ line s1 o1.
    told_then (coordinate.only s1 o1.bytes) (λ start s2 o2.
    told_then (coordinate.only s2 o2.bytes) (λ end s3 o3. told (record {
      is = o1.is ∙ ap (λ t. groups_of line ++ t) (o2.is ∙ ap (λ t. groups_of start ++ t) o3.is) ∙ simp append_assoc;
      ok = record { dir = refl; line = o1.ok.1; start = o2.ok.1; end = o3.ok.1 };
      bytes = o3.bytes;
    }))))

wire_cut : (v : Bool) (w : Wire) → WireIn v w → (k : ℕ) → k < length (wire_bytes w) → take_wire v (take k (wire_bytes w)) ≡ short
unfolding take_wire wire_bytes
wire_cut v w h =
    cut_then _ coordinate w.line (omega arith, h.line) _
    (cut_then _ coordinate w.start (omega arith, h.start) _ (cut_last _ coordinate w.end (omega arith, h.end)))

pub wire_codes : (v : Bool) → Codes (WireIn v) wire_bytes (take_wire v)
wire_codes v = record { back = wire_back v; cut = wire_cut v; only = wire_only v }

-- ---- labels

-- a byte of a label
abbrev pub IsGraphic : ℕ → Type 0
IsGraphic b = T (graphic b)

-- the byte itself
abbrev raw : ℕ → List ℕ
raw b = b ∷ []

graphic_back : (b : ℕ) (rest : List ℕ) → IsGraphic b → take_graphic (raw b ++ rest) ≡ took b rest
unfolding take_graphic
graphic_back b rest t = go (graphic b) t
  where
    go : (g : Bool) → T g → if g b rest ≡ took b rest
    go true t = refl
    go false t = absurd t

graphic_only : (s : List ℕ) → Bytes s → Told (Only IsGraphic raw s) (take_graphic s)
unfolding take_graphic
graphic_only [] h = not ends
graphic_only (b ∷ s) h = told_if b s (test (graphic b)) (λ t. record { is = refl; ok = t; bytes = λ c m. h c (∈-tail m) })

graphic_cut : (b : ℕ) → IsGraphic b → (k : ℕ) → k < 1 → take_graphic (take k (raw b)) ≡ short
unfolding take_graphic
graphic_cut b t zero h = refl
graphic_cut b t (suc k) h = absurd (omega arith)

graphics : (n : ℕ) → Codes (λ bs. (length bs ≡ n) × ((b : ℕ) → b ∈ bs → IsGraphic b)) (flat_map raw) (times take_graphic n)
graphics n = times_codes (record { back = graphic_back; cut = graphic_cut; only = graphic_only }) n

-- a label
pub record LabelIn (l : List ℕ) : Type 0 where
  pub short : length l ≤ 16
  pub bytes : (b : ℕ) → b ∈ l → IsGraphic b

size : Codes (Between 0 16) groups_of (take_in 0 16)
size = range_codes 0 16 (omega arith)

label_back : (l rest : List ℕ) → LabelIn l → take_label (label_bytes l ++ rest) ≡ took l rest
unfolding take_label label_bytes then
label_back l rest h =
    let each : times take_graphic (length l) (l ++ rest) ≡ took l rest = ap (λ t. times take_graphic (length l) (t ++ rest)) (sym (gather_each l)) ∙ (graphics (length l)).back l rest (refl, h.bytes) in
    rw (append_assoc (groups_of (length l)) l rest, size.back (length l) (l ++ rest) (omega arith, h.short)) each

label_only : (s : List ℕ) → Bytes s → Told (Only LabelIn label_bytes s) (take_label s)
unfolding take_label label_bytes
label_only s h = told_then (size.only s h) (λ n s1 o1. told_as ((graphics n).only s1 o1.bytes) (λ l s2 o2. record {
  is = o1.is ∙ (λ i. groups_of (sym o2.ok.0 i) ++ (o2.is ∙ ap (λ t. t ++ s2) (gather_each l)) i) ∙ sym (append_assoc (groups_of (length l)) l s2);
  ok = record { short = omega (arith, o1.ok.1, o2.ok.0); bytes = o2.ok.1 };
  bytes = o2.bytes;
}))

label_cut : (l : List ℕ) → LabelIn l → (k : ℕ) → k < length (label_bytes l) → take_label (take k (label_bytes l)) ≡ short
unfolding take_label label_bytes
label_cut l h = cut_then _ size (length l) (omega arith, h.short) l each
  where
    each : (k : ℕ) → k < length l → times take_graphic (length l) (take k l) ≡ short
    each k c =
        let e = gather_each l in
        ap (λ t. times take_graphic (length l) (take k t)) (sym e) ∙ (graphics (length l)).cut l (refl, h.bytes) k (omega (arith, ap length e))

pub label_codes : Codes LabelIn label_bytes take_label
label_codes = record { back = label_back; cut = label_cut; only = label_only }
