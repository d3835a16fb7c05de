-- A component: what is written is read back, cut short it has a byte due, and only what is written so is read.
use mathlib.Core.Path.{◌≡◌, refl, sym, ap, ◌∙◌}
use mathlib.Core.List.{List, [], ◌∷◌, ◌++◌, append_assoc}
use Prim.Native.Nat.{ℕ, zero, suc, ◌≤◌, ◌<◌}
use native.Mathlib.Omega.{arith}
use lib.Dec.{T}
use lib.ListN.{length, take}
use Rattle.lists.specs.Lists.{◌∈◌}
use Rattle.std.specs.List.{list_all}
use Rattle.lists.proofs.Tests.{test, holds, passes}
use Rattle.lists.proofs.Lists.{all_reads}
use Rattle.label.specs.Labels.{graphic, padded, label_part}
use Rattle.label.proofs.Labels.{label_short}
use Rattle.label.proofs.Accepted as label
use Rattle.label.proofs.Accepted.{ok_is_label}
use Rattle.sheet.specs.declared.Component.{Component}
use Rattle.sheet.specs.Parts.{PartFits}
use Rattle.groups.specs.Taken.{took, then, short}
use Rattle.groups.specs.Groups.{groups_of, take_in, Bytes}
use Rattle.groups.proofs.Told.{Told, told, told_then}
use Rattle.groups.proofs.Codes.{Only, Codes, Between, cut_last, cut_then, range_codes}
use Rattle.saved.specs.File.{label_bytes, part_bytes}
use Rattle.saved.specs.Reading.{take_part}
use Rattle.saved.proofs.Rows.{IsGraphic, LabelIn, label_codes}

-- the bytes that hold a label
all_graphic : (l : List ℕ) → ((b : ℕ) → b ∈ l → IsGraphic b) → T (list_all graphic l)
all_graphic l h = passes (all_reads (λ b. test (graphic b)) l) h

length_padded : (n : ℕ) (l : List ℕ) → length (padded n l) ≡ n
unfolding padded
length_padded zero l = refl
length_padded (suc n) [] = ap suc (length_padded n [])
length_padded (suc n) (b ∷ l) = ap suc (length_padded n l)

-- a component that meets the limits, its label in 16 bytes
pub record PartIn (c : Component) : Type 0 where
  pub fits : PartFits c
  pub size : length c.label ≡ 16

part_label : (c : Component) → PartIn c → LabelIn (label_part c.label)
part_label c h = record {
  short = omega (arith, label_short c.label, h.size);
  bytes = holds (all_reads (λ b. test (graphic b)) (label_part c.label)) (ok_is_label c.label h.fits.label).bytes;
}

part_held : (c : Component) → PartIn c → padded 16 (label_part c.label) ≡ c.label
part_held c h = sym ((ok_is_label c.label h.fits.label).whole ∙ ap (λ n. padded n (label_part c.label)) h.size)

kinds : Codes (Between 0 2) groups_of (take_in 0 2)
kinds = range_codes 0 2 (omega arith)

eights : Codes (Between 0 7) groups_of (take_in 0 7)
eights = range_codes 0 7 (omega arith)

places : Codes (Between 200 11800) groups_of (take_in 200 11800)
places = range_codes 200 11800 (omega arith)

part_back : (c : Component) (rest : List ℕ) → PartIn c → take_part (part_bytes c ++ rest) ≡ took c rest
unfolding take_part part_bytes then
part_back c rest h =
    let k' = groups_of c.kind in
    let o' = groups_of c.orientation in
    let x' = groups_of c.x in
    let y' = groups_of c.y in
    let l' = label_bytes (label_part c.label) in
    rw (
      append_assoc k' (o' ++ (x' ++ (y' ++ l'))) rest,
      append_assoc o' (x' ++ (y' ++ l')) rest,
      append_assoc x' (y' ++ l') rest,
      append_assoc y' l' rest,
      kinds.back c.kind (o' ++ (x' ++ (y' ++ (l' ++ rest)))) (omega arith, h.fits.kind),
      eights.back c.orientation (x' ++ (y' ++ (l' ++ rest))) (omega arith, omega (arith, h.fits.orientation)),
      places.back c.x (y' ++ (l' ++ rest)) h.fits.x,
      places.back c.y (l' ++ rest) h.fits.y,
      label_codes.back (label_part c.label) rest (part_label c h),
    ) (λ i. took (record { kind = c.kind; orientation = c.orientation; x = c.x; y = c.y; label = part_held c h i }) rest)

-- the component of what was read
made : ℕ → ℕ → ℕ → ℕ → List ℕ → Component
made kind o x y l = record { kind = kind; orientation = o; x = x; y = y; label = padded 16 l }

part_bytes_lem : (kind o x y : ℕ) (l : List ℕ) → LabelIn l → part_bytes (made kind o x y l) ≡ groups_of kind ++ (groups_of o ++ (groups_of x ++ (groups_of y ++ label_bytes l)))
unfolding part_bytes made
part_bytes_lem kind o x y l h =
    λ i. groups_of kind ++ (groups_of o ++ (groups_of x ++ (groups_of y ++ label_bytes ((label.holds 16 l h.short (all_graphic l h.bytes)).back i))))

part_in : (kind o x y : ℕ) (l : List ℕ) → kind ≤ 2 → o ≤ 7 → Between 200 11800 x → Between 200 11800 y → LabelIn l → PartIn (made kind o x y l)
unfolding made
part_in kind o x y l hk ho hx hy hl = record {
  fits = record { kind = hk; orientation = omega arith; x = hx; y = hy; label = (label.holds 16 l hl.short (all_graphic l hl.bytes)).ok };
  size = length_padded 16 l;
}

part_only : (s : List ℕ) → Bytes s → Told (Only PartIn part_bytes s) (take_part s)
unfolding take_part made
part_only s h =
    told_then (kinds.only s h) (λ kind s1 o1.
    told_then (eights.only s1 o1.bytes) (λ o s2 o2.
    told_then (places.only s2 o2.bytes) (λ x s3 o3.
    told_then (places.only s3 o3.bytes) (λ y s4 o4.
    told_then (label_codes.only s4 o4.bytes) (λ l s5 o5. told (record {
      is = o1.is ∙ ap (λ t. groups_of kind ++ t) (o2.is ∙ ap (λ t. groups_of o ++ t) (o3.is ∙ ap (λ t. groups_of x ++ t) (o4.is ∙ ap (λ t. groups_of y ++ t) o5.is)))
          ∙ sym (ap (λ t. t ++ s5) (part_bytes_lem kind o x y l o5.ok) ∙ simp append_assoc);
      ok = part_in kind o x y l o1.ok.1 o2.ok.1 o3.ok o4.ok o5.ok;
      bytes = o5.bytes;
    }))))))

part_cut : (c : Component) → PartIn c → (k : ℕ) → k < length (part_bytes c) → take_part (take k (part_bytes c)) ≡ short
unfolding take_part part_bytes
part_cut c h =
    cut_then _ kinds c.kind (omega arith, h.fits.kind) _
    (cut_then _ eights c.orientation (omega arith, omega (arith, h.fits.orientation)) _
    (cut_then _ places c.x h.fits.x _
    (cut_then _ places c.y h.fits.y _
    (cut_last _ label_codes (label_part c.label) (part_label c h)))))

pub part_codes : Codes PartIn part_bytes take_part
part_codes = record { back = part_back; cut = part_cut; only = part_only }
