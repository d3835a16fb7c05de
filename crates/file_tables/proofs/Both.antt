-- A sheet read, part by part: a refusal of each part is one of the sheet.
use mathlib.Core.Path.{◌≡◌, refl}
use mathlib.Core.Bool.{true, false}
use mathlib.Core.List.{List, ◌++◌}
use Prim.Native.Nat.{ℕ, ◌-◌}
use Rattle.sheet.specs.declared.Wire.{Wire}
use Rattle.sheet.specs.declared.Component.{Component}
use Rattle.groups.specs.Taken.{took, refused, then, times}
use Rattle.groups.specs.Groups.{take_in}
use Rattle.saved.specs.Reading.{take_wire, take_part, take_sheet}

module _ (s : List ℕ) where
  pub no_level_count : {k : ℕ} → refused k ≡ take_in 0 512 s → take_sheet s ≡ refused k
  unfolding take_sheet then
  no_level_count q = rw (← q) refl

  module _ {h : ℕ} {s1 : List ℕ} (e1 : took h s1 ≡ take_in 0 512 s) where
    pub no_levels : {k : ℕ} → times (take_wire false) h s1 ≡ refused k → take_sheet s ≡ refused k
    unfolding take_sheet then
    no_levels q = rw (← e1, q) refl

    module _ {hs : List Wire} {s2 : List ℕ} (e2 : times (take_wire false) h s1 ≡ took hs s2) where
      pub no_upright_count : {k : ℕ} → refused k ≡ take_in 0 (512 - h) s2 → take_sheet s ≡ refused k
      unfolding take_sheet then
      no_upright_count q = rw (← e1, e2, ← q) refl

      module _ {v : ℕ} {s3 : List ℕ} (e3 : took v s3 ≡ take_in 0 (512 - h) s2) where
        pub no_uprights : {k : ℕ} → times (take_wire true) v s3 ≡ refused k → take_sheet s ≡ refused k
        unfolding take_sheet then
        no_uprights q = rw (← e1, e2, ← e3, q) refl

        module _ {vs : List Wire} {s4 : List ℕ} (e4 : times (take_wire true) v s3 ≡ took vs s4) where
          pub no_part_count : {k : ℕ} → refused k ≡ take_in 0 128 s4 → take_sheet s ≡ refused k
          unfolding take_sheet then
          no_part_count q = rw (← e1, e2, ← e3, e4, ← q) refl

          module _ {n : ℕ} {s5 : List ℕ} (e5 : took n s5 ≡ take_in 0 128 s4) where
            pub no_parts_read : {k : ℕ} → times take_part n s5 ≡ refused k → take_sheet s ≡ refused k
            unfolding take_sheet then
            no_parts_read q = rw (← e1, e2, ← e3, e4, ← e5, q) refl

            pub all_read : {cs : List Component} {s6 : List ℕ} → times take_part n s5 ≡ took cs s6 → take_sheet s ≡ took (record { wires = hs ++ vs; parts = cs }) s6
            unfolding take_sheet then
            all_read q = rw (← e1, e2, ← e3, e4, ← e5, q) refl
