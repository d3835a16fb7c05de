-- What is asked and not refused is within the limits.
use Prim.Native.Nat.{ℕ, suc, ◌≤◌}
use native.Mathlib.Omega.{arith}
use mathlib.Core.Bool.{Bool, true, false, ◌&&◌, cond}
use mathlib.Core.Path.{◌≡◌, refl, sym, subst, ◌∙◌}
use borrow.Author.Tests.{leb-true}
use lib.Dec.{T, eqb, leb, ltb, leb→le, ltb→lt, eqb→eq}
use lib.IntN.{ℤ, pos, negsuc, nat_abs}
use lib.Signed.{le_z}
use Rattle.lists.proofs.Tests.{both, both_l, both_r}
use Rattle.edge.specs.Coordinates.{biased, ranged, is_position, to_ℕ, size_is, no_size, size_of}
use Rattle.edge.proofs.Whole.{to_ℕ_sub}
use Rattle.edge.proofs.Coordinates.{lifted, narrow_test}
use Rattle.symbol.specs.Symbols.{known_symbol}
use Rattle.symbol.proofs.Replies.{wire_nested, pointer_nested, component_nested}
use Rattle.label.specs.declared.Label.{Label}
use Rattle.label.specs.Labels.{held_label}
use Rattle.label.proofs.Accepted.{accepted_holds}
use Rattle.sheet.specs.Parts.{PartFits}
use Rattle.sheet.proofs.Wiring.{Drawable}
use Rattle.asked.specs.Asked.{AskedWire, wire_at, no_wire, asked_wire, AskedPart, component_at, no_part, asked_part, AskedPointer, point_at, no_pointer, asked_pointer}

-- ---- rows' numbers

-- the numbers of rows are in the order of the coordinates
biased_order : (a b : ℤ) → T (le_z a b) → biased a ≤ biased b
unfolding biased
biased_order (pos m) (pos n) t = let h = leb→le m n t in omega arith
biased_order (pos m) (negsuc n) t = absurd t
biased_order (negsuc m) (pos n) t = omega (arith, to_ℕ_sub 6000 (suc m))
biased_order (negsuc m) (negsuc n) t = let h = leb→le n m t in omega (arith, to_ℕ_sub 6000 (suc m), to_ℕ_sub 6000 (suc n))

near : (z : ℤ) → ranged 6000 z ≡ true → biased z ≤ 12000
near z e = (lifted z (leb-true (nat_abs z) 6000 e)).1

-- a component's position
standing : (z : ℤ) → ranged 5800 z ≡ true → (200 ≤ biased z) × (biased z ≤ 11800)
standing z e =
    let h = leb-true (nat_abs z) 5800 e in
    let t : T (is_position (biased z)) = subst T (sym (sym (narrow_test z (omega arith)) ∙ e)) tt in
    (leb→le 200 (biased z) (both_l (leb 200 (biased z)) (leb (biased z) 11800) t), leb→le (biased z) 11800 (both_r (leb 200 (biased z)) (leb (biased z) 11800) t))

sized : (z : ℤ) → eqb (size_of z).reply 0 ≡ true → to_ℕ z ≤ 1000
unfolding size_of
sized (negsuc n) e = absurd (let y : ◌≡◌ {A = ℕ} 0 1 = cc in omega arith)
sized (pos n) e = go (leb n 1000) refl e
  where
    go : (b : Bool) → leb n 1000 ≡ b → eqb (cond b (size_is n) no_size).reply 0 ≡ true → n ≤ 1000
    go true t e = leb-true n 1000 t
    go false t e = absurd (let y : ◌≡◌ {A = ℕ} 0 1 = cc in omega arith)

-- ---- what is asked

module _ (v : Bool) (l s e : ℤ) where
  pub wire_drawable : {a : AskedWire} → a ≡ asked_wire v l s e → a.reply ≡ 0 → Drawable a.wire
  unfolding asked_wire
  wire_drawable q = subst (λ (a : AskedWire). a.reply ≡ 0 → Drawable a.wire) (sym (q ∙ wire_nested no_wire (record { reply = 0; wire = wire_at v l s e }) l s e)) (go (ranged 6000 l && (ranged 6000 s && ranged 6000 e)) (le_z s e) refl refl)
    where
      A : Bool → Bool → AskedWire
      A a b = cond a (cond b (record { reply = 0; wire = wire_at v l s e }) (no_wire 2)) (no_wire 1)

      go : (a b : Bool) → (ranged 6000 l && (ranged 6000 s && ranged 6000 e)) ≡ a → le_z s e ≡ b → (A a b).reply ≡ 0 → Drawable (A a b).wire
      go true true p q z =
          let x = both (ranged 6000 l) (ranged 6000 s && ranged 6000 e) p in
          let y = both (ranged 6000 s) (ranged 6000 e) x.1 in
          record { line = near l x.0; order = biased_order s e (subst T (sym q) tt); end = near e y.1 }
      go true false p q z = absurd (omega arith)
      go false b p q z = absurd (omega arith)

module _ (k : ℕ) (o : ℕ) (x y : ℤ) (l : Label) where
  pub part_fits : {a : AskedPart} → a ≡ asked_part k o x y l → a.reply ≡ 0 → PartFits a.part
  unfolding asked_part
  part_fits q = subst (λ (a : AskedPart). a.reply ≡ 0 → PartFits a.part) (sym (q ∙ component_nested no_part (record { reply = 0; part = component_at k o x y l }) k o x y l)) (go (known_symbol k o) (ranged 5800 x && ranged 5800 y) (eqb (held_label l).reply 0) refl refl refl)
    where
      A : Bool → Bool → Bool → AskedPart
      A a b c = cond a (cond b (cond c (record { reply = 0; part = component_at k o x y l }) (no_part 5)) (no_part 1)) (no_part 4)

      go : (a b c : Bool) → (known_symbol k o) ≡ a → (ranged 5800 x && ranged 5800 y) ≡ b → eqb (held_label l).reply 0 ≡ c → (A a b c).reply ≡ 0 → PartFits (A a b c).part
      go true true true p q r z =
          let a = both (leb k 2) (ltb o 8) p in
          let b = both (ranged 5800 x) (ranged 5800 y) q in
          record { kind = leb-true k 2 a.0; orientation = ltb→lt o 8 (subst T (sym a.1) tt); x = standing x b.0; y = standing y b.1; label = (accepted_holds l (eqb→eq (held_label l).reply 0 (subst T (sym r) tt))).ok }
      go true true false p q r z = absurd (omega arith)
      go true false c p q r z = absurd (omega arith)
      go false b c p q r z = absurd (omega arith)

-- the pointer and its size are within their ranges
pub record Near (a : AskedPointer) : Type 0 where
  pub x : a.point.x ≤ 12000
  pub y : a.point.y ≤ 12000
  pub size : a.size ≤ 1000

module _ (x y n : ℤ) where
  pub pointer_near : {a : AskedPointer} → a ≡ asked_pointer x y n → a.reply ≡ 0 → Near a
  unfolding asked_pointer
  pointer_near q = subst (λ (a : AskedPointer). a.reply ≡ 0 → Near a) (sym (q ∙ pointer_nested no_pointer (record { reply = 0; point = point_at x y; size = to_ℕ n }) x y n)) (go (ranged 6000 x && ranged 6000 y) (eqb (size_of n).reply 0) refl refl)
    where
      A : Bool → Bool → AskedPointer
      A a b = cond a (cond b (record { reply = 0; point = point_at x y; size = to_ℕ n }) (no_pointer 3)) (no_pointer 1)

      go : (a b : Bool) → (ranged 6000 x && ranged 6000 y) ≡ a → eqb (size_of n).reply 0 ≡ b → (A a b).reply ≡ 0 → Near (A a b)
      go true true p q z = let a = both (ranged 6000 x) (ranged 6000 y) p in record { x = near x a.0; y = near y a.1; size = sized n q }
      go true false p q z = absurd (omega arith)
      go false b p q z = absurd (omega arith)
