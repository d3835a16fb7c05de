-- The refusals: what the tests of a kind, an orientation and a position tell, and the answers of `pads` and `aabb`.
use mathlib.Core.Path.{◌≡◌, refl, sym, ap, ◌∙◌}
use Prim.Native.Nat.{ℕ, zero, suc, ◌<◌}
use native.Mathlib.Omega.{arith}
use mathlib.Core.Bool.{Bool, true, false, ◌&&◌}
use mathlib.Core.List.{[]}
use lib.Dec.{T, leb, leb→le, ltb, ltb→lt}
use Rattle.lists.proofs.Tests.{both_l, both_r}
use Rattle.refusal.specs.Numbers.{number_of}
use Rattle.refusal.specs.declared.Refusal.{Refusal}
use Rattle.refusal.proofs.Numbers.{refuses}
use Rattle.orientation.specs.Orientations.{eighth}
use Rattle.edge.specs.Coordinates.{is_position}
use Rattle.symbol.specs.Symbols.{known_symbol, unused, block, box_of, pad_block, bounds_at, Placeable}
use Rattle.symbol.specs.Replies.{known_then_placed, held_reply}
use Rattle.symbol.specs.Answers.{pads_for, bounds_for, pads_reply_of, aabb_of}
use Rattle.symbol.specs.declared.PadBlock.{PadBlock}
use Rattle.symbol.specs.declared.PadsReply.{PadsReply}
use Rattle.symbol.specs.declared.Bounds.{Bounds}
use Rattle.symbol.specs.declared.BoundsReply.{BoundsReply}

above_zero : {A : Type 0} (f g : ℕ → A) → ((k : ℕ) → f (suc k) ≡ g (suc k)) → (n : ℕ) → 0 < n → f n ≡ g n
above_zero f g h zero n = absurd (let z : ⊥ = omega arith in z)
above_zero f g h (suc k) n = h k

module _ (kind : ℕ) (n : ℕ) (x y : ℕ) where
  -- the reply, by what the two tests give
  pub refuse : (k p : Bool) → known_symbol kind n ≡ k → (is_position x && is_position y) ≡ p → known_then_placed k p ≡ held_reply kind n x y
  unfolding held_reply
  refuse k p e f = sym (λ i. known_then_placed (e i) (f i))

  pub unknown : known_symbol kind n ≡ false → 4 ≡ held_reply kind n x y
  unknown e = refuse false (is_position x && is_position y) e refl

  pub outside : known_symbol kind n ≡ true → (is_position x && is_position y) ≡ false → 1 ≡ held_reply kind n x y
  outside = refuse true false

  pub placed : known_symbol kind n ≡ true → (is_position x && is_position y) ≡ true → 0 ≡ held_reply kind n x y
  placed = refuse true true

  -- the tests, read
  pub tests_placeable : T (known_symbol kind n) → T (is_position x && is_position y) → Placeable kind n x y
  tests_placeable k t =
      let tx = both_l (is_position x) (is_position y) t in
      let ty = both_r (is_position x) (is_position y) t in
      record {
        of_kind = leb→le kind 2 (both_l (leb kind 2) (ltb n 8) k);
        sound = record {
          turned = ltb→lt n 8 (both_r (leb kind 2) (ltb n 8) k);
          left = leb→le 200 x (both_l (leb 200 x) (leb x 11800) tx);
          right = leb→le x 11800 (both_r (leb 200 x) (leb x 11800) tx);
          top = leb→le 200 y (both_l (leb 200 y) (leb y 11800) ty);
          bottom = leb→le y 11800 (both_r (leb 200 y) (leb y 11800) ty);
        };
      }

  -- what reply 0 tells
  pub placeable : 0 ≡ held_reply kind n x y → Placeable kind n x y
  unfolding held_reply
  placeable = go (known_symbol kind n) (is_position x && is_position y) tests_placeable
    where
      go : (p r : Bool) → (T p → T r → Placeable kind n x y) → ◌≡◌ {A = ℕ} 0 (known_then_placed p r) → Placeable kind n x y
      go true true m e = m tt tt
      go true false m e = absurd (let z : ⊥ = omega arith in z)
      go false r m e = absurd (let z : ⊥ = omega arith in z)

  -- ---- the answers: zeros where the call is refused, else what the drawing of a lawful component gives
  pub pads_refused : (r : Refusal) (m : ℕ) → m ≡ number_of r → number_of r ≡ held_reply kind n x y → ◌≡◌ {A = PadsReply} (record { reply = m; pads = block [] }) (pads_reply_of kind n x y)
  unfolding pads_reply_of
  pads_refused r m e f =
      let to : ℕ → PadsReply = λ k. pads_for k (pad_block kind (eighth n) x y) in
      (λ i. record { reply = e i; pads = block [] }) ∙ above_zero (λ k. record { reply = k; pads = block [] }) to (λ k. refl) (number_of r) (refuses r) ∙ ap to f

  pub pads_given : (p : PadBlock) → 0 ≡ held_reply kind n x y → p ≡ pad_block kind (eighth n) x y → ◌≡◌ {A = PadsReply} (record { reply = 0; pads = p }) (pads_reply_of kind n x y)
  unfolding pads_reply_of
  pads_given p z e = (λ i. record { reply = 0; pads = e i }) ∙ ap (λ (k : ℕ). pads_for k (pad_block kind (eighth n) x y)) z

  pub box_refused : (r : Refusal) (m : ℕ) → m ≡ number_of r → number_of r ≡ held_reply kind n x y → ◌≡◌ {A = BoundsReply} (record { reply = m; bounds = record { low = unused; high = unused } }) (aabb_of kind n x y)
  unfolding aabb_of
  box_refused r m e f =
      let to : ℕ → BoundsReply = λ k. bounds_for k (bounds_at kind (eighth n) x y) in
      (λ i. record { reply = e i; bounds = box_of unused unused }) ∙ above_zero (λ k. record { reply = k; bounds = box_of unused unused }) to (λ k. refl) (number_of r) (refuses r) ∙ ap to f

  pub box_given : (b : Bounds) → 0 ≡ held_reply kind n x y → b ≡ bounds_at kind (eighth n) x y → ◌≡◌ {A = BoundsReply} (record { reply = 0; bounds = b }) (aabb_of kind n x y)
  unfolding aabb_of
  box_given b z e = (λ i. record { reply = 0; bounds = e i }) ∙ ap (λ (k : ℕ). bounds_for k (bounds_at kind (eighth n) x y)) z
