-- `row_of` gives what the grammar says of rows: what is read is a row, `row_by`, and every row is read, `row_is`.
use mathlib.Core.Path.{◌≡◌, refl, ap}
use mathlib.Core.Bool.{Bool}
use mathlib.Core.List.{List, ◌∷◌, ◌++◌, append-nil}
use Prim.Native.Nat.{ℕ, ◌≤◌}
use native.Mathlib.Omega.{arith}
use lib.ListN.{length, length-append}
use Rattle.lists.proofs.Tests.{clash}
use Rattle.script.specs.Grammar.{byte, bytes, ◌␣◌}
use Rattle.script.proofs.Parts.{space, behind_by}
use Rattle.check_script.specs.Saying.{Said, Component, Unreadable}
use Rattle.check_script.specs.Grammar.{IsRow, wire, component, joint}
use Rattle.check_script.specs.Reading.{wire_of, joint_of, stands_of, component_of, row_of}
use Rattle.check_script.proofs.Parts.{held_by, direction_by, ending_by, label_by, held_is, held_last, direction_is, label_stops, label_is}

module _ (n : ℕ) (back : Bool) (s : List ℕ) (fit : length s ≤ n) (P : Said → Type 0) (ok : (k : Said) → IsRow n back s k → P k) (bad : P Unreadable) where
  wire_by : (t : List ℕ) → s ≡ byte "W" ∷ t → P (wire_of back t)
  unfolding wire_of
  wire_by t e0 =
      direction_by P bad t (λ d v s1 dir e1.
      held_by P bad s1 (λ L s2 l gl e2.
      held_by P bad s2 (λ A s3 a ga e3.
      held_by P bad s3 (λ E s4 e ge e4.
      ending_by P bad s4 (λ q. ok _ (wire dir gl ga ge (rw (e0, e1, e2, e3, e4, q, append-nil))))))))

  joint_by : (t : List ℕ) → s ≡ byte "J" ∷ t → P (joint_of back t)
  unfolding joint_of
  joint_by t e0 =
      held_by P bad t (λ X s1 x gx e1.
      held_by P bad s1 (λ Y s2 y gy e2.
      held_by P bad s2 (λ N s3 c gc e3.
      ending_by P bad s3 (λ q. ok _ (joint gx gy gc (rw (e0, e1, e2, e3, q, append-nil)))))))

  component_by : (t : List ℕ) → s ≡ byte "C" ∷ t → P (component_of n back t)
  unfolding component_of stands_of
  component_by t e0 =
      held_by P bad t (λ K s1 kind gk e1.
      held_by P bad s1 (λ O s2 o go e2.
      held_by P bad s2 (λ X s3 x gx e3.
      held_by P bad s3 (λ Y s4 y gy e4.
      let all : s ≡ bytes "C" ␣ K ␣ O ␣ X ␣ Y ++ s4 = rw (e0, e1, e2, e3, e4) in
      label_by P bad n s4 (omega (arith, simp length-append at (ap length all)))
      (λ label at is few here. ok _ (component gk go gx gy is few all here))))))

  pub row_by : P (row_of n back s)
  unfolding row_of
  row_by = behind_by P (byte "W") s wire_by (behind_by P (byte "C") s component_by (behind_by P (byte "J") s joint_by bad))

pub row_is : {n : ℕ} {back : Bool} {s : List ℕ} {k : Said} → IsRow n back s k → row_of n back s ≡ k
unfolding row_of wire_of component_of stands_of joint_of
row_is (wire {LINE = L} {START = A} {END = E} dir gl ga ge e) =
    rw (e, direction_is (byte " " ∷ (L ␣ A ␣ E)) dir, held_is (space {s = A ␣ E}) gl, held_is (space {s = E}) ga, held_last ge)
row_is {n} {back} (component {ORIENT = O} {X = X} {Y = Y} {rest = rest} gk go gx gy l few e at) =
    rw (
      e,
      held_is (space {s = O ␣ X ␣ Y ++ rest}) gk,
      held_is (space {s = X ␣ Y ++ rest}) go,
      held_is (space {s = Y ++ rest}) gx,
      held_is (label_stops l) gy,
    ) (label_is n (Component back _ _ _ _) l few at)
row_is (joint {X = X} {Y = Y} {COUNT = N} gx gy gc e) = rw (e, held_is (space {s = Y ␣ N}) gx, held_is (space {s = N}) gy, held_last gc)

-- no row says `Unreadable`
pub row_readable : {n : ℕ} {back : Bool} {s : List ℕ} {k : Said} → IsRow n back s k → k ≡ Unreadable → ⊥
row_readable (wire dir gl ga ge e) u = clash refl (cc)
row_readable (component gk go gx gy l few e at) u = clash refl (cc)
row_readable (joint gx gy gc e) u = clash refl (cc)
