-- The run reaches to the outermost ends of the wires that the new one meets, and no further.
use Prim.Native.Nat.{ℕ, ◌≤◌, ◌<◌, min, max}
use mathlib.Core.List.Memᴰ.{head as ∈-head}
use mathlib.Core.List.Memᴰ.{not-nil as ∈-nil}
use mathlib.Core.List.Memᴰ.{tail as ∈-tail}
use mathlib.Core.List.{List, [], ◌∷◌}
use mathlib.Core.Path.{◌≡◌, refl, sym, subst, ◌∙◌}
use mathlib.Core.Logic.{⊎_elim, ◌⊎◌, inl, inr}
use native.Mathlib.Omega.{arith}
use Rattle.lists.specs.Lists.{◌∈◌}
use Rattle.lists.proofs.Tests.{decide, choose, leb_reads}
use Rattle.lists.proofs.Lists.{in_cons}
use Rattle.symbol.specs.declared.Point.{Point}
use Rattle.sheet.specs.declared.Wire.{Wire}
use Rattle.sheet.specs.Geometry.{at, Meets, Side, low, high}
use Rattle.sheet.specs.Run.{stretch, run}
use Rattle.sheet.specs.Wiring.{Fits}
use Rattle.sheet.proofs.Geometry.{other, On, meets_reads, same_dir}
use Rattle.sheet.proofs.Before.{before_line, Apart}
use Rattle.sheet.proofs.Pieces.{whole, Within}

-- r's end of that side is n's, or that of a wire that n meets
abbrev pub Reached : Wire → List Wire → Wire → Side → Type 0
Reached n ws r s = (at s r ≡ at s n) ⊎ ((w : Wire) × w ∈ ws × Meets n w × (at s r ≡ at s w))

-- n and all that it meets lie within r, whose ends are theirs
pub record Reaches (n : Wire) (ws : List Wire) (r : Wire) : Type 0 where
  pub drawn : Within r n
  pub met : (w : Wire) → w ∈ ws → Meets n w → Within r w
  pub tip : (s : Side) → Reached n ws r s

module _ (n w r : Wire) (ws : List Wire) where
  further : (s : Side) → Reached n ws r s → Reached n (w ∷ ws) r s
  further s (inl e) = inl e
  further s (inr t) = inr (t.0, ∈-tail t.1, t.2, t.3)

  stretched : Meets n w → (s : Side) → Reached n ws r s → Reached n (w ∷ ws) (stretch r w) s
  stretched k low o = ⊎_elim
      (λ (l : r.start ≤ w.start). let e : min r.start w.start ≡ r.start = omega arith in subst (λ x. (x ≡ n.start) ⊎ ((v : Wire) × v ∈ w ∷ ws × Meets n v × (x ≡ v.start))) (sym e) (further low o))
      (λ (f : r.start ≤ w.start → ⊥). inr (w, ∈-head refl, k, omega arith))
      (decide (leb_reads r.start w.start))
  stretched k high o = ⊎_elim
      (λ (l : w.end ≤ r.end). let e : max r.end w.end ≡ r.end = omega arith in subst (λ x. (x ≡ n.end) ⊎ ((v : Wire) × v ∈ w ∷ ws × Meets n v × (x ≡ v.end))) (sym e) (further high o))
      (λ (f : w.end ≤ r.end → ⊥). inr (w, ∈-head refl, k, omega arith))
      (decide (leb_reads w.end r.end))

pub run_reaches : (n : Wire) (ws : List Wire) → Reaches n ws (run n ws)
unfolding run
run_reaches n [] = record { drawn = whole; met = λ w m. absurd (∈-nil m); tip = λ s. inl refl }
run_reaches n (w ∷ ws) = let r = run_reaches n ws in let d = r.drawn in choose (meets_reads n w) (Reaches n (w ∷ ws))
    (λ k. record {
      drawn = record { dir = d.dir; line = d.line; from = omega arith; to = omega arith };
      met = λ v m. in_cons (λ v. Meets n v → Within (stretch (run n ws) w) v)
          (λ t. record { dir = sym t.dir ∙ d.dir; line = sym t.line ∙ d.line; from = omega arith; to = omega arith })
          (λ v i t. let c = r.met v i t in record { dir = c.dir; line = c.line; from = omega arith; to = omega arith }) m;
      tip = λ s. stretched n w (run n ws) ws k s (r.tip s);
    })
    (λ f. record { drawn = d; met = λ v m. in_cons (λ v. Meets n v → Within (run n ws) v) (λ t. absurd (f t)) r.met m; tip = λ s. further n w (run n ws) ws s (r.tip s) })

-- two wires of one direction with a point in common meet
pub on_meets : {q : Point} {n k : Wire} → On q n → On q k → k.vertical ≡ n.vertical → Meets n k
on_meets {q} o p d = let s = same_dir d q in record { dir = sym d; line = omega (arith, o.line, p.line); from = omega (arith, o.to, p.from); to = omega (arith, o.from, p.to) }

-- what meets a piece meets the whole
pub within_meets : {n k v : Wire} → Within k v → Meets n v → Meets n k
within_meets s t = record { dir = t.dir ∙ s.dir; line = t.line ∙ s.line; from = omega (arith, s.from, t.from); to = omega (arith, s.to, t.to) }

-- ---- going towards a side

-- x comes no later than y
abbrev pub Upto : Side → ℕ → ℕ → Type 0
Upto low x y = y ≤ x
Upto high x y = x ≤ y

-- k lies wholly beyond the end of n
abbrev pub Beyond : Side → Wire → Wire → Type 0
Beyond low n k = k.end < n.start
Beyond high n k = n.end < k.start

pub beyond_upto : (s : Side) (n k : Wire) → Beyond s n k → Upto s (at s n) (at (other s) k)
beyond_upto low n k b = omega arith
beyond_upto high n k b = omega arith

-- a wire that n meets and that is apart from k does not reach past k's near end
pub beyond_met : (s : Side) {n r k : Wire} → Meets n r → Fits k → n.vertical ≡ k.vertical → n.line ≡ k.line → Beyond s n k → Apart r k → Upto s (at s r) (at (other s) k)
beyond_met low t f d l b (inl x) = absurd (omega (arith, before_line x (sym t.dir ∙ d) (sym t.line ∙ l), t.to, f.long))
beyond_met low t f d l b (inr x) = before_line x (sym d ∙ t.dir) (sym l ∙ t.line)
beyond_met high t f d l b (inl x) = before_line x (sym t.dir ∙ d) (sym t.line ∙ l)
beyond_met high t f d l b (inr x) = absurd (omega (arith, before_line x (sym d ∙ t.dir) (sym l ∙ t.line), t.from, f.long))
