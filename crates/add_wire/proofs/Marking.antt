-- Marks along a wire: one point after another, each marked if it lies on the wire.
use Prim.Native.Nat.{ℕ, zero, suc, ◌≤◌}
use native.Mathlib.Omega.{arith}
use mathlib.Core.Path.{◌≡◌, refl, sym, ap, ◌∙◌, subst}
use mathlib.Core.List.{List, [], ◌∷◌, ◌++◌, append-nil, append_assoc}
use mathlib.Core.Logic.{⊎_elim}
use mathlib.Core.Bool.{Bool, true, false, ◌||◌, or-true, or-false}
use borrow.Author.Tests.{eq-eqb, ne_eqb}
use lib.Dec.{T, eqb}
use lib.ListN.{get_or, set, replicate, length-set, length-replicate}
use lib.Seq.{get_or-set_same, get_or-set_other}
use Rattle.symbol.specs.declared.Point.{Point}
use Rattle.std.specs.List.{list_any, filter}
use Rattle.lists.proofs.Tests.{decide, holds, eqb_reads}
use Rattle.lists.proofs.Appends.{any_append, keep_append}
use Rattle.sheet.specs.declared.Wire.{Wire}
use Rattle.sheet.specs.Geometry.{along, on, low, high, tip, tips}
use Rattle.sheet.proofs.Geometry.{On, on_reads}
use Rattle.add_wire.specs.Marks.{Marked, More}

pub on_true : (p : Point) (n : Wire) → on p n ≡ true → On p n
on_true p n e = holds (on_reads p n) (subst T (sym e) tt)

unmarked : (n a : ℕ) → get_or (replicate n false) a false ≡ false
unmarked zero a = refl
unmarked (suc n) zero = refl
unmarked (suc n) (suc a) = unmarked n a

pub marked_none : (d : Bool) → Marked d [] (replicate 12001 false)
marked_none d = record { size = length-replicate 12001 false; each = λ a h. unmarked 12001 a }

pub marked_as : {d : Bool} {qs rs : List Point} {marks : List Bool} → qs ≡ rs → Marked d qs marks → Marked d rs marks
marked_as {d} {marks = marks} e m = subst (λ (l : List Point). Marked d l marks) e m

-- one point more
marked_set : {d : Bool} {qs : List Point} {marks : List Bool} (p : Point) → Marked d qs marks → along d p ≤ 12000 → Marked d (qs ++ (p ∷ [])) (set marks (along d p) true)
marked_set {d} {qs} {marks} p m h = record {
  size = length-set marks (along d p) true ∙ m.size;
  each = λ a k. ⊎_elim
      (λ (e : a ≡ along d p). ap (λ (b : ℕ). get_or (set marks (along d p) true) b false) e ∙ get_or-set_same marks (along d p) true false (omega (arith, m.size))
      ∙ sym (any_append (λ q. eqb (along d q) a) qs (p ∷ []) ∙ ap (λ (b : Bool). list_any (λ q. eqb (along d q) a) qs || (b || false)) (eq-eqb (along d p) a (sym e)) ∙ or-true (list_any (λ q. eqb (along d q) a) qs)))
      (λ (f : a ≡ along d p → ⊥). get_or-set_other marks (along d p) a true false f ∙ m.each a k
      ∙ sym (any_append (λ q. eqb (along d q) a) qs (p ∷ []) ∙ ap (λ (b : Bool). list_any (λ q. eqb (along d q) a) qs || (b || false)) (ne_eqb (along d p) a (λ e. f (sym e))) ∙ or-false (list_any (λ q. eqb (along d q) a) qs)))
      (decide (eqb_reads a (along d p)));
}

-- ---- more points, whatever was marked before

pub more_none : (d : Bool) (marks : List Bool) → More d marks [] marks
more_none d marks = record { so = λ ps m. marked_as (sym (append-nil ps)) m }

pub more_then : {d : Bool} {marks next last : List Bool} {qs rs : List Point} → More d marks qs next → More d next rs last → More d marks (qs ++ rs) last
more_then {qs = qs} {rs} a b = record { so = λ ps m. marked_as (append_assoc ps qs rs) (b.so (ps ++ qs) (a.so ps m)) }

pub more_as : {d : Bool} {marks next : List Bool} {qs rs : List Point} → qs ≡ rs → More d marks qs next → More d marks rs next
more_as {d} {marks} {next} e m = subst (λ (l : List Point). More d marks l next) e m

-- one point, that lies on the wire or not
module _ (n : Wire) (p : Point) (marks : List Bool) where
  pub more_on : {a : ℕ} → on p n ≡ true → a ≡ along n.vertical p → n.end ≤ 12000 → More n.vertical marks (filter (λ q. on q n) (p ∷ [])) (set marks a true)
  more_on e f h = rw (e, f) (record { so = λ ps m. marked_set p m (omega (arith, (on_true p n e).to)) })

  pub more_off : on p n ≡ false → More n.vertical marks (filter (λ q. on q n) (p ∷ [])) marks
  more_off e = rw e (more_none n.vertical marks)

-- both ends of a wire
pub more_tips : {d : Bool} {marks next last : List Bool} (f : Point → Bool) (w : Wire) {a b : Point} → More d marks (filter f (a ∷ [])) next → More d next (filter f (b ∷ [])) last → a ≡ tip low w → b ≡ tip high w → More d marks (filter f (tips w)) last
more_tips f w {a} {b} p q e g = more_as (sym (keep_append f (a ∷ []) (b ∷ [])) ∙ (λ i. filter f (e i ∷ g i ∷ []))) (more_then p q)
