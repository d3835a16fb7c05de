-- The check tells the first broken rule, and for rule 5 the first pair of boxes that share a point; rule 0 just of a lawful drawing.
use Prim.Native.Nat.{ℕ, suc, ◌+◌, ◌<◌}
use mathlib.Core.Bool.{Bool, true, false, cond}
use mathlib.Core.List.Memᴰ.{not-nil as ∈-nil}
use mathlib.Core.List.{List, [], ◌∷◌}
use mathlib.Core.Path.{◌≡◌, refl, sym, ap, subst}
use mathlib.Core.Logic.{◌↔◌}
use native.Mathlib.Nat.{zero-add}
use native.Mathlib.Omega.{arith}
use Rattle.lists.specs.Lists.{◌∈◌, Rows, none, more}
use Rattle.lists.specs.First.{FirstAt, now, next}
use Rattle.lists.proofs.Tests.{Reads, pass, fail}
use Rattle.lists.proofs.Lists.{in_cons}
use Rattle.lists.proofs.First.{first_in}
use Rattle.sheet.specs.declared.Component.{Component}
use Rattle.sheet.specs.declared.Drawing.{Drawing}
use Rattle.sheet.specs.Parts.{pads_of, touches}
use Rattle.sheet.specs.Drawings.{lists_of, joint_rows, marks_of, Sized}
use Rattle.sheet.specs.Rules.{Rule5, Lawful}
use Rattle.sheet.proofs.Parts.{touches_reads}
use Rattle.limits.proofs.Decides.{LabelsBehind, sized_behind, blank_behind, reads1}
use Rattle.row_order.proofs.Decides.{reads2, reads7}
use Rattle.rules.specs.declared.Checked.{Checked}
use Rattle.rules.specs.Touching.{Touching, none as untouched}
use Rattle.rules.specs.Check.{touching_one, touching_from, broken, unless, unless_touching, from_rule5, check_of}
use Rattle.rules.specs.Verdict.{First, sound, fails, holds, seven, FirstPair, here, later, Touch, Right}
use Rattle.rules.proofs.Decides.{reads3, reads4, reads6}

-- ---- the first pair

-- what the walk behind row i finds: the first row that b touches, or that it touches none
data One (i : ℕ) (b : Component) (j : ℕ) (cs : List Component) (other : Touching) : Touching → Type 0 where
  hit : (k : ℕ) → FirstAt (Touch b) cs k → One i b j cs other (record { found = true; first = i; second = j + k })
  miss : ((c : Component) → c ∈ cs → Touch b c → ⊥) → One i b j cs other other

one : (i : ℕ) (b : Component) (j : ℕ) (cs : List Component) (other : Touching) → One i b j cs other (touching_one i b j cs other)
unfolding touching_one
one i b j [] other = miss (λ c m t. ∈-nil m)
one i b j (c ∷ cs) other = step (touches b c) (touches_reads b c) (one i b (suc j) cs other)
  where
    from : {t : Touching} → (Touch b c → ⊥) → One i b (suc j) cs other t → One i b j (c ∷ cs) other t
    from n (hit k f) = let e : j + suc k ≡ suc j + k = omega arith in subst (λ m. One i b j (c ∷ cs) other (record { found = true; first = i; second = m })) e (hit (suc k) (next n f))
    from n (miss f) = miss (λ x m. in_cons (λ y. Touch b y → ⊥) n f m)

    step : (t : Bool) → Reads (Touch b c) t → One i b (suc j) cs other (touching_one i b (suc j) cs other)
        → One i b j (c ∷ cs) other (cond t (record { found = true; first = i; second = j }) (touching_one i b (suc j) cs other))
    step true (pass p) o = let e : j + 0 ≡ j = omega arith in subst (λ m. One i b j (c ∷ cs) other (record { found = true; first = i; second = m })) e (hit 0 (now p))
    step false (fail n) o = from n o

-- what the walk over all rows from i on finds
data Pairs (i : ℕ) (cs : List Component) : Touching → Type 0 where
  met : (a b : ℕ) → FirstPair Touch cs a b → Pairs i cs (record { found = true; first = i + a; second = i + b })
  apart : Rule5 cs → Pairs i cs untouched

pairs : (i : ℕ) (cs : List Component) → Pairs i cs (touching_from i cs)
unfolding touching_from
pairs i [] = apart none
pairs i (c ∷ cs) = join (one i c (suc i) cs (touching_from (suc i) cs)) (pairs (suc i) cs)
  where
    put : (x y a b : ℕ) → x ≡ i + a → y ≡ i + b → FirstPair Touch (c ∷ cs) a b → Pairs i (c ∷ cs) (record { found = true; first = x; second = y })
    put x y a b e f p = subst (λ m. Pairs i (c ∷ cs) (record { found = true; first = m; second = y })) (sym e) (subst (λ m. Pairs i (c ∷ cs) (record { found = true; first = i + a; second = m })) (sym f) (met a b p))

    behind : {t : Touching} → ((x : Component) → x ∈ cs → Touch c x → ⊥) → Pairs (suc i) cs t → Pairs i (c ∷ cs) t
    behind f (met a b p) = put (suc i + a) (suc i + b) (suc a) (suc b) (omega arith) (omega arith) (later f p)
    behind f (apart r) = apart (more f r)

    join : {t u : Touching} → One i c (suc i) cs u t → Pairs (suc i) cs u → Pairs i (c ∷ cs) t
    join (hit k f) p = put i (suc i + k) 0 (suc k) (omega arith) (omega arith) (here f)
    join (miss f) p = behind f p

no_pair : {A : Type 0} {R : A → A → Type 0} {xs : List A} {a b : ℕ} → FirstPair R xs a b → Rows (λ x y. R x y → ⊥) xs → ⊥
no_pair (here f) (more h r) = first_in f h
no_pair (later n p) (more h r) = no_pair p r

-- ---- the first broken rule

-- what is told from rule k on: the first broken one, and the rows
record Told (cs : List Component) (k : ℕ) (Ps : List (Type 0)) (v : Checked) : Type 1 where
  rule : First k Ps v.rule
  pair : v.rule ≡ 5 → FirstPair Touch cs v.first v.second
  other : (v.rule ≡ 5 → ⊥) → (v.first ≡ 0) × (v.second ≡ 0)

module _ {cs : List Component} {Ps : List (Type 0)} where
  told : {k : ℕ} {P : Type 0} {b : Bool} {v : Checked} → Reads P b → (k ≡ 5 → ⊥) → Told cs (suc k) Ps v → Told cs k (P ∷ Ps) (unless b k v)
  told (pass p) n t = record { rule = holds p t.rule; pair = t.pair; other = t.other }
  told (fail f) n t = record { rule = fails f; pair = λ e. absurd (n e); other = λ g. (refl, refl) }

  told_pair : {t : Touching} {v : Checked} → Pairs 0 cs t → Told cs 6 Ps v → Told cs 5 (Rule5 cs ∷ Ps) (unless_touching t v)
  told_pair (met a b p) t = record { rule = fails (no_pair p); pair = λ e. simp zero-add p; other = λ n. absurd (n refl) }
  told_pair (apart r) t = record { rule = holds r t.rule; pair = t.pair; other = t.other }

told_lawful : {cs : List Component} → Told cs 8 [] (broken 0)
told_lawful = record { rule = sound; pair = λ e. absurd (omega arith); other = λ n. (refl, refl) }

-- ---- the drawing

-- what the check tells is right
right : (d : Drawing) → LabelsBehind d → Right d (check_of d)
unfolding check_of from_rule5
right d long =
    let s = lists_of d in
    let ps = pads_of s.parts in
    let js = joint_rows d.joints in
    let t : Told s.parts 1 (seven d) (check_of d) =
    told (reads1 d long) (λ e. omega arith) (told (reads2 s.wires) (λ e. omega arith) (told (reads3 s.wires ps) (λ e. omega arith) (told (reads4 s.wires ps) (λ e. omega arith)
    (told_pair (pairs 0 s.parts) (told (reads6 js (marks_of s)) (λ e. omega arith) (told (reads7 s js) (λ e. omega arith) told_lawful)))))) in
    record { rule = t.rule; pair = t.pair; other = t.other }

-- each of the statements holds
abbrev Every : List (Type 0) → Type 0
Every [] = Unit {0}
Every (P ∷ Ps) = P × Every Ps

first_none : {k n : ℕ} {Ps : List (Type 0)} → First k Ps n → 0 < k → n ≡ 0 → Every Ps
first_none sound l e = tt
first_none (fails f) l e = absurd (omega arith)
first_none (holds p t) l e = (p, first_none t (omega arith) e)

every_first : {k n : ℕ} {Ps : List (Type 0)} → First k Ps n → Every Ps → n ≡ 0
every_first sound e = refl
every_first (fails f) e = absurd (f e.0)
every_first (holds p t) e = every_first t e.1

-- "A lawful drawing gives rule 0 and rows 0, 0."
pub lawful_none : {d : Drawing} → Lawful d → broken 0 ≡ check_of d
lawful_none {d} l =
    let t = right d (blank_behind d l.rule1) in
    let e = every_first t.rule (l.rule1, (l.rule2, (l.rule3, (l.rule4, (l.rule5, (l.rule6, (l.rule7, tt))))))) in
    let r = t.other (λ f. omega arith) in
    sym (λ i. record { rule = e i; first = r.0 i; second = r.1 i })

-- of a drawing that code holds
module _ (d : Drawing) (z : Sized d) where
  pub check_right : Right d (check_of d)
  check_right = right d (sized_behind d z)

  -- a lawful drawing gives rule 0, and only a lawful one does
  pub check_lawful : ((check_of d).rule ≡ 0) ↔ Lawful d
  check_lawful = (
    λ e. let t = first_none check_right.rule (omega arith) e in record { rule1 = t.0; rule2 = t.1.0; rule3 = t.1.1.0; rule4 = t.1.1.1.0; rule5 = t.1.1.1.1.0; rule6 = t.1.1.1.1.1.0; rule7 = t.1.1.1.1.1.1.0 },
    λ l. sym (ap (λ (v : Checked). v.rule) (lawful_none l)),
  )
