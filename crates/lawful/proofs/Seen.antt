-- Clear wires over the joints of their ends and of the pads: no end and no pad lies inside one, and where one goes on in another
-- something holds them apart.
use mathlib.Core.Bool.{Bool}
use mathlib.Core.List.Memᴰ.{not-nil as ∈-nil}
use mathlib.Core.List.{List, ◌∷◌}
use mathlib.Core.Path.{◌≡◌, sym, ap, subst, ◌∙◌}
use Rattle.lists.specs.Lists.{◌∈◌, Rows}
use Rattle.lists.proofs.Adjacent.{Adjacent, empty, single, link}
use Rattle.lists.proofs.Tests.{stable}
use Rattle.lists.proofs.Lists.{in_cons}
use Rattle.symbol.specs.declared.Point.{Point}
use Rattle.sheet.specs.declared.Wire.{Wire}
use Rattle.sheet.specs.declared.Joint.{Joint}
use Rattle.sheet.specs.Geometry.{point, tip, low, high, marks, Inside, Follows, Before}
use Rattle.sheet.specs.Joints.{number, joints_of}
use Rattle.sheet.specs.Wiring.{AllFit, HeldApart}
use Rattle.sheet.specs.Rules.{Rule6, Rule2}
use Rattle.sheet.proofs.Held.{held_reads}
use Rattle.sheet.proofs.Rule4.{count_two}
use Rattle.sheet.proofs.JointRows.{joints_listed}
use Rattle.sheet.proofs.Before.{follows_next}
use Rattle.lawful.specs.Looks.{Clear, Run, done, more, Runs}

-- ---- each wire, and each with the next

run_clear : {v : Bool} {js : List Joint} {a : Wire} {ws : List Wire} → Run v js a ws → (w : Wire) → w ∈ ws → w.vertical ≡ v → (b : Wire) × Clear js b w
run_clear done w m = absurd (∈-nil m)
run_clear {v} {js} (more {a} c r) w m = in_cons (λ (w : Wire). w.vertical ≡ v → (b : Wire) × Clear js b w) (λ d. (a, c d)) (λ z n d. run_clear r z n d) m

run_chain : {v : Bool} {js : List Joint} {a : Wire} {ws : List Wire} → Run v js a ws → Adjacent (λ a w. w.vertical ≡ v → Clear js a w) (a ∷ ws)
run_chain done = single
run_chain (more c r) = link c (run_chain r)

behind : {R : Wire → Wire → Type 0} {a : Wire} {ws : List Wire} → Adjacent R (a ∷ ws) → Adjacent R ws
behind single = empty
behind (link p c) = c

-- the joints are those of the wire ends and pads, and each wire of the direction is clear
module _ {ws : List Wire} (ps : List Point) (v : Bool) {js : List Joint} (e : js ≡ joints_of (marks ws ps)) (runs : Runs v js ws) where
  listed : Rule6 js (marks ws ps)
  listed = subst (λ (l : List Joint). Rule6 l (marks ws ps)) (sym e) (joints_listed (marks ws ps))

  -- rule 3 of a wire of the direction
  pub none_inside : (p : Point) → p ∈ marks ws ps → (w : Wire) → w ∈ ws → w.vertical ≡ v → Inside p w → ⊥
  none_inside p m w n d i =
      let j = listed.all p m in
      (run_clear runs.each w n d).1.free j.0 j.1 (subst (λ (q : Point). Inside q w) (sym j.2) i)

  module _ (fits : AllFit ws) (two : Rule2 ws) (order : Rows Before ws) where
    -- rule 4 where a wire of the direction goes on in line
    pub held_apart : (a b : Wire) → a ∈ ws → b ∈ ws → Follows a b → a.vertical ≡ v → HeldApart ws ps a.vertical (tip high a)
    held_apart a b m n f d = stable (held_reads ws ps a.vertical (tip high a)) (λ g.
        let c : Clear js a b = follows_next order fits (behind (run_chain runs.each)) a b m n f (sym f.dir ∙ d) in
        let meet : tip low b ≡ tip high a = λ k. point (sym f.dir k) (sym f.line k) (sym f.end k) in
        let k : number (tip high a) (marks ws ps) ≡ 2 = count_two ps fits two a b m n f g in
        c.parted f (listed.right c.from c.among ∙ ap (λ (q : Point). number q (marks ws ps)) (c.start ∙ meet) ∙ k))
