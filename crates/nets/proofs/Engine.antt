-- What the code's tables tell: two joints have one root exactly on one net, and the root 0 exactly when fed.
use mathlib.Core.Path.{◌≡◌, sym, ◌∙◌}
use mathlib.Core.Logic.{◌↔◌}
use mathlib.Core.List.{List}
use Prim.Native.Nat.{ℕ}
use Rattle.nets.specs.Joined.{Links}
use Rattle.nets.specs.Joined.{Pads}
use Rattle.nets.specs.Nets.{Fed, OneNet}
use Rattle.nets.specs.Tables.{JointNumber, LinksFit, PadsFit, net_in, root_of, Rooted}
use Rattle.nets.proofs.Told.{one_net, fed_zero}

module _ (wires : Links) (powers : Pads) (w : LinksFit wires) (p : PadsFit powers) (alias : List ℕ) (r : Rooted (net_in wires powers) alias) where
  pub root_one_net : (a b : ℕ) → JointNumber a → JointNumber b → (root_of alias a ≡ root_of alias b) ↔ OneNet (net_in wires powers) a b
  root_one_net a b ja jb =
      let law = one_net (net_in wires powers) (λ l i. ((w.ends l i).0.low, (w.ends l i).1.low)) (λ n i. (p.joints n i).low) a b ja.low jb.low in
      let ea = r.roots a ja.high in
      let eb = r.roots b jb.high in
      (λ e. law.0 (sym ea ∙ e ∙ eb), λ o. ea ∙ law.1 o ∙ sym eb)

  pub root_fed : (a : ℕ) → JointNumber a → (root_of alias a ≡ 0) ↔ Fed (net_in wires powers) a
  root_fed a ja =
      let law = fed_zero (net_in wires powers) (λ l i. ((w.ends l i).0.low, (w.ends l i).1.low)) (λ n i. (p.joints n i).low) a ja.low in
      let ea = r.roots a ja.high in
      (λ e. law.0 (sym ea ∙ e), λ o. ea ∙ law.1 o)
