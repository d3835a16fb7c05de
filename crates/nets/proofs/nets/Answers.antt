-- `nets::nets` meets its contract: the roots of its aliases are the nets.
use mathlib.Core.Path.{◌≡◌, sym, subst, ◌∙◌}
use Rattle.nets.specs.Numbers.{net_of}
use Rattle.nets.specs.Tables.{EachJoint, EachEnd, Rooted, net_in, root_of}
use Rattle.nets.proofs.Tabulate.{tabulate_as}
use Rattle.nets.proofs.Walks.{rows_links, rows_pads}
use Rattle.nets.proofs.nets.Goals as goal

pub aliases-requires : goal.aliases-requires
aliases-requires c =
    let a = c.args in
    record {
      ends = subst EachEnd (sym (rows_links a.wires c.in_use.ensures)) c.requires.links_fit.ends;
      joints = subst EachJoint (sym (rows_pads a.powers c.in_use-2.ensures)) c.requires.powers_fit.joints;
    }

pub returns : goal.returns
returns c =
    let a = c.args in
    let net : record { links = _; powers = _ } ≡ net_in a.wires a.powers = λ i. record { links = rows_links a.wires c.in_use.ensures i; powers = rows_pads a.powers c.in_use-2.ensures i } in
    let rooted = subst (λ n. Rooted n c.aliases.result) net c.aliases.ensures in
    c.flatten.ensures ∙ tabulate_as (root_of c.aliases.result) (net_of (net_in a.wires a.powers)) 1409 rooted.roots
