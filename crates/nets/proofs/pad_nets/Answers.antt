-- `nets::pad_nets` meets its contract, by those of `nets` and `number`.
use mathlib.Core.Path.{sym, ap, subst, ◌∙◌}
use mathlib.Core.List.{List, map}
use Prim.Native.Nat.{ℕ}
use native.Mathlib.Omega.{arith}
use lib.ListN.{length, get_or}
use Rattle.std.proofs.lemmas.List.{length-take}
use Rattle.lists.specs.Tables.{pad}
use Rattle.nets.specs.Nets.{Net}
use Rattle.nets.specs.Numbers.{net_of, numbering, numbers_of}
use Rattle.nets.specs.Tables.{Falling, EachJoint, net_in, pad_rows}
use Rattle.nets.proofs.Tabulate.{tabulate_at, tabulate_falls}
use Rattle.nets.proofs.Rooted.{net_low}
use Rattle.nets.proofs.Walks.{map_as, rows_pads}
use Rattle.nets.proofs.pad_nets.Goals as goal

pub number-requires : goal.number-requires
number-requires c =
    record {
      falling = subst Falling (sym c.nets.ensures) (tabulate_falls _ 1409 (net_low (net_in c.args.wires c.args.powers)));
      few = omega (arith, c.requires.pads_fit.room, ap length c.in_use.ensures, length-take c.args.pads.count c.args.pads.rows);
      joints = subst EachJoint (sym (rows_pads c.args.pads c.in_use.ensures)) c.requires.pads_fit.joints;
    }

pub returns : goal.returns
unfolding numbers_of
returns c =
    let net : Net ℕ = net_in c.args.wires c.args.powers in
    c.number.ensures
    ∙ ap (λ (ps : List ℕ). pad 384 0 (numbering (map (λ n. get_or c.nets.result n 0) ps))) (rows_pads c.args.pads c.in_use.ensures)
    ∙ ap (λ (t : List ℕ). pad 384 0 (numbering (map (λ n. get_or t n 0) (pad_rows c.args.pads)))) c.nets.ensures
    ∙ ap (λ (xs : List ℕ). pad 384 0 (numbering xs)) (map_as (pad_rows c.args.pads) (λ n i. tabulate_at (net_of net) 1409 n (c.requires.pads_fit.joints n i).high))
