-- `loose_pads::count_loose` meets its contract: zeros behind the net numbers make no pad loose.
use mathlib.Core.Path.{ap, ◌∙◌}
use native.Mathlib.Omega.{arith}
use lib.ListN.{length}
use Rattle.std.proofs.lemmas.List.{length-take}
use Rattle.sheet.specs.Drawings.{lists_of}
use Rattle.net_numbers.specs.Netted.{net_numbers}
use Rattle.loose_pads.specs.Loose.{kinds_of}
use Rattle.loose_pads.specs.Counting.{loose_pads, loose_of}
use Rattle.loose_pads.proofs.Padded.{loose_padded, numbers_low}
use Rattle.loose_pads.proofs.count_loose.Goals as goal

pub count_in-requires : goal.count_in-requires
count_in-requires c = record {
  few = let d = c.args.d in omega (arith, c.requires.lawful.rule1.component_room, ap length c.in_use.ensures, length-take d.components.count d.components.rows);
  low = numbers_low c.requires.lawful c.requires.numbered;
}

pub returns : goal.returns
unfolding loose_of
returns c =
    let kinds = kinds_of (lists_of c.args.d).parts in
    c.count_in.ensures ∙ ap (λ cs. length (loose_pads (kinds_of cs) c.args.numbers)) c.in_use.ensures ∙ ap length (ap (loose_pads kinds) c.requires.numbered ∙ loose_padded kinds (net_numbers (lists_of c.args.d)) 384)
