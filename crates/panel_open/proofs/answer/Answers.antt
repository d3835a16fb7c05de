-- `panel_open::answer` meets its contract.
use Rattle.std.proofs.Common.{refl, sym, ap, ◌∙◌, [], take}
use Rattle.lists.proofs.Tests.{clash}
use Rattle.streams.specs.Sums.{sum_of}
use Rattle.panel_open.proofs.Whole.{whole_shown}
use Rattle.panel_open.proofs.answer.Goals as goal

pub returns-then-f : goal.returns-then-f
returns-then-f g c = record { input = []; all = λ e. absurd (clash refl e) }

pub returns : goal.returns
returns g c = record {
  input = take c.fill-f.result.count c.fill-f.new.buffer;
  all = λ _ behind ends. c.write_block.ensures.sum ∙ ap (sum_of 0) (c.show-k.ensures.bytes ∙ sym (whole_shown _ behind ends));
}
