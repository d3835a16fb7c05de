-- `panel_files::answer_all` meets its contract: the sum of what was printed so far is that of the files so far.
use Rattle.std.proofs.Common.{rules, ap, ◌∙◌}
use Rattle.streams.specs.Sums.{sum_of}
use Rattle.panel_files.proofs.Summed.{summed_none, summed_next}
use Rattle.panel_files.proofs.answer_all.Goals as goal

pub loop-init : goal.loop-init
loop-init g c = (c.requires.pair, c.requires.long, c.requires.room, summed_none)

pub returns-then-f : goal.returns-then-f
returns-then-f g c = let s = c.loop.invariant.3 in record { files = s.files; all = λ _. s.is }

pub returns-then-o : goal.returns-then-o
returns-then-o g c =
    let s = summed_next _ c.loop.invariant.3 (c.write_block-o.ensures.sum ∙ ap (sum_of _) c.show-k.ensures.bytes) in
    record { files = s.files; all = λ _. s.is }

pub loop-preserved : goal.loop-preserved
loop-preserved g c = (
  search rules,
  search rules,
  search rules,
  summed_next _ c.loop.invariant.3 (c.write_block-o.ensures.sum ∙ ap (sum_of _) c.show-k.ensures.bytes),
)

pub returns : goal.returns
returns g c = let s = c.loop.invariant.3 in record { files = s.files; all = λ _. s.is }
