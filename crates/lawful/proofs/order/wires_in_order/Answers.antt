-- The slice is sorted by the test of each row and the next.
use Rattle.std.proofs.Common.{rules}
use Rattle.lists.proofs.Sorted.{links_of_sorted_by}
use Rattle.lawful.specs.Looks.{before}
use Rattle.lawful.proofs.order.wires_in_order.Goals as goal

pub returns : goal.returns
returns c = links_of_sorted_by before _ _ c.is_sorted_by.ensures.cases (λ a s p k. search rules)
