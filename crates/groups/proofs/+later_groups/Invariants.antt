-- `later_groups` calls itself: the measure is how many groups may follow.
use Rattle.groups.proofs.+later_groups.Given as goal

abbrev pub decreases-later_groups : goal.decreases-later_groups
decreases-later_groups l = l.left
