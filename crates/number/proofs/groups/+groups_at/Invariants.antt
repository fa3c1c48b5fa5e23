use Rattle.number.proofs.groups.+groups_at.Given as goal

abbrev pub decreases-groups_at : goal.decreases-groups_at
decreases-groups_at l = l.more
