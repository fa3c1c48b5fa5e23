use Rattle.filter.proofs.reach.+slot_reaches.Given as goal

abbrev pub decreases-slot_reaches : goal.decreases-slot_reaches
decreases-slot_reaches l = l.n
