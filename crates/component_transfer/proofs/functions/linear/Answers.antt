-- The code is the definition, with the byte's number in its place.
use Rattle.component_transfer.specs.Functions.{linear}
use Rattle.component_transfer.proofs.functions.linear.Goals as goal

pub returns : goal.returns
unfolding linear
returns c = rw c.normalized.ensures
