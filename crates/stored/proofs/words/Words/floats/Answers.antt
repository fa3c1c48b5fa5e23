-- The words that were stored are all of them.
use Rattle.std.proofs.Common.{arith}
use Rattle.turbulence.proofs.Filled.{filled_all}
use Rattle.stored.proofs.words.Words.floats.Goals as goal

pub returns : goal.returns
returns c = filled_all c.loop-i.invariant (omega arith)
