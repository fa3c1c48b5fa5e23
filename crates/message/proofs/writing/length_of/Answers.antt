-- Where a message ends that was written from 0 on is its length.
use mathlib.Core.Path.{refl}
use native.Mathlib.Omega.{arith}
use Rattle.message.proofs.writing.length_of.Goals as goal

pub slice_bounds-message_into-end : goal.slice_bounds-message_into-end
slice_bounds-message_into-end c = refl

pub returns : goal.returns
returns c = omega (arith, c.message_into.ensures.ends)
