-- The library's root above zero, and what is no root by its sign.
use Rattle.std.proofs.Common.{◌∙◌}
use lib.Ieee.{binary32, of_bits, div}
use Rattle.floats.proofs.LibraryRoot.{library_root}
use Rattle.floats.proofs.RootEnds.{root_below, root_kept}
use Rattle.floats.proofs.Tests.{T_true, T_false}
use Rattle.floats.proofs.float.F32Float.sqrt.Goals as goal

pub returns-then-self : goal.returns-then-self
returns-then-self c = c.sqrt.ensures.value ∙ library_root binary32 c.args.self (T_true c.well_formed.0.1)

pub returns-then-self-2 : goal.returns-then-self-2
unfolding of_bits div
returns-then-self-2 c = root_below binary32 c.args.self (T_false c.if-self.false) (T_true c.if-self-2.true)

pub returns-else-self-2 : goal.returns-else-self-2
unfolding of_bits
returns-else-self-2 c = root_kept binary32 c.args.self (T_false c.if-self.false) (T_false c.if-self-2.false)
