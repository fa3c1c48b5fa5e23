use mathlib.Core.Path.{ap}
use Prim.Native.Nat.{◌%◌}
use native.Mathlib.Omega.{arith}
use lib.IntN.{ℤ, pos}
use lib.Ieee.{binary64, of_int, of_bits, div}
use Rattle.turbulence.proofs.Lowered.{lowered_fits, lowered_is}
use Rattle.turbulence.specs.Gradient.{component}
use Rattle.turbulence.proofs.tables.component_of.Goals as goal

pub overflow_sub-whole : goal.overflow_sub-whole
overflow_sub-whole c = lowered_fits (c.args.state % 512) (omega arith)

pub returns : goal.returns
unfolding component of_int of_bits
returns c = ap (λ (z : ℤ). div binary64 (of_int binary64 z) (of_int binary64 (pos 256))) (lowered_is (c.args.state % 512) (omega arith))
