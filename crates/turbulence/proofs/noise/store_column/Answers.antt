-- Each octave is what its position gives.
use borrow.Author.Rules.{rules}
use mathlib.Core.Path.{refl}
use native.Mathlib.Omega.{arith}
use lib.ListN.{length}
use lib.Ieee.{nan}
use Rattle.turbulence.specs.Inner.Columns.{column_at_point}
use Rattle.turbulence.proofs.Filled.{filled_all}
use Rattle.turbulence.proofs.noise.store_column.Goals as goal

pub returns : goal.returns
returns c = let z = column_at_point c.args.tables.now nan in filled_all {z = z} {i = length c.store_octaves.new.octaves} (record { long = refl; stored = λ k h. let told = c.store_octaves.ensures k z h in search rules }) (omega arith)
