-- Each octave is what its position gives.
use borrow.Author.Rules.{rules}
use native.Mathlib.Omega.{arith}
use lib.Ieee.{nan}
use Rattle.turbulence.specs.Inner.Rows.{row_at_point}
use Rattle.turbulence.proofs.Filled.{filled_all}
use Rattle.turbulence.proofs.noise.row_at.Goals as goal

pub returns : goal.returns
returns c = filled_all {z = row_at_point nan} {i = 8} (record { long = search rules; stored = λ k h. let told = c.store_octaves.ensures k (row_at_point nan) (omega arith) in search rules }) (omega arith)
