-- The edge modes' numbers and the numbers' edge modes are each other's.
use Prim.Native.Nat.{ℕ, zero, suc}
use mathlib.Core.Path.{◌≡◌, refl}
use Rattle.std.specs.Prelude.{Ok}
use Rattle.convolve_matrix.specs.declared.edge.EdgeMode.{EdgeMode}
use Rattle.convolve_matrix.specs.declared.edge.EdgeMode.TheVariants.{None, Duplicate, Wrap}
use Rattle.convolve_matrix.specs.Numbered.{edge_mode_number, edge_mode_by}

pub mode_again : (mode : EdgeMode) → edge_mode_by (edge_mode_number mode) ≡ Ok mode
mode_again None = refl
mode_again Duplicate = refl
mode_again Wrap = refl

pub number_again : (n : ℕ) (mode : EdgeMode) → edge_mode_by n ≡ Ok mode → n ≡ edge_mode_number mode
number_again zero mode e = cc
number_again (suc zero) mode e = cc
number_again (suc (suc zero)) mode e = cc
number_again (suc (suc (suc n))) mode e = cc
