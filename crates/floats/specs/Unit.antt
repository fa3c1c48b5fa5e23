-- The exact test of a length against 1.
use Rattle.std.specs.Prelude.{ℕ, ◌+◌, ◌*◌, ◌/◌, ◌^◌, Bool, ◌&&◌, nat_le, Float}
use Rattle.std.specs.Float.{Format, binary32}
use Rattle.std.specs.Float.Ieee.{low}
use Rattle.std.specs.Float.Ieee.Scale.{finite}
use Rattle.std.specs.Float.Ieee.Positive.{num, den}

-- |x| in units of the format's smallest value, 2 ^ -149 for an `f32`: a whole number for every finite x of the format
abbrev pub in_units : Format → Float → ℕ
in_units f x = num x * 2 ^ low f / den x

-- a finite `f32` squared, in units of 2 ^ -298
abbrev pub squared : Float → ℕ
squared x = in_units binary32 x * in_units binary32 x

-- n differs from 1 by at most 1 / 1024, n in units of which u make 1 / 1024
abbrev pub about_one : ℕ → ℕ → Bool
about_one u n = nat_le (1023 * u) n && nat_le n (1025 * u)

-- both are finite, and x * x + y * y, over the reals, differs from 1 by at most 1 / 1024
unfoldable pub unit_pair : Float → Float → Bool
unit_pair x y = (finite x && finite y) && about_one (2 ^ 288) (squared x + squared y)

-- all are finite, and x * x + y * y + z * z, over the reals, differs from 1 by at most 1 / 1024
unfoldable pub unit_triple : Float → Float → Float → Bool
unit_triple x y z = (finite x && finite y && finite z) && about_one (2 ^ 288) (squared x + squared y + squared z)
