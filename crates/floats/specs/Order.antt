-- Near zero, the clamp, and a range.
use Rattle.std.specs.Prelude.{Bool, true, false, cond, nat_le, to_bits, Float}
use Rattle.std.specs.Float.{binary32}
use Rattle.std.specs.Float.Ieee.{eq, lt, le}
use Rattle.floats.specs.Constants.{c0}

-- zero of either sign, or positive with bits at most 4
unfoldable pub near_zero : Float → Bool
near_zero x = cond (eq c0 x) true (cond (lt c0 x) (nat_le (to_bits binary32 x) 4) false)

-- resvg's `f32_bound`: the upper bound if above it, the lower if below, else the value; a NaN passes
abbrev pub bound : Float → Float → Float → Float
bound min val max = cond (lt max val) max (cond (lt val min) min val)

-- lo ≤ x ≤ hi, the ends included; a NaN is in no range
abbrev pub within : Float → Float → Float → Bool
within lo x hi = cond (le lo x) (le x hi) false
