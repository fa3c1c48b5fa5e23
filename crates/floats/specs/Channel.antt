-- A channel's byte as a number from 0 to 1, and back.
use Rattle.std.specs.Prelude.{ℕ, pos, Float}
use Rattle.std.specs.Float.{binary32}
use Rattle.std.specs.Float.Ieee.{of_int, to_unsigned}
use Rattle.floats.specs.Constants.{c0, c1, c255}
use Rattle.floats.specs.Operators.{◌⊗◌, ◌⊘◌}
use Rattle.floats.specs.Order.{bound}

-- resvg's `c as f32 / 255.0` of a byte c
unfoldable pub normalized : ℕ → Float
normalized c = of_int binary32 (pos c) ⊘ c255

-- resvg's `(f32_bound(0.0, c, 1.0) * 255.0) as u8`; a NaN gives 0
unfoldable pub from_normalized : Float → ℕ
from_normalized c = to_unsigned 8 (bound c0 c c1 ⊗ c255)
