-- Words of the private functions' contracts: a value from 0 to 255 as a byte.
use Rattle.std.specs.Prelude.{ℕ, ◌+◌, ◌*◌, ◌≤◌, ◌≡◌, Float}
use Rattle.std.specs.Float.{binary32}
use Rattle.std.specs.Float.Ieee.{to_unsigned}
use Rattle.std.specs.Float.Ieee.Positive.{num, den}
use Rattle.floats.specs.Constants.{half, c0, c255}
use Rattle.floats.specs.Operators.{◌⊕◌}
use Rattle.floats.specs.Order.{bound}
use Rattle.floats.specs.Narrow.{narrow_to}

-- resvg's `(f32_bound(0.0, v as f32, 255.0) + 0.5) as u8`
unfoldable pub level_of : Float → ℕ
level_of v = to_unsigned 8 (bound c0 (narrow_to binary32 v) c255 ⊕ half)

-- p is 32,769 more than the whole number nearest to 65,536 v
pub record Parts (v : Float) (p : ℕ) : Type 0 where
  pub k : ℕ
  pub number : p ≡ k + 32769
  pub over : 2 * (k * den v) ≤ 2 * (65536 * num v) + den v
  pub under : 2 * (65536 * num v) ≤ 2 * (k * den v) + den v
