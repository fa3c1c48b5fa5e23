-- What one byte of the result reads: alpha in the 3 x 3 square round its pixel, clipped.
use Rattle.std.specs.Prelude.{ℕ, ◌≡◌}
use Rattle.sheet.specs.Pixel.{column, row, byte_at, Near}

-- byte k reads byte j
pub record Reads (w h k j : ℕ) : Type 0 where
  pub x : ℕ
  pub y : ℕ
  pub near_column : Near 1 w (column w k) x
  pub near_row : Near 1 h (row w k) y
  pub is : j ≡ byte_at w x y 3
