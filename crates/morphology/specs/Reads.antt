-- What one byte of the result reads: its channel in the clipped window.
use Rattle.std.specs.Prelude.{ℕ, ◌%◌, ◌≡◌, Float}
use Rattle.sheet.specs.Pixel.{column, row, byte_at, Near}
use Rattle.morphology.specs.Morphology.{radius}

-- byte k reads byte j
pub record Reads (rx ry : Float) (w h k j : ℕ) : Type 0 where
  pub x : ℕ
  pub y : ℕ
  pub near_column : Near (radius rx w) w (column w k) x
  pub near_row : Near (radius ry h) h (row w k) y
  pub is : j ≡ byte_at w x y (k % 4)
