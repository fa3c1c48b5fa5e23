-- What one byte of the result reads: both selected channels of the map at its pixel, and its channel in the picture within Dx columns and Dy rows, clipped.
use Rattle.std.specs.Prelude.{◌≡◌, ℕ, ◌+◌, ◌-◌, ◌*◌, ◌/◌, ◌%◌, ◌⊎◌, Float}
use Rattle.std.specs.Float.Ieee.Positive.{num, den}
use Rattle.sheet.specs.Pixel.{column, row, byte_at, Near}
use Rattle.displacement_map.specs.declared.ColorChannel.{ColorChannel}
use Rattle.displacement_map.specs.DisplacementMap.{channel_number}

-- the least whole number not below n / d
abbrev pub ceiling : ℕ → ℕ → ℕ
ceiling n d = (n + (d - 1)) / d

-- D: the least whole number not below |s * scale| / 2 + 1, where |s| and |scale| are exact fractions
unfoldable pub distance : Float → Float → ℕ
distance s scale = ceiling (num s * num scale + 2 * (den s * den scale)) (2 * (den s * den scale))

-- byte k reads byte j of the map
abbrev pub ReadsMap : ColorChannel → ColorChannel → ℕ → ℕ → Type 0
ReadsMap xs ys k j = (j ≡ 4 * (k / 4) + channel_number xs) ⊎ (j ≡ 4 * (k / 4) + channel_number ys)

-- byte k reads byte j of the picture
pub record ReadsPicture (sx sy scale : Float) (w h k j : ℕ) : Type 0 where
  pub x : ℕ
  pub y : ℕ
  pub near_column : Near (distance sx scale) w (column w k) x
  pub near_row : Near (distance sy scale) h (row w k) y
  pub is : j ≡ byte_at w x y (k % 4)
