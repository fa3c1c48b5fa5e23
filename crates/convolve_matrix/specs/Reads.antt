-- What one byte of the result reads: its channel and alpha at the pixels read under the edge mode, and alpha of its own pixel.
use Rattle.std.specs.Prelude.{ℕ, ◌+◌, ◌*◌, ◌/◌, ◌%◌, ◌<◌, ◌≡◌, true, ◌⊎◌}
use Rattle.sheet.specs.Pixel.{column, row, byte_at}
use Rattle.convolve_matrix.specs.declared.edge.EdgeMode.{EdgeMode}
use Rattle.convolve_matrix.specs.declared.ConvolveMatrix.{ConvolveMatrix}
use Rattle.convolve_matrix.specs.Edges.{is_read, place}

-- a kernel of so many numbers on a side has one that reads place x for place i
pub record Met (mode : EdgeMode) (numbers target n i x : ℕ) : Type 0 where
  pub o : ℕ
  pub in_kernel : o < numbers
  pub read : is_read mode target n (i + o) ≡ true
  pub is : x ≡ place mode target n (i + o)

-- channel c of byte k's pixel reads byte j
pub record Taps (m : ConvolveMatrix) (w h k c j : ℕ) : Type 0 where
  pub x : ℕ
  pub y : ℕ
  pub met_column : Met m.edge_mode m.columns m.target_x w (column w k) x
  pub met_row : Met m.edge_mode m.rows m.target_y h (row w k) y
  pub is : j ≡ byte_at w x y c

-- byte k reads byte j
abbrev pub Reads : ConvolveMatrix → (w h k j : ℕ) → Type 0
Reads m w h k j = Taps m w h k (k % 4) j ⊎ (Taps m w h k 3 j ⊎ (j ≡ 4 * (k / 4) + 3))
