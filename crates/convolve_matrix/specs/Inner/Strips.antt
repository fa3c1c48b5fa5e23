-- What becomes of a strip's sums, and of a sheet's bytes.
use Rattle.std.specs.Prelude.{ℕ, ◌+◌, ◌-◌, ◌*◌, List, Float}
use Rattle.convolve_matrix.specs.declared.strip.Convolution.{Convolution}
use Rattle.convolve_matrix.specs.declared.strip.Strip.{Strip}
use Rattle.convolve_matrix.specs.ConvolveMatrix.{row_sum, convolved_at}
use Rattle.convolve_matrix.specs.Inner.Rows.{shifted}

-- a sum with row oy of the window of the strip's pixel i in row y
abbrev pub row_sum_of : Strip → (y i c oy : ℕ) → Float → Float
row_sum_of s y i c = row_sum s.whole.matrix s.whole.kernel.now s.whole.width s.whole.height s.whole.src.now (s.x + i) y c

-- the same with one column of that row, whose numbers are l
abbrev pub shifted_of : Strip → List Float → (oy i c ox : ℕ) → Float → Float
shifted_of s l oy i c =
    shifted s.whole.matrix.edge_mode s.whole.matrix.target_x s.whole.width s.x s.whole.kernel.now ((s.whole.matrix.rows - oy - 1) * s.whole.matrix.columns) s.whole.matrix.columns l i c

-- byte k of the result
abbrev pub convolved_of : Convolution → ℕ → ℕ
convolved_of s = convolved_at s.matrix s.kernel.now s.width s.height s.src.now
