-- Words of the private functions' contracts: what a pixel is, a byte of a sheet, and a row of a strip.
use Rattle.std.specs.Prelude.{ℕ, ◌+◌, ◌*◌, ◌%◌, List}
use Rattle.sheet.specs.Pixel.{Channels, column, row}
use Rattle.sheet.specs.Inner.Strips.{Changed}
use Rattle.turbulence.specs.declared.Turbulence.{Turbulence}
use Rattle.turbulence.specs.declared.noise.RowOctave.{RowOctave}
use Rattle.turbulence.specs.declared.noise.ColumnOctave.{ColumnOctave}
use Rattle.turbulence.specs.declared.tables.Tables.{Tables}
use Rattle.turbulence.specs.Turbulence.{value_by, byte_of}
use Rattle.turbulence.specs.Inner.Rows.{column_point, row_point, RowAt}
use Rattle.turbulence.specs.Inner.Columns.{ColumnAt}

-- channel c of the pixel in column x and row y, by a selector and gradients
abbrev pub byte_by : Turbulence → Tables → (c x y : ℕ) → ℕ
byte_by t tables c x y = byte_of t.fractal_noise (value_by t tables.selector tables.x tables.y c x y)

-- byte k of a sheet that is w pixels wide
abbrev pub bytes_by : Turbulence → Tables → ℕ → ℕ → ℕ
bytes_by t tables w k = byte_by t tables (k % 4) (column w k) (row w k)

-- p is the pixel in column x and row y
abbrev pub PixelBy : Turbulence → Tables → (x y : ℕ) → ℕ → Type 0
PixelBy t tables x y p = Channels p (byte_by t tables 0 x y) (byte_by t tables 1 x y) (byte_by t tables 2 x y) (byte_by t tables 3 x y)

-- p is the pixel of a column and of a row, whichever they are
abbrev pub PixelIn : Turbulence → Tables → List ColumnOctave → List RowOctave → ℕ → Type 0
PixelIn t tables across down p = (x y : ℕ) → ColumnAt tables (column_point t x) across → RowAt (row_point t y) down → PixelBy t tables x y p

-- the bytes of row y in the n columns from x on became those of a sheet that is w pixels wide
abbrev pub RowDrawn : Turbulence → Tables → (w y x n : ℕ) → (d d' : List ℕ) → Type 0
RowDrawn t tables w y x n d d' = Changed 0 (λ j. bytes_by t tables w (4 * (y * w + x) + j)) (4 * (y * w + x)) (4 * n) d d'
