-- Words of the private functions' contracts: what the pixels of a row share.
use Rattle.std.specs.Prelude.{ℕ, zero, suc, ◌≡◌, List, Float}
use Rattle.floats.specs.Operators.{◌⊞◌, ◌⊠◌}
use Rattle.sheet.specs.Tabulate.{tabulate}
use Rattle.turbulence.specs.declared.Turbulence.{Turbulence}
use Rattle.turbulence.specs.declared.noise.RowOctave.{RowOctave}
use Rattle.turbulence.specs.Constants.{d2, d4096}
use Rattle.turbulence.specs.Noise.{cell, fraction, s_curve}
use Rattle.turbulence.specs.Turbulence.{point_on}

-- x at the octave k from here
unfoldable pub doubled : ℕ → Float → Float
doubled zero x = x
doubled (suc k) x = doubled k x ⊠ d2

-- the octave at y: its cell, what lies beyond it, and the curve of that
abbrev pub row_at_point : Float → RowOctave
row_at_point y = record { cell = cell (y ⊞ d4096); fraction = fraction (y ⊞ d4096); curve = s_curve (fraction (y ⊞ d4096)) }

-- the list has the row at y
abbrev pub RowAt : Float → List RowOctave → Type 0
RowAt y row = row ≡ tabulate 8 (λ k. row_at_point (doubled k y))

-- the points of column x and of row y
abbrev pub column_point : Turbulence → ℕ → Float
column_point t x = point_on t.offset_x t.sx t.base_frequency_x x

abbrev pub row_point : Turbulence → ℕ → Float
row_point t y = point_on t.offset_y t.sy t.base_frequency_y y
