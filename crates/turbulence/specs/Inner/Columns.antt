-- Words of the private functions' contracts: what the pixels of a column share.
use Rattle.std.specs.Prelude.{ℕ, ◌+◌, ◌*◌, ◌<◌, ◌≡◌, List, length, get_or, slice_range, Float}
use Rattle.floats.specs.Operators.{◌⊞◌, ◌⊟◌}
use Rattle.sheet.specs.Tabulate.{tabulate}
use Rattle.turbulence.specs.declared.Turbulence.{Turbulence}
use Rattle.turbulence.specs.declared.noise.Point.{Point}
use Rattle.turbulence.specs.declared.noise.RowOctave.{RowOctave}
use Rattle.turbulence.specs.declared.noise.ColumnOctave.{ColumnOctave}
use Rattle.turbulence.specs.declared.tables.Tables.{Tables}
use Rattle.turbulence.specs.Constants.{d1, d4096}
use Rattle.turbulence.specs.Noise.{cell, next_cell, fraction, s_curve}
use Rattle.turbulence.specs.Inner.Rows.{doubled, column_point}

-- the octave at x: the selector's entries of its cell and of the next one, and what lies beyond the cell
abbrev pub column_at_point : Tables → Float → ColumnOctave
column_at_point tables x = record {
  lower = get_or tables.selector (cell (x ⊞ d4096)) 0;
  upper = get_or tables.selector (next_cell (cell (x ⊞ d4096))) 0;
  across = fraction (x ⊞ d4096);
}

-- the list has the column at x, at as many octaves as it has places
abbrev pub ColumnAt : Tables → Float → List ColumnOctave → Type 0
ColumnAt tables x column = column ≡ tabulate (length column) (λ k. column_at_point tables (doubled k x))

-- the columns from `first` on stand one after the other, as many as `count`
abbrev pub ColumnsOf : Turbulence → Tables → (first count : ℕ) → List ColumnOctave → Type 0
ColumnsOf t tables first count columns = (i : ℕ) → i < count → ColumnAt tables (column_point t (first + i)) (slice_range columns (i * t.num_octaves) (i * t.num_octaves + t.num_octaves))

-- the point where a column and a row meet
abbrev pub point_with : Tables → ColumnOctave → RowOctave → Point
point_with tables column row = record {
  b00 = get_or tables.selector (column.lower + row.cell) 0;
  b10 = get_or tables.selector (column.upper + row.cell) 0;
  b01 = get_or tables.selector (column.lower + next_cell row.cell) 0;
  b11 = get_or tables.selector (column.upper + next_cell row.cell) 0;
  rx0 = column.across;
  rx1 = column.across ⊟ d1;
  ry0 = row.fraction;
  ry1 = row.fraction ⊟ d1;
  sx = s_curve column.across;
  sy = row.curve;
}
