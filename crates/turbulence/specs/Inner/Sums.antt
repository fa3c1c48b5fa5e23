-- Words of the private functions' contracts: the four channels together.
use Rattle.std.specs.Prelude.{ℕ, ◌<◌, ◌≡◌, Bool, List, length, get_or, Float}
use Rattle.std.specs.Float.{nan}
use Rattle.floats.specs.Operators.{◌⊞◌, ◌⊠◌, ◌⧄◌}
use Rattle.turbulence.specs.declared.noise.Point.{Point}
use Rattle.turbulence.specs.declared.noise.RowOctave.{RowOctave}
use Rattle.turbulence.specs.declared.noise.ColumnOctave.{ColumnOctave}
use Rattle.turbulence.specs.declared.tables.Tables.{Tables}
use Rattle.turbulence.specs.Constants.{d0, d1}
use Rattle.turbulence.specs.Noise.{noise, octave, summed}
use Rattle.turbulence.specs.Inner.Rows.{RowAt}
use Rattle.turbulence.specs.Inner.Columns.{ColumnAt}

-- every corner has one of the first 256 gradients
abbrev pub CornersInside : Point → Type 0
CornersInside p = (p.b00 < 256) × (p.b10 < 256) × (p.b01 < 256) × (p.b11 < 256)

-- a product with the inverse is the quotient by the ratio
abbrev pub Inverse : Float → Float → Type 0
Inverse ratio inverse = (n : Float) → n ⊠ inverse ≡ n ⧄ ratio

-- s are the sums with one more octave, of a ratio with this inverse
abbrev pub WithOctave : Bool → Tables → Point → Float → List Float → List Float → Type 0
WithOctave fractal tables p inverse sums s =
    (ratio : Float) → Inverse ratio inverse → (c : ℕ) → c < 4 → get_or s c nan ≡ get_or sums c nan ⊞ octave fractal (noise tables.x tables.y c p) ratio

-- s are the four channels' sums over n octaves
abbrev pub Sums : Bool → ℕ → Tables → (x y : Float) → List Float → Type 0
Sums fractal n tables x y s = (c : ℕ) → c < 4 → get_or s c nan ≡ summed fractal tables.selector tables.x tables.y c n x y d1 d0

-- s are the sums of a column and of a row, whichever they are
abbrev pub SumsIn : Bool → Tables → List ColumnOctave → List RowOctave → List Float → Type 0
SumsIn fractal tables column row s = (x y : Float) → ColumnAt tables x column → RowAt y row → Sums fractal (length column) tables x y s
