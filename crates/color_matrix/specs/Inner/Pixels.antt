-- Words of the pixel functions' contracts: v is what becomes of the pixel of number p.
use Rattle.std.specs.Prelude.{ℕ}
use Rattle.floats.specs.Channel.{from_normalized}
use Rattle.sheet.specs.Pixel.{channel, Channels}
use Rattle.color_matrix.specs.declared.pixel.Row.{Row}
use Rattle.color_matrix.specs.declared.pixel.ColourRow.{ColourRow}
use Rattle.color_matrix.specs.Rows.{components_of, sum, colour_sum}

-- each row's sum, of the pixel's components
abbrev pub by_row : Row → ℕ → ℕ
by_row row p = from_normalized (sum row (components_of p))

abbrev pub by_colour_row : ColourRow → ℕ → ℕ
by_colour_row row p = from_normalized (colour_sum row (components_of p))

abbrev pub ByMatrix : (r g b a : Row) → ℕ → ℕ → Type 0
ByMatrix r g b a p v = Channels v (by_row r p) (by_row g p) (by_row b p) (by_row a p)

-- alpha is kept
abbrev pub ByColours : (r g b : ColourRow) → ℕ → ℕ → Type 0
ByColours r g b p v = Channels v (by_colour_row r p) (by_colour_row g p) (by_colour_row b p) (channel 3 p)
