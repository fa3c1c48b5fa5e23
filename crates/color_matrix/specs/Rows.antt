-- A pixel's channels from 0 to 1, and a matrix's rows applied to them, in the Rust's order.
use Rattle.std.specs.Prelude.{ℕ, ◌+◌, ◌*◌, List, get_or, Float}
use Rattle.std.specs.Float.{nan, binary32}
use Rattle.std.specs.Float.Ieee.{of_bits}
use Rattle.floats.specs.Channel.{normalized}
use Rattle.floats.specs.Operators.{◌⊕◌, ◌⊗◌}
use Rattle.sheet.specs.Pixel.{channel}
use Rattle.color_matrix.specs.declared.pixel.Components.{Components}
use Rattle.color_matrix.specs.declared.pixel.Row.{Row}
use Rattle.color_matrix.specs.declared.pixel.ColourRow.{ColourRow}

-- the components of the pixel of number p
abbrev pub components_of : ℕ → Components
components_of p = record {
  r = normalized (channel 0 p);
  g = normalized (channel 1 p);
  b = normalized (channel 2 p);
  a = normalized (channel 3 p);
}

-- number i of a matrix
abbrev pub number_at : List Float → ℕ → Float
number_at m i = get_or m i nan

-- row i of a matrix of five columns
abbrev pub row_of : List Float → ℕ → Row
row_of m i = record {
  r = number_at m (5 * i);
  g = number_at m (5 * i + 1);
  b = number_at m (5 * i + 2);
  a = number_at m (5 * i + 3);
  added = number_at m (5 * i + 4);
}

-- row i of a matrix of three columns
abbrev pub colour_row_of : List Float → ℕ → ColourRow
colour_row_of m i = record { r = number_at m (3 * i); g = number_at m (3 * i + 1); b = number_at m (3 * i + 2) }

-- r m₀ + g m₁ + b m₂
unfoldable pub colour_sum : ColourRow → Components → Float
colour_sum m c = c.r ⊗ m.r ⊕ c.g ⊗ m.g ⊕ c.b ⊗ m.b

-- r m₀ + g m₁ + b m₂ + a m₃ + m₄
unfoldable pub sum : Row → Components → Float
sum m c = c.r ⊗ m.r ⊕ c.g ⊗ m.g ⊕ c.b ⊗ m.b ⊕ c.a ⊗ m.a ⊕ m.added

-- 0.2125, 0.7154, 0.0721
abbrev pub luminance : ColourRow
luminance = record { r = of_bits binary32 0x3e59999a; g = of_bits binary32 0x3f372474; b = of_bits binary32 0x3d93a92a }
