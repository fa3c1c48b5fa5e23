-- The literals of the Rust's `f32` formulas, by their bits.
use Rattle.std.specs.Prelude.{from_bits, Float}
use Rattle.std.specs.Float.{binary32}

abbrev pub c0 : Float
c0 = from_bits binary32 0

abbrev pub half : Float
half = from_bits binary32 0x3f00_0000

abbrev pub c1 : Float
c1 = from_bits binary32 0x3f80_0000

abbrev pub c255 : Float
c255 = from_bits binary32 0x437f_0000

abbrev pub c65536 : Float
c65536 = from_bits binary32 0x4780_0000

-- -65,536.0
abbrev pub m65536 : Float
m65536 = from_bits binary32 0xc780_0000
