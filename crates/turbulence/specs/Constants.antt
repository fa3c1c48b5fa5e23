-- The literals of the Rust's formulas, by their bits.
use Rattle.std.specs.Prelude.{Float}
use Rattle.std.specs.Float.{binary64}
use Rattle.std.specs.Float.Ieee.{of_bits}

abbrev pub d0 : Float
d0 = of_bits binary64 0

abbrev pub d1 : Float
d1 = of_bits binary64 0x3ff0_0000_0000_0000

abbrev pub d2 : Float
d2 = of_bits binary64 0x4000_0000_0000_0000

abbrev pub d3 : Float
d3 = of_bits binary64 0x4008_0000_0000_0000

-- 1 / 16
abbrev pub sixteenth : Float
sixteenth = of_bits binary64 0x3fb0_0000_0000_0000

abbrev pub d16 : Float
d16 = of_bits binary64 0x4030_0000_0000_0000

abbrev pub d255 : Float
d255 = of_bits binary64 0x406f_e000_0000_0000

abbrev pub d4096 : Float
d4096 = of_bits binary64 0x40b0_0000_0000_0000
