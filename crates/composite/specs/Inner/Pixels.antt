-- Words of the pixel functions' contracts.
use Rattle.std.specs.Prelude.{ℕ, Float}
use Rattle.sheet.specs.Pixel.{channel, Channels}
use Rattle.composite.specs.declared.pixel.Factors.{Factors}
use Rattle.composite.specs.Arithmetic.{scaled, colour, alpha_of, channel_of}

-- channel c of the pixels of numbers p1 and p2
abbrev pub byte : ℕ → Factors → ℕ → ℕ → ℕ
byte c k p1 p2 = channel_of c k (channel c p1) (channel c p2) (alpha_of k (channel 3 p1) (channel 3 p2))

-- p is the pixel of the new alpha a
abbrev pub WithAlpha : Factors → ℕ → ℕ → Float → ℕ → Type 0
WithAlpha k p1 p2 a p =
    Channels p (colour k (channel 0 p1) (channel 0 p2) a) (colour k (channel 1 p1) (channel 1 p2) a) (colour k (channel 2 p1) (channel 2 p2) a) (scaled a)

-- p is the composition of p1 and p2
abbrev pub Composed : Factors → ℕ → ℕ → ℕ → Type 0
Composed k p1 p2 p = Channels p (byte 0 k p1 p2) (byte 1 k p1 p2) (byte 2 k p1 p2) (byte 3 k p1 p2)
