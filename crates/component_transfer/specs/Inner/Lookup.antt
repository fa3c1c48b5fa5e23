-- Words of the look-up's contract.
use Rattle.std.specs.Prelude.{ℕ, List, get_or}
use Rattle.sheet.specs.Pixel.{channel, Channels}

-- v is the pixel of number p with each channel looked up in its own bytes
abbrev pub LookedUp : (r g b a : List ℕ) → ℕ → ℕ → Type 0
LookedUp r g b a p v = Channels v (get_or r (channel 0 p) 0) (get_or g (channel 1 p) 0) (get_or b (channel 2 p) 0) (get_or a (channel 3 p) 0)
