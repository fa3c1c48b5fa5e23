-- Words of the engine's contracts.
use Rattle.std.specs.Prelude.{◌≡◌, ℕ, ◌+◌, ◌*◌, ◌/◌, ◌<◌, ◌≤◌, T, List, ℤ, pos, negsuc, slice_index_or, Float}
use Rattle.std.specs.Float.{nan}
use Rattle.std.specs.Float.Ieee.Positive.{num, den}
use Rattle.std.specs.Float.Ieee.Scale.{finite}
use Rattle.floats.specs.Round.{round_to}
use Rattle.sheet.specs.Pixel.{channel}
use Rattle.displacement_map.specs.DisplacementMap.{shift, picture_at}

-- the shift of each byte
abbrev pub Shifts : Float → Float → List Float → Type 0
Shifts s scale values = (c : ℕ) → c < 256 → slice_index_or values c nan ≡ shift s scale c

-- finite, and of a size that no sheet reaches
abbrev pub Small : Float → Type 0
Small z = T (finite z) × (num z ≤ 65536 * den z)

-- n counts 2 ^ -25ths of a pixel: from half a pixel before 0 on, which itself rounds below 0, the whole pixels of n + 1 are what the place rounds to; a place that rounds below 0
-- counts more than any sheet
abbrev pub Steps : ℤ → ℕ → Type 0
Steps (pos q) n = ((n + 1) / 33554432 ≡ q) × (n < 4398046511104)
Steps (negsuc q) n = 2199023255552 ≤ n

-- p is the picture's pixel where the column x and the row y round to
abbrev pub Moved : List ℕ → ℕ → ℕ → Float → Float → ℕ → Type 0
Moved src w h x y p = (c : ℕ) → c < 4 → channel c p ≡ picture_at src w h (round_to 31 x) (round_to 31 y) c
