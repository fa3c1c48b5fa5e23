-- What turbulence answers, and what byte k of its result is.
use Rattle.std.specs.Prelude.{ℕ, ◌*◌, ◌%◌, Bool, false, cond, ◌&&◌, List, [], ◌∷◌, pos, length, leb, Float}
use Rattle.std.specs.Float.{binary32, binary64}
use Rattle.std.specs.Float.Ieee.{of_int, neg, to_unsigned}
use Rattle.std.specs.Float.Ieee.Scale.{finite}
use Rattle.floats.specs.Constants.{c0, half, c255}
use Rattle.floats.specs.Operators.{◌⊕◌, ◌⊞◌, ◌⊠◌, ◌⧄◌}
use Rattle.floats.specs.Order.{bound, within}
use Rattle.floats.specs.Narrow.{narrow_to}
use Rattle.sheet.specs.Answer.{Answer, Done, refusal, and_then}
use Rattle.sheet.specs.Size.{sheets_answer}
use Rattle.sheet.specs.Tabulate.{tabulate}
use Rattle.sheet.specs.Pixel.{column, row}
use Rattle.turbulence.specs.declared.Turbulence.{Turbulence}
use Rattle.turbulence.specs.Constants.{d0, d1, d2, sixteenth, d16, d255, d4096}
use Rattle.turbulence.specs.Tables.{selector_of, gradients_x, gradients_y}
use Rattle.turbulence.specs.Noise.{summed}

-- ---- tests 4 and 5
abbrev pub both_finite : Float → Float → Bool
both_finite x y = finite x && finite y

abbrev pub both_within : (lo x y hi : Float) → Bool
both_within lo x y hi = within lo x hi && within lo y hi

-- offsets, scales, frequencies
unfoldable pub all_finite : Turbulence → Bool
all_finite t =
    cond (both_finite t.offset_x t.offset_y)
    (cond (both_finite t.sx t.sy)
    (both_finite t.base_frequency_x t.base_frequency_y)
    false)
    false

-- offsets -4,096 to 4,096, scales 1/16 to 16, frequencies 0 to 16, octaves at most 8
unfoldable pub all_in_range : Turbulence → Bool
all_in_range t =
    cond (both_within (neg d4096) t.offset_x t.offset_y d4096)
    (cond (both_within sixteenth t.sx t.sy d16)
    (cond (both_within d0 t.base_frequency_x t.base_frequency_y d16)
    (leb t.num_octaves 8)
    false)
    false)
    false

unfoldable pub turbulence_answer : Turbulence → Answer
turbulence_answer t = cond (all_finite t) (cond (all_in_range t) Done (refusal 5)) (refusal 4)

-- the whole answer, for a destination
unfoldable pub answer : Turbulence → ℕ → ℕ → List ℕ → Answer
answer t w h dest = and_then (sheets_answer w h (length dest ∷ [])) (turbulence_answer t)

-- ---- the bytes
-- the point of pixel n in user space, by an axis's offset and scale, times its frequency
unfoldable pub point_on : (offset scale frequency : Float) → ℕ → Float
point_on offset scale frequency n = (of_int binary64 (pos n) ⊞ offset) ⧄ scale ⊠ frequency

-- channel c's sum over the octaves, of the pixel in column x and row y, by a selector and gradients
unfoldable pub value_by : Turbulence → List ℕ → List Float → List Float → (c x y : ℕ) → Float
value_by t selector gx gy c x y =
    summed t.fractal_noise selector gx gy c t.num_octaves
    (point_on t.offset_x t.sx t.base_frequency_x x) (point_on t.offset_y t.sy t.base_frequency_y y) d1 d0

-- by those of the seed
abbrev pub turbulence_value : Turbulence → (c x y : ℕ) → Float
turbulence_value t c x y = value_by t (selector_of t.seed) (gradients_x t.seed) (gradients_y t.seed) c x y

-- a sum as a number from 0 to 255, before the clamp
abbrev pub scaled_sum : Bool → Float → Float
scaled_sum fractal n = cond fractal ((n ⊠ d255 ⊞ d255) ⧄ d2) (n ⊠ d255)

-- resvg's `(f32_bound(0.0, n as f32, 255.0) + 0.5) as u8`; a NaN gives 0
unfoldable pub byte_of : Bool → Float → ℕ
byte_of fractal n = to_unsigned 8 (bound c0 (narrow_to binary32 (scaled_sum fractal n)) c255 ⊕ half)

-- byte k of a sheet that is w pixels wide
abbrev pub turbulence_at : Turbulence → ℕ → ℕ → ℕ
turbulence_at t w k = byte_of t.fractal_noise (turbulence_value t (k % 4) (column w k) (row w k))

-- the result
unfoldable pub drawn : Turbulence → ℕ → ℕ → List ℕ
drawn t w h = tabulate (4 * w * h) (turbulence_at t w)
