-- What a displacement answers, and what byte k of its result is.
use Rattle.std.specs.Prelude.{ℕ, ◌+◌, ◌*◌, ◌/◌, ◌%◌, Bool, cond, List, [], ◌∷◌, length, ℤ, pos, negsuc, from_bits, nat_lt, slice_index, Float}
use Rattle.std.specs.Float.{binary32}
use Rattle.std.specs.Float.Ieee.{of_int}
use Rattle.std.specs.Float.Ieee.Scale.{finite}
use Rattle.floats.specs.Channel.{normalized}
use Rattle.floats.specs.Constants.{half}
use Rattle.floats.specs.Operators.{◌⊕◌, ◌⊖◌, ◌⊗◌}
use Rattle.floats.specs.Order.{within}
use Rattle.floats.specs.Round.{round_to}
use Rattle.sheet.specs.Answer.{Answer, Done, refusal, and_then}
use Rattle.sheet.specs.Size.{sheets_answer}
use Rattle.sheet.specs.Tabulate.{tabulate}
use Rattle.sheet.specs.Pixel.{column, row, byte_at}
use Rattle.displacement_map.specs.declared.ColorChannel.{ColorChannel}
use Rattle.displacement_map.specs.declared.ColorChannel.TheVariants.{R, G, B, A}

-- ---- tests 4 and 5
-- sx or sy is within -16..=16
abbrev pub in_canvas : Float → Bool
in_canvas s = within (from_bits binary32 0xc180_0000) s (from_bits binary32 0x4180_0000)

-- scale is within -4,096..=4,096
abbrev pub in_scale : Float → Bool
in_scale scale = within (from_bits binary32 0xc580_0000) scale (from_bits binary32 0x4580_0000)

unfoldable pub scales_answer : Float → Float → Float → Answer
scales_answer sx sy scale =
    cond (finite sx)
    (cond (finite sy)
    (cond (finite scale)
    (cond (in_canvas sx)
    (cond (in_canvas sy)
    (cond (in_scale scale) Done (refusal 5))
    (refusal 5))
    (refusal 5))
    (refusal 4))
    (refusal 4))
    (refusal 4)

-- the whole answer, for a picture, a map and a destination
unfoldable pub answer : Float → Float → Float → ℕ → ℕ → List ℕ → List ℕ → List ℕ → Answer
answer sx sy scale w h src map dest = and_then (sheets_answer w h (length src ∷ length map ∷ length dest ∷ [])) (scales_answer sx sy scale)

-- ---- where a place reads
-- resvg's `calc_offset`: `c as f32 / 255.0 - 0.5` of a byte c
unfoldable pub offset : ℕ → Float
offset c = normalized c ⊖ half

-- how far a byte c moves: `calc_offset(..) * s * scale`
unfoldable pub shift : Float → Float → ℕ → Float
shift s scale c = offset c ⊗ s ⊗ scale

-- `x as f32 + calc_offset(..) * sx * scale`, before it is rounded
unfoldable pub place : Float → Float → ℕ → ℕ → Float
place s scale i c = of_int binary32 (pos i) ⊕ shift s scale c

-- the column that column i reads where the map's byte is c, or the row: rounded half away from zero
unfoldable pub target_of : Float → Float → ℕ → ℕ → ℤ
target_of s scale i c = round_to 31 (place s scale i c)

-- ---- the bytes
abbrev pub channel_number : ColorChannel → ℕ
channel_number R = 0
channel_number G = 1
channel_number B = 2
channel_number A = 3

-- the selected channel of the map at byte k's pixel
abbrev pub map_at : ColorChannel → List ℕ → ℕ → ℕ
map_at selector map k = slice_index map (4 * (k / 4) + channel_number selector) % 256

-- channel c of the picture's pixel in a column and a row; 0 off the sheet
abbrev pub picture_at : List ℕ → ℕ → ℕ → ℤ → ℤ → ℕ → ℕ
picture_at src w h (pos x) (pos y) c = cond (nat_lt x w) (cond (nat_lt y h) (slice_index src (byte_at w x y c)) 0) 0
picture_at src w h (pos x) (negsuc y) c = 0
picture_at src w h (negsuc x) y c = 0

-- byte k
abbrev pub displaced_at : ColorChannel → ColorChannel → Float → Float → Float → ℕ → ℕ → List ℕ → List ℕ → ℕ → ℕ
displaced_at xs ys sx sy scale w h src map k =
    picture_at src w h (target_of sx scale (column w k) (map_at xs map k)) (target_of sy scale (row w k) (map_at ys map k)) (k % 4)

-- the result, by the selectors of x and y
unfoldable pub displaced : ColorChannel → ColorChannel → Float → Float → Float → ℕ → ℕ → List ℕ → List ℕ → List ℕ
displaced xs ys sx sy scale w h src map = tabulate (4 * w * h) (displaced_at xs ys sx sy scale w h src map)
