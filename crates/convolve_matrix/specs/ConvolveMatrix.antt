-- What a convolve matrix answers, and what byte k of its result is.
use Rattle.std.specs.Prelude.{ℕ, zero, suc, ◌+◌, ◌-◌, ◌*◌, ◌/◌, ◌%◌, Bool, true, false, cond, List, [], ◌∷◌, length, get_or, eqb, leb, ltb, Float}
use Rattle.std.specs.Float.{nan, binary32}
use Rattle.std.specs.Float.Ieee.{of_bits, to_unsigned}
use Rattle.std.specs.Float.Ieee.Scale.{finite}
use Rattle.floats.specs.Channel.{normalized}
use Rattle.floats.specs.Constants.{c0, half, c1, c255, c65536, m65536}
use Rattle.floats.specs.Operators.{◌⊕◌, ◌⊗◌, ◌⊘◌}
use Rattle.floats.specs.Order.{bound, within}
use Rattle.sheet.specs.Answer.{Answer, Done, refusal, and_then}
use Rattle.sheet.specs.Size.{sheets_answer}
use Rattle.sheet.specs.Tabulate.{tabulate}
use Rattle.sheet.specs.Pixel.{column, row, byte_at}
use Rattle.pool.specs.Pool.{in_range, all_finite, all_in_range, is_in, numbers_of}
use Rattle.convolve_matrix.specs.declared.ConvolveMatrix.{ConvolveMatrix}
use Rattle.convolve_matrix.specs.Edges.{is_read, place}

-- ---- tests 3, 4 and 5
-- the most rows and the most columns of a kernel
abbrev pub kernel_limit : ℕ
kernel_limit = 15

-- a side of the kernel is within 1..=kernel_limit, and the target within the side
unfoldable pub is_side : (n target : ℕ) → Bool
is_side n target = cond (leb n kernel_limit) (ltb target n) false

-- 1 / 65,536 and -1 / 65,536
abbrev pub least_divisor : Float
least_divisor = of_bits binary32 0x3780_0000

abbrev pub most_negative : Float
most_negative = of_bits binary32 0xb780_0000

-- within -65,536..=65,536, and in size at least 1 / 65,536
unfoldable pub is_divisor : Float → Bool
is_divisor d = cond (within least_divisor d c65536) true (within m65536 d most_negative)

-- test 3, of a pool of n numbers
unfoldable pub is_kernel : ConvolveMatrix → ℕ → Bool
is_kernel m n =
    cond (is_side m.columns m.target_x)
    (cond (is_side m.rows m.target_y)
    (cond (eqb m.matrix.count (m.rows * m.columns)) (is_in m.matrix n) false)
    false)
    false

-- test 4, the kernel's numbers at hand
unfoldable pub are_finite : ConvolveMatrix → List Float → Bool
are_finite m kernel = cond (all_finite kernel) (cond (finite m.divisor) (finite m.bias) false) false

-- test 5
unfoldable pub are_in_range : ConvolveMatrix → List Float → Bool
are_in_range m kernel = cond (all_in_range kernel) (cond (is_divisor m.divisor) (in_range m.bias) false) false

-- tests 3, 4 and 5
unfoldable pub kernel_answer : ConvolveMatrix → List Float → Answer
kernel_answer m pool =
    cond (is_kernel m (length pool))
    (cond (are_finite m (numbers_of m.matrix pool))
    (cond (are_in_range m (numbers_of m.matrix pool)) Done (refusal 5))
    (refusal 4))
    (refusal 3)

-- the whole answer, for a sheet and a scratch
unfoldable pub answer : ConvolveMatrix → List Float → ℕ → ℕ → List ℕ → List ℕ → Answer
answer m pool w h src scratch = and_then (sheets_answer w h (length src ∷ length scratch ∷ [])) (kernel_answer m pool)

-- ---- the sum
-- what f makes of x by 0, then by 1, .., then by n - 1
unfoldable pub in_order : ℕ → (ℕ → Float → Float) → Float → Float
in_order zero f x = x
in_order (suc n) f x = f n (in_order n f x)

-- the number that column ox and row oy of the window meet: the kernel turned by half a turn
abbrev pub turned : ConvolveMatrix → List Float → (oy ox : ℕ) → Float
turned m kernel oy ox = get_or kernel ((m.rows - oy - 1) * m.columns + (m.columns - ox - 1)) nan

-- a sum with channel c, at column ox of the window of column x, in row y of the sheet; None skips what lies outside
abbrev pub tapped : ConvolveMatrix → List Float → ℕ → List ℕ → (x c y oy ox : ℕ) → Float → Float
tapped m kernel w s x c y oy ox sum =
    cond (is_read m.edge_mode m.target_x w (x + ox))
    (sum ⊕ normalized (get_or s (byte_at w (place m.edge_mode m.target_x w (x + ox)) y c) 0) ⊗ turned m kernel oy ox)
    sum

-- a sum with row oy of the window of the pixel in column x and row y
unfoldable pub row_sum : ConvolveMatrix → List Float → ℕ → ℕ → List ℕ → (x y c oy : ℕ) → Float → Float
row_sum m kernel w h s x y c oy sum =
    cond (is_read m.edge_mode m.target_y h (y + oy))
    (in_order m.columns (tapped m kernel w s x c (place m.edge_mode m.target_y h (y + oy)) oy) sum)
    sum

-- the sum of channel c over the window of the pixel in column x and row y
unfoldable pub sum_at : ConvolveMatrix → List Float → ℕ → ℕ → List ℕ → (x y c : ℕ) → Float
sum_at m kernel w h s x y c = in_order m.rows (row_sum m kernel w h s x y c) c0

-- ---- the bytes
-- the new alpha, of the sum of alphas and the pixel's own alpha
unfoldable pub new_alpha : ConvolveMatrix → Float → ℕ → Float
new_alpha m sum own = cond m.preserve_alpha (normalized own) (sum ⊘ m.divisor ⊕ m.bias)

-- a colour of the new alpha a, before it is bounded
unfoldable pub colour_value : ConvolveMatrix → Float → Float → Float
colour_value m sum a = sum ⊘ m.divisor ⊕ m.bias ⊗ a

-- the new alpha within 0 to 1
abbrev pub bounded : Float → Float
bounded a = bound c0 a c1

-- a colour within the bounded new alpha b; or, where alpha is preserved, within 1 and multiplied by it
unfoldable pub bounded_colour : ConvolveMatrix → Float → Float → Float
bounded_colour m x b = cond m.preserve_alpha (bound c0 x c1 ⊗ b) (bound c0 x b)

-- a half is added before the cut
unfoldable pub to_byte : Float → ℕ
to_byte x = to_unsigned 8 (x ⊗ c255 ⊕ half)

-- a colour and the alpha, of the new alpha a
abbrev pub calc : ConvolveMatrix → Float → Float → Float → ℕ
calc m sum a b = to_byte (bounded_colour m (colour_value m sum a) b)

abbrev pub colour_of : ConvolveMatrix → Float → Float → ℕ
colour_of m sum a = calc m sum a (bounded a)

abbrev pub alpha_of : Float → ℕ
alpha_of a = to_byte (bounded a)

-- channel c by its sum, of the new alpha a
abbrev pub channel_of : ConvolveMatrix → ℕ → Float → Float → ℕ
channel_of m c sum a = cond (eqb c 3) (alpha_of a) (colour_of m sum a)

-- the alpha of byte k's pixel
abbrev pub alpha_at : List ℕ → ℕ → ℕ
alpha_at s k = get_or s (4 * (k / 4) + 3) 0

-- the sum and the new alpha of byte k
abbrev pub sum_of : ConvolveMatrix → List Float → ℕ → ℕ → List ℕ → (k c : ℕ) → Float
sum_of m kernel w h s k c = sum_at m kernel w h s (column w k) (row w k) c

abbrev pub new_alpha_of : ConvolveMatrix → List Float → ℕ → ℕ → List ℕ → ℕ → Float
new_alpha_of m kernel w h s k = new_alpha m (sum_of m kernel w h s k 3) (alpha_at s k)

-- byte k
abbrev pub convolved_at : ConvolveMatrix → List Float → ℕ → ℕ → List ℕ → ℕ → ℕ
convolved_at m kernel w h s k = channel_of m (k % 4) (sum_of m kernel w h s k (k % 4)) (new_alpha_of m kernel w h s k)

unfoldable pub convolved_by : ConvolveMatrix → List Float → ℕ → ℕ → List ℕ → List ℕ
convolved_by m kernel w h s = tabulate (4 * w * h) (convolved_at m kernel w h s)

-- the result
abbrev pub convolved : ConvolveMatrix → List Float → ℕ → ℕ → List ℕ → List ℕ
convolved m pool w h s = convolved_by m (numbers_of m.matrix pool) w h s
