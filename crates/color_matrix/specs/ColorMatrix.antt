-- What the colour matrix answers, and what byte k of its result is.
use Rattle.std.specs.Prelude.{ℕ, ◌+◌, ◌*◌, ◌/◌, ◌%◌, cond, List, [], ◌∷◌, length, get_or, eqb, Float}
use Rattle.std.specs.Float.Ieee.Scale.{finite}
use Rattle.floats.specs.Channel.{normalized, from_normalized}
use Rattle.floats.specs.Unit.{unit_pair}
use Rattle.sheet.specs.Answer.{Answer, Done, refusal, and_then}
use Rattle.sheet.specs.Size.{sheets_answer}
use Rattle.sheet.specs.Tabulate.{tabulate}
use Rattle.pool.specs.declared.Numbers.{Numbers}
use Rattle.pool.specs.Pool.{numbers_answer, numbers_of, range_answer}
use Rattle.color_matrix.specs.declared.ColorMatrix.{ColorMatrix}
use Rattle.color_matrix.specs.declared.ColorMatrix.TheVariants.{Matrix, Saturate, HueRotate, LuminanceToAlpha}
use Rattle.color_matrix.specs.declared.pixel.Components.{Components}
use Rattle.color_matrix.specs.Rows.{row_of, colour_row_of, sum, colour_sum, luminance}
use Rattle.color_matrix.specs.Coefficients.{at_least_zero, saturation, rotation}

-- ---- tests 3, 4 and 5
unfoldable pub twenty_answer : Numbers → List Float → Answer
twenty_answer m pool = cond (eqb m.count 20) (range_answer m pool) (refusal 3)

unfoldable pub saturate_answer : Float → Answer
saturate_answer v = numbers_answer (v ∷ [])

unfoldable pub rotation_answer : Float → Float → Answer
rotation_answer c s = cond (finite c) (cond (finite s) (cond (unit_pair c s) Done (refusal 5)) (refusal 4)) (refusal 4)

abbrev pub matrix_answer : ColorMatrix → List Float → Answer
matrix_answer (Matrix m) pool = twenty_answer m pool
matrix_answer (Saturate v) pool = saturate_answer v
matrix_answer (HueRotate c s) pool = rotation_answer c s
matrix_answer LuminanceToAlpha pool = Done

-- the whole answer, for a sheet
unfoldable pub answer : ColorMatrix → List Float → ℕ → ℕ → List ℕ → Answer
answer m pool w h src = and_then (sheets_answer w h (length src ∷ [])) (matrix_answer m pool)

-- ---- the bytes
-- the components of byte k's pixel
abbrev pub components_at : List ℕ → ℕ → Components
components_at s k = record {
  r = normalized (get_or s (4 * (k / 4)) 0);
  g = normalized (get_or s (4 * (k / 4) + 1) 0);
  b = normalized (get_or s (4 * (k / 4) + 2) 0);
  a = normalized (get_or s (4 * (k / 4) + 3) 0);
}

-- a matrix of four rows and five columns: the value of byte k before it is brought to 0 to 1, and byte k
abbrev pub matrix_value : List Float → List ℕ → ℕ → Float
matrix_value m s k = sum (row_of m (k % 4)) (components_at s k)

abbrev pub matrix_at : List Float → List ℕ → ℕ → ℕ
matrix_at m s k = from_normalized (matrix_value m s k)

unfoldable pub matrixed : List Float → List ℕ → List ℕ
matrixed m s = tabulate (length s) (matrix_at m s)

-- a matrix of the three colours: the value of a colour before it is brought to 0 to 1, and byte k; alpha is kept
abbrev pub colour_value : List Float → List ℕ → ℕ → Float
colour_value m s k = colour_sum (colour_row_of m (k % 4)) (components_at s k)

abbrev pub colour_at : List Float → List ℕ → ℕ → ℕ
colour_at m s k = cond (eqb (k % 4) 3) (get_or s k 0) (from_normalized (colour_value m s k))

unfoldable pub coloured : List Float → List ℕ → List ℕ
coloured m s = tabulate (length s) (colour_at m s)

-- no colour, and the luminance as alpha: alpha's value before it is brought to 0 to 1, and byte k
abbrev pub luminance_value : List ℕ → ℕ → Float
luminance_value s k = colour_sum luminance (components_at s k)

abbrev pub luminance_at : List ℕ → ℕ → ℕ
luminance_at s k = cond (eqb (k % 4) 3) (from_normalized (luminance_value s k)) 0

unfoldable pub luminance_to_alpha : List ℕ → List ℕ
luminance_to_alpha s = tabulate (length s) (luminance_at s)

-- the result
abbrev pub recoloured : ColorMatrix → List Float → List ℕ → List ℕ
recoloured (Matrix m) pool s = matrixed (numbers_of m pool) s
recoloured (Saturate v) pool s = coloured (saturation (at_least_zero v)) s
recoloured (HueRotate c n) pool s = coloured (rotation c n) s
recoloured LuminanceToAlpha pool s = luminance_to_alpha s
