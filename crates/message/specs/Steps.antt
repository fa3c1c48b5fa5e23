-- The steps of a message: for each code a row of fields, the step that their values make, and the values of a step.
use Rattle.std.specs.Prelude.{ℕ, zero, suc, ◌+◌, min, Bool, false, cond, List, [], ◌∷◌, length, get_or, ℤ, eqb, ltb, Float}
use Rattle.std.specs.Float.{nan}
use Rattle.pool.specs.declared.Numbers.{Numbers}
use Rattle.pool.specs.Pool.{numbers_of}
use Rattle.morphology.specs.declared.operator.MorphologyOperator.{MorphologyOperator}
use Rattle.morphology.specs.declared.operator.MorphologyOperator.TheVariants.{Dilate, Erode}
use Rattle.morphology.specs.Numbered.{operator_number}
use Rattle.color_matrix.specs.declared.ColorMatrix.{ColorMatrix as ColorMatrixType}
use Rattle.color_matrix.specs.declared.ColorMatrix.TheVariants as matrix
use Rattle.component_transfer.specs.declared.TransferFunction.{TransferFunction}
use Rattle.component_transfer.specs.declared.TransferFunction.TheVariants as transfer
use Rattle.convolve_matrix.specs.declared.edge.EdgeMode.{EdgeMode}
use Rattle.convolve_matrix.specs.declared.edge.EdgeMode.TheVariants as edge
use Rattle.convolve_matrix.specs.Numbered.{edge_mode_number}
use Rattle.displacement_map.specs.declared.ColorChannel.{ColorChannel}
use Rattle.displacement_map.specs.declared.ColorChannel.TheVariants.{R, G, B, A}
use Rattle.displacement_map.specs.DisplacementMap.{channel_number}
use Rattle.lighting.specs.declared.light.LightSource.{LightSource}
use Rattle.lighting.specs.declared.light.LightSource.TheVariants.{Distant, Point}
use Rattle.recipe.specs.declared.Work.{Work}
use Rattle.recipe.specs.declared.Work.TheVariants.{Morphology, Arithmetic, ColorMatrix, ComponentTransfer, ConvolveMatrix, DisplacementMap, Turbulence, DiffuseLighting, SpecularLighting}
use Rattle.recipe.specs.declared.Step.{Step}
use Rattle.number.specs.Words.{Words, Got, got, wrong, and_then, next}
use Rattle.message.specs.Fields.{Shape, none, one, two, list, Payload, shape_of, Field, number, up_to, float, double, seed, numbers, choice, Value, Values, Of, apply, write, read, pooled_by, pooled}

-- ---- what a code names
abbrev pub operator_by : ℕ → MorphologyOperator
operator_by k = cond (eqb k 0) Dilate Erode

abbrev pub edge_by : ℕ → EdgeMode
edge_by k = cond (eqb k 0) edge.None (cond (eqb k 1) edge.Duplicate edge.Wrap)

abbrev pub channel_by : ℕ → ColorChannel
channel_by k = cond (eqb k 0) R (cond (eqb k 1) G (cond (eqb k 2) B A))

abbrev pub light_by : ℕ → Float → Float → Float → LightSource
light_by k x y z = cond (eqb k 0) (Distant x y z) (Point x y z)

-- no is 0, yes is 1
abbrev pub yes_code : Bool → ℕ
yes_code b = cond b 1 0

-- ---- numbers in the pool, which stand there from `used` on; a range names no number from 2^32 - 1 on
abbrev pub range : ℕ → List Float → Numbers
range used l = record { start = min used 4294967295; count = length l }

-- a colour matrix: matrix, saturate, hue rotate, luminance to alpha
abbrev pub matrix_shapes : List Shape
matrix_shapes = list ∷ one ∷ two ∷ none ∷ []

abbrev pub matrix_at : ℕ → (k : ℕ) → Payload (shape_of matrix_shapes k) → ColorMatrixType
matrix_at used zero l = matrix.Matrix (range used l)
matrix_at used (suc zero) v = matrix.Saturate v
matrix_at used (suc (suc zero)) v = matrix.HueRotate v.0 v.1
matrix_at used (suc (suc (suc k))) v = matrix.LuminanceToAlpha

abbrev pub matrix_in : List Float → ColorMatrixType → Value (choice matrix_shapes)
matrix_in pool (matrix.Matrix r) = (0, numbers_of r pool)
matrix_in pool (matrix.Saturate v) = (1, v)
matrix_in pool (matrix.HueRotate cosine sine) = (2, (cosine, sine))
matrix_in pool matrix.LuminanceToAlpha = (3, tt)

-- a transfer function: identity, table, discrete, linear
abbrev pub function_shapes : List Shape
function_shapes = none ∷ list ∷ list ∷ two ∷ []

abbrev pub function_at : ℕ → (k : ℕ) → Payload (shape_of function_shapes k) → TransferFunction
function_at used zero v = transfer.Identity
function_at used (suc zero) l = transfer.Table (range used l)
function_at used (suc (suc zero)) l = transfer.Discrete (range used l)
function_at used (suc (suc (suc zero))) v = transfer.Linear v.0 v.1
function_at used (suc (suc (suc (suc k)))) v = transfer.Identity

abbrev pub function_in : List Float → TransferFunction → Value (choice function_shapes)
function_in pool transfer.Identity = (0, tt)
function_in pool (transfer.Table r) = (1, numbers_of r pool)
function_in pool (transfer.Discrete r) = (2, numbers_of r pool)
function_in pool (transfer.Linear slope intercept) = (3, (slope, intercept))

-- ---- steps
abbrev pub step : Work → ℕ → Step
step w o = record { work = w; output = o }

abbrev pub colour : Field
colour = choice matrix_shapes

abbrev pub function : Field
function = choice function_shapes

-- the place after a function's numbers
abbrev pub past : ℕ → Value function → ℕ
past used f = used + length (pooled_by function f)

abbrev pub function_of : ℕ → Value function → TransferFunction
function_of used f = function_at used f.0 f.1

-- the four functions' numbers stand one after the other
abbrev pub transferred : ℕ → ℕ → (r g b a : Value function) → Work
transferred used s r g b a =
    ComponentTransfer s (function_of used r) (function_of (past used r) g) (function_of (past (past used r) g) b)
    (function_of (past (past (past used r) g) b) a)

abbrev pub convolved : ℕ → ℕ → (columns rows x y : ℕ) → List Float → Float → Float → (mode preserve : ℕ) → Work
convolved used a columns rows x y l divisor bias mode preserve = ConvolveMatrix a (record {
  columns = columns;
  rows = rows;
  target_x = x;
  target_y = y;
  matrix = range used l;
  divisor = divisor;
  bias = bias;
  edge_mode = edge_by mode;
  preserve_alpha = eqb preserve 1;
})

abbrev pub drawn : (ox oy sx sy fx fy : Float) → ℕ → ℤ → ℕ → Work
drawn ox oy sx sy fx fy octaves s kind = Turbulence (record {
  offset_x = ox;
  offset_y = oy;
  sx = sx;
  sy = sy;
  base_frequency_x = fx;
  base_frequency_y = fy;
  num_octaves = octaves;
  seed = s;
  fractal_noise = eqb kind 1;
})

abbrev slot : Field
slot = number

abbrev byte : Field
byte = up_to 255

-- a step's fields, and the step of their values, whose numbers stand in the pool from `used` on
pub record Form : Type 0 where
  pub row : List Field
  pub made : ℕ → Of row Step

-- by code, from 1 on: inputs, output, parameters
abbrev pub forms : List Form
forms =
    record {
      row = slot ∷ slot ∷ up_to 1 ∷ float ∷ float ∷ [];
      made = λ used a o op rx ry. step (Morphology a (operator_by op) rx ry) o;
    }
    ∷ record {
      row = slot ∷ slot ∷ colour ∷ [];
      made = λ used a o m. step (ColorMatrix a (matrix_at used m.0 m.1)) o;
    }
    ∷ record {
      row = slot ∷ slot ∷ function ∷ function ∷ function ∷ function ∷ [];
      made = λ used s o r g b a. step (transferred used s r g b a) o;
    }
    ∷ record {
      row = slot ∷ slot ∷ slot ∷ float ∷ float ∷ float ∷ float ∷ [];
      made = λ used a b o k1 k2 k3 k4. step (Arithmetic a b k1 k2 k3 k4) o;
    }
    ∷ record {
      row = slot ∷ slot ∷ number ∷ number ∷ number ∷ number ∷ numbers ∷ float ∷ float ∷ up_to 2 ∷ up_to 1 ∷ [];
      made = λ used a o columns rows x y l divisor bias mode preserve. step (convolved used a columns rows x y l divisor bias mode preserve) o;
    }
    ∷ record {
      row = slot ∷ slot ∷ slot ∷ up_to 3 ∷ up_to 3 ∷ float ∷ float ∷ float ∷ [];
      made = λ used a b o xs ys sx sy scale. step (DisplacementMap a b (channel_by xs) (channel_by ys) sx sy scale) o;
    }
    ∷ record {
      row = slot ∷ double ∷ double ∷ double ∷ double ∷ double ∷ double ∷ number ∷ seed ∷ up_to 1 ∷ [];
      made = λ used o ox oy sx sy fx fy octaves s kind. step (drawn ox oy sx sy fx fy octaves s kind) o;
    }
    ∷ record {
      row = slot ∷ slot ∷ float ∷ float ∷ byte ∷ byte ∷ byte ∷ up_to 1 ∷ float ∷ float ∷ float ∷ [];
      made = λ used a o scale constant red green blue light x y z. step (DiffuseLighting a (light_by light x y z) scale constant (record { red = red; green = green; blue = blue })) o;
    }
    ∷ record {
      row = slot ∷ slot ∷ float ∷ float ∷ float ∷ byte ∷ byte ∷ byte ∷ up_to 1 ∷ float ∷ float ∷ float ∷ [];
      made = λ used a o scale constant exponent red green blue light x y z. step (SpecularLighting a (light_by light x y z) scale constant exponent (record { red = red; green = green; blue = blue })) o;
    }
    ∷ []

abbrev pub no_form : Form
no_form = record { row = []; made = λ used. step (Morphology 0 Dilate nan nan) 0 }

abbrev pub is_code : ℕ → Bool
is_code zero = false
is_code (suc i) = ltb i (length forms)

abbrev pub form_of : ℕ → Form
form_of zero = no_form
form_of (suc i) = get_or forms i no_form

-- ---- the values of a step
pub record Parts : Type 0 where
  pub code : ℕ
  pub values : Values (form_of code).row

abbrev pub light_parts : LightSource → Values (up_to 1 ∷ float ∷ float ∷ float ∷ [])
light_parts (Distant x y z) = (0, (x, (y, (z, tt))))
light_parts (Point x y z) = (1, (x, (y, (z, tt))))

abbrev pub parts : List Float → Work → ℕ → Parts
parts pool (Morphology a op rx ry) o = record { code = 1; values = (a, (o, (operator_number op, (rx, (ry, tt))))) }
parts pool (ColorMatrix a m) o = record { code = 2; values = (a, (o, (matrix_in pool m, tt))) }
parts pool (ComponentTransfer s r g b a) o = record {
  code = 3;
  values = (s, (o, (function_in pool r, (function_in pool g, (function_in pool b, (function_in pool a, tt))))));
}
parts pool (Arithmetic a b k1 k2 k3 k4) o = record { code = 4; values = (a, (b, (o, (k1, (k2, (k3, (k4, tt))))))) }
parts pool (ConvolveMatrix a m) o = record {
  code = 5;
  values = (a, (o, (m.columns, (m.rows, (m.target_x, (m.target_y, (numbers_of m.matrix pool, (m.divisor, (m.bias, (edge_mode_number m.edge_mode, (yes_code m.preserve_alpha, tt)))))))))));
}
parts pool (DisplacementMap a b xs ys sx sy scale) o = record {
  code = 6;
  values = (a, (b, (o, (channel_number xs, (channel_number ys, (sx, (sy, (scale, tt))))))));
}
parts pool (Turbulence t) o = record {
  code = 7;
  values = (o, (t.offset_x, (t.offset_y, (t.sx, (t.sy, (t.base_frequency_x, (t.base_frequency_y, (t.num_octaves, (t.seed, (yes_code t.fractal_noise, tt))))))))));
}
parts pool (DiffuseLighting a light scale constant color) o = record {
  code = 8;
  values = (a, (o, (scale, (constant, (color.red, (color.green, (color.blue, light_parts light)))))));
}
parts pool (SpecularLighting a light scale constant exponent color) o = record {
  code = 9;
  values = (a, (o, (scale, (constant, (exponent, (color.red, (color.green, (color.blue, light_parts light))))))));
}

abbrev pub parts_of : List Float → Step → Parts
parts_of pool s = parts pool s.work s.output

-- ---- writing and reading
-- a code and its fields
unfoldable pub words_of : Parts → List ℕ
words_of q = q.code ∷ write (form_of q.code).row q.values

abbrev pub pooled_of : Parts → List Float
pooled_of q = pooled (form_of q.code).row q.values

abbrev pub made_of : ℕ → Parts → Step
made_of used q = apply (form_of q.code).row ((form_of q.code).made used) q.values

-- a step, and its numbers for the pool
pub record Read : Type 0 where
  pub read_step_lem : Step
  pub read_numbers_lem : List Float

abbrev pub read_of : ℕ → (f : Form) → Values f.row → Read
read_of used f v = record { read_step_lem = apply f.row (f.made used) v; read_numbers_lem = pooled f.row v }

unfoldable pub read_form : ℕ → Form → Words → Got Read
read_form used f ws = and_then (read f.row ws) (λ v rest. got (read_of used f v) rest)

unfoldable pub read_step : ℕ → Words → Got Read
read_step used ws = next ws (λ p c rest. cond (is_code c) (read_form used (form_of c) rest) (wrong p))
