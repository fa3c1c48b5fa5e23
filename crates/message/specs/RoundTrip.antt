-- A recipe that is written is read back, and a message that is read is written back: in their own words, as types. proofs/RoundTrip.antt, InOrder.antt and Calls.antt prove them.
use Rattle.std.specs.Prelude.{ℕ, ◌+◌, ◌*◌, ◌≤◌, ◌<◌, ◌≡◌, not, Result, Ok, List, [], ◌∷◌, ◌++◌, map, length, get_or, take, ℤ, T, Float}
use Rattle.std.proofs.lemmas.List.Edits.{sets}
use Rattle.std.specs.Float.{binary32, binary64}
use Rattle.std.specs.Float.Ieee.{fits, is_nan, of_bits}
use Rattle.std.specs.Int.{w32}
use Rattle.std.proofs.Common.{SFits}
use Rattle.number.specs.Words.{bytes_of}
use Rattle.pool.specs.declared.Numbers.{Numbers}
use Rattle.pool.specs.Pool.{numbers_of}
use Rattle.color_matrix.specs.declared.ColorMatrix.{ColorMatrix as ColorMatrixType}
use Rattle.color_matrix.specs.declared.ColorMatrix.TheVariants as matrix
use Rattle.component_transfer.specs.declared.TransferFunction.{TransferFunction}
use Rattle.component_transfer.specs.declared.TransferFunction.TheVariants as transfer
use Rattle.lighting.specs.declared.light.LightSource.{LightSource}
use Rattle.lighting.specs.declared.light.LightSource.TheVariants.{Distant, Point}
use Rattle.recipe.specs.declared.Work.{Work}
use Rattle.recipe.specs.declared.Work.TheVariants.{Morphology, Arithmetic, ColorMatrix, ComponentTransfer, ConvolveMatrix, DisplacementMap, Turbulence, DiffuseLighting, SpecularLighting}
use Rattle.recipe.specs.declared.Step.{Step}
use Rattle.recipe.specs.declared.Recipe.{Recipe}
use Rattle.recipe.specs.Tests.{step_of, step_limit}
use Rattle.sheet.specs.Contract.{Lent, was, became}
use Rattle.message.specs.declared.MessageError.{MessageError}
use Rattle.message.specs.Steps.{parts_of}
use Rattle.message.specs.Message.{Content, message_bytes, good, read_message}
use Rattle.message.specs.Answers.{done, recipe_of, content_of, ReadExactly, ranges_of, function_ranges, ranges_answer, message_of, write_answer}

-- ---- the same step, with its ranges one after the other from `used` on
-- how many numbers there are in ranges
abbrev pub counted : List Numbers → ℕ
counted [] = 0
counted (r ∷ l) = r.count + counted l

abbrev pub relaid_range : ℕ → Numbers → Numbers
relaid_range used r = record { start = used; count = r.count }

abbrev pub relaid_matrix : ℕ → ColorMatrixType → ColorMatrixType
relaid_matrix used (matrix.Matrix r) = matrix.Matrix (relaid_range used r)
relaid_matrix used (matrix.Saturate v) = matrix.Saturate v
relaid_matrix used (matrix.HueRotate cosine sine) = matrix.HueRotate cosine sine
relaid_matrix used matrix.LuminanceToAlpha = matrix.LuminanceToAlpha

abbrev pub relaid_function : ℕ → TransferFunction → TransferFunction
relaid_function used transfer.Identity = transfer.Identity
relaid_function used (transfer.Table r) = transfer.Table (relaid_range used r)
relaid_function used (transfer.Discrete r) = transfer.Discrete (relaid_range used r)
relaid_function used (transfer.Linear slope intercept) = transfer.Linear slope intercept

-- the place after a function's numbers
abbrev pub past_function : ℕ → TransferFunction → ℕ
past_function used f = used + counted (function_ranges f)

abbrev pub relaid_work : ℕ → Work → Work
relaid_work used (Morphology a op rx ry) = Morphology a op rx ry
relaid_work used (Arithmetic a b k1 k2 k3 k4) = Arithmetic a b k1 k2 k3 k4
relaid_work used (ColorMatrix a m) = ColorMatrix a (relaid_matrix used m)
relaid_work used (ComponentTransfer s r g b a) =
    ComponentTransfer s (relaid_function used r) (relaid_function (past_function used r) g) (relaid_function (past_function (past_function used r) g) b)
    (relaid_function (past_function (past_function (past_function used r) g) b) a)
relaid_work used (ConvolveMatrix a m) = ConvolveMatrix a (record {
  columns = m.columns;
  rows = m.rows;
  target_x = m.target_x;
  target_y = m.target_y;
  matrix = relaid_range used m.matrix;
  divisor = m.divisor;
  bias = m.bias;
  edge_mode = m.edge_mode;
  preserve_alpha = m.preserve_alpha;
})
relaid_work used (DisplacementMap a b xs ys sx sy scale) = DisplacementMap a b xs ys sx sy scale
relaid_work used (Turbulence t) = Turbulence t
relaid_work used (DiffuseLighting a light scale constant color) = DiffuseLighting a light scale constant color
relaid_work used (SpecularLighting a light scale constant exponent color) = SpecularLighting a light scale constant exponent color

abbrev pub relaid : ℕ → Step → Step
relaid used s = record { work = relaid_work used s.work; output = s.output }

-- the steps with all their ranges end to end from `used` on
unfoldable pub end_to_end_from : ℕ → List Step → List Step
end_to_end_from used [] = []
end_to_end_from used (s ∷ l) = relaid used s ∷ end_to_end_from (used + counted (ranges_of s.work)) l

-- ---- the numbers of a step's ranges, and of all steps' ranges, one after the other
unfoldable pub numbers_in : List Float → List Numbers → List Float
numbers_in pool [] = []
numbers_in pool (r ∷ l) = numbers_of r pool ++ numbers_in pool l

unfoldable pub numbers_of_all : List Float → List Step → List Float
numbers_of_all pool [] = []
numbers_of_all pool (s ∷ l) = numbers_in pool (ranges_of s.work) ++ numbers_of_all pool l

-- the ranges stand end to end from `used` on
abbrev pub InOrder : ℕ → List Numbers → Type 0
InOrder used [] = Unit
InOrder used (r ∷ l) = (r.start ≡ used) × InOrder (used + r.count) l

abbrev pub AllInOrder : ℕ → List Step → Type 0
AllInOrder used [] = Unit
AllInOrder used (s ∷ l) = InOrder used (ranges_of s.work) × AllInOrder (used + counted (ranges_of s.work)) l

-- ---- what is said of each value of a step: a u32, a u8, an f32, an f64, an i32
pub record Says : Type 1 where
  pub number : ℕ → Type 0
  pub byte : ℕ → Type 0
  pub float : Float → Type 0
  pub double : Float → Type 0
  pub seed : ℤ → Type 0

abbrev pub EachOf : {A : Type 0} → (A → Type 0) → List A → Type 0
EachOf P [] = Unit
EachOf P (x ∷ l) = P x × EachOf P l

module _ (P : Says) where
  abbrev pub EachMatrix : ColorMatrixType → Type 0
  EachMatrix (matrix.Matrix r) = P.number r.count
  EachMatrix (matrix.Saturate v) = P.float v
  EachMatrix (matrix.HueRotate cosine sine) = P.float cosine × P.float sine
  EachMatrix matrix.LuminanceToAlpha = Unit

  abbrev pub EachFunction : TransferFunction → Type 0
  EachFunction transfer.Identity = Unit
  EachFunction (transfer.Table r) = P.number r.count
  EachFunction (transfer.Discrete r) = P.number r.count
  EachFunction (transfer.Linear slope intercept) = P.float slope × P.float intercept

  abbrev pub EachLight : LightSource → Type 0
  EachLight (Distant x y z) = P.float x × P.float y × P.float z
  EachLight (Point x y z) = P.float x × P.float y × P.float z

  abbrev pub EachWork : Work → Type 0
  EachWork (Morphology a op rx ry) = P.number a × P.float rx × P.float ry
  EachWork (Arithmetic a b k1 k2 k3 k4) = P.number a × P.number b × P.float k1 × P.float k2 × P.float k3 × P.float k4
  EachWork (ColorMatrix a m) = P.number a × EachMatrix m
  EachWork (ComponentTransfer s r g b a) = P.number s × EachFunction r × EachFunction g × EachFunction b × EachFunction a
  EachWork (ConvolveMatrix a m) =
      P.number a × P.number m.columns × P.number m.rows × P.number m.target_x × P.number m.target_y
      × P.number m.matrix.count × P.float m.divisor × P.float m.bias
  EachWork (DisplacementMap a b xs ys sx sy scale) = P.number a × P.number b × P.float sx × P.float sy × P.float scale
  EachWork (Turbulence t) =
      P.double t.offset_x × P.double t.offset_y × P.double t.sx × P.double t.sy
      × P.double t.base_frequency_x × P.double t.base_frequency_y × P.number t.num_octaves × P.seed t.seed
  EachWork (DiffuseLighting a light scale constant color) =
      P.number a × P.float scale × P.float constant × P.byte color.red × P.byte color.green × P.byte color.blue × EachLight light
  EachWork (SpecularLighting a light scale constant exponent color) =
      P.number a × P.float scale × P.float constant × P.float exponent × P.byte color.red × P.byte color.green × P.byte color.blue
      × EachLight light

  abbrev pub EachStep : Step → Type 0
  EachStep s = P.number s.output × EachWork s.work

-- every value is one of its type, as every value of the code is
abbrev pub typed : Says
typed = record {
  number = λ n. n < 4294967296;
  byte = λ n. n < 256;
  float = λ x. T (fits binary32 x);
  double = λ x. T (fits binary64 x);
  seed = λ z. SFits w32 z;
}

-- no float is a NaN
abbrev pub no_nan : Says
no_nan = record {
  number = λ n. Unit;
  byte = λ n. Unit;
  float = λ x. T (not (is_nan x));
  double = λ x. T (not (is_nan x));
  seed = λ z. Unit;
}

abbrev pub FreeOfNan : Content → Type 0
FreeOfNan c = EachOf (EachStep no_nan) c.steps × EachOf no_nan.float c.numbers

abbrev pub Bytes : List ℕ → Type 0
Bytes s = (i : ℕ) → get_or s i 0 < 256

-- ---- 1. What is written is read back
abbrev pub steps_in : Recipe → List Step
steps_in r = take r.count r.steps

-- a recipe and a pool that the writer takes; a range names no number from 2^32 - 1 on, so there are at most so many in all
pub record Takes (r : Recipe) (pool : List Float) : Type 0 where
  pub steps_typed : EachOf (EachStep typed) (steps_in r)
  pub pool_typed : EachOf typed.float pool
  pub few_steps : r.count ≤ step_limit
  pub in_pool : ranges_answer (step_of r) (length pool) r.count ≡ done
  pub few_numbers : length (numbers_of_all pool (steps_in r)) ≤ 4294967295

-- the same steps and the same numbers, the ranges end to end from the pool's start
abbrev pub ReadsBack : Type 0
ReadsBack =
    (r : Recipe) (pool : List Float) → Takes r pool
    → read_message (message_of r pool) ≡ good (record { steps = end_to_end_from 0 (steps_in r); numbers = numbers_of_all pool (steps_in r) })

-- steps whose ranges stand end to end already are the same
abbrev pub InOrderIsTheSame : Type 0
InOrderIsTheSame = (l : List Step) (used : ℕ) → AllInOrder used l → end_to_end_from used l ≡ l

-- ---- 2. What is read is written back
-- a message and what it holds, at most as many numbers as ranges can name: `read` refuses one of more by 11
pub record Holds (s : List ℕ) (c : Content) : Type 0 where
  pub bytes : Bytes s
  pub reads : read_message s ≡ good c
  pub few_numbers : length c.numbers ≤ 4294967295

-- the message of the steps, with the numbers at the start of the pool
abbrev pub written_again : Content → List Float → List ℕ
written_again c rest = message_bytes (map (parts_of (c.numbers ++ rest)) c.steps)

-- byte for byte, where no float is a NaN
abbrev pub ComesBack : Type 0
ComesBack = (s : List ℕ) (c : Content) (rest : List Float) → Holds s c → FreeOfNan c → written_again c rest ≡ s

-- with any NaN too the message that is written again holds the same
abbrev pub HoldsTheSame : Type 0
HoldsTheSame = (s : List ℕ) (c : Content) (rest : List Float) → Holds s c → read_message (written_again c rest) ≡ good c

-- the numbers are equal, but that the second have 7fc00000 and 7ff8000000000000 for every pattern of a NaN
pub data EqualButNan : List ℕ → List ℕ → Type 0 where
  no_more : EqualButNan [] []
  equal : {n : ℕ} {l m : List ℕ} → EqualButNan l m → EqualButNan (n ∷ l) (n ∷ m)
  nan_32 : {n : ℕ} {l m : List ℕ} → T (is_nan (of_bits binary32 n)) → EqualButNan l m → EqualButNan (n ∷ l) (0x7fc00000 ∷ m)
  nan_64 : {a b : ℕ} {l m : List ℕ} → T (is_nan (of_bits binary64 (a + 4294967296 * b))) → EqualButNan l m → EqualButNan (a ∷ b ∷ l) (0 ∷ 0x7ff80000 ∷ m)

pub record SameButNan (s s' : List ℕ) : Type 0 where
  pub numbers : List ℕ
  pub numbers' : List ℕ
  pub first : s ≡ bytes_of numbers
  pub second : s' ≡ bytes_of numbers'
  pub same : EqualButNan numbers numbers'

-- and the message that is written again is the same but for these patterns
abbrev pub ComesBackButNan : Type 0
ComesBackButNan = (s : List ℕ) (c : Content) (rest : List Float) → Holds s c → SameButNan s (written_again c rest)

-- ---- 3. There is one message for what it holds, NaN aside
abbrev pub OneMessage : Type 0
OneMessage = (s s' : List ℕ) (c : Content) → Holds s c → Holds s' c → FreeOfNan c → s ≡ s'

-- ---- 4. The same of `read` and `write`, by their contracts
-- what `write` makes of a recipe, `read` reads back, with room enough
abbrev pub WrittenIsRead : Type 0
WrittenIsRead =
    (r : Recipe) (pool : List Float) (lent : Lent Float) (x : Result Recipe MessageError) → Takes r pool → ReadExactly (message_of r pool) lent x
    → length (numbers_of_all pool (steps_in r)) ≤ length (was lent)
    → (x ≡ Ok (recipe_of (end_to_end_from 0 (steps_in r)))) × (became lent ≡ sets (was lent) 0 (numbers_of_all pool (steps_in r)))

-- what `read` does not refuse, `write` writes again of the recipe and the pool, byte for byte where no float is a NaN, and with room for as many bytes refuses nothing
abbrev pub ReadIsWritten : Type 0
ReadIsWritten =
    (s : List ℕ) (lent : Lent Float) (x : Result Recipe MessageError) (r : Recipe) → Bytes s → ReadExactly s lent x → x ≡ Ok r → FreeOfNan (content_of (read_message s))
    → (message_of r (became lent) ≡ s) × (write_answer r (became lent) (length s) ≡ done)
