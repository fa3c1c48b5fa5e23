-- What a reading and a writing are answered, and what they leave.
use Rattle.std.specs.Prelude.{ℕ, zero, suc, min, ◌≡◌, Bool, true, false, cond, Result, Ok, Err, List, [], ◌∷◌, ◌++◌, map, length, take, replicate, ltb, Float}
use Rattle.std.proofs.lemmas.List.Edits.{sets}
use Rattle.floats.specs.Constants.{c0}
use Rattle.morphology.specs.declared.operator.MorphologyOperator.TheVariants.{Dilate}
use Rattle.recipe.specs.declared.Work.{Work}
use Rattle.recipe.specs.declared.Work.TheVariants.{Morphology, Arithmetic, ColorMatrix, ComponentTransfer, ConvolveMatrix, DisplacementMap, Turbulence, DiffuseLighting, SpecularLighting}
use Rattle.recipe.specs.declared.Step.{Step}
use Rattle.recipe.specs.declared.Recipe.{Recipe}
use Rattle.recipe.specs.Tests.{step_of, step_limit}
use Rattle.pool.specs.declared.Numbers.{Numbers}
use Rattle.pool.specs.Pool.{is_in}
use Rattle.color_matrix.specs.declared.ColorMatrix.{ColorMatrix as ColorMatrixType}
use Rattle.color_matrix.specs.declared.ColorMatrix.TheVariants as matrix
use Rattle.component_transfer.specs.declared.TransferFunction.{TransferFunction}
use Rattle.component_transfer.specs.declared.TransferFunction.TheVariants as transfer
use Rattle.sheet.specs.Contract.{Lent, was, became}
use Rattle.message.specs.declared.MessageError.{MessageError}
use Rattle.message.specs.declared.MessageError.TheVariants.{Shape, Steps, Malformed, Room}
use Rattle.message.specs.Steps.{parts_of}
use Rattle.message.specs.Message.{Content, empty, Outcome, good, bad, read_message, message_bytes}

-- the numbers of docs/LAW.md
abbrev pub number : MessageError → ℕ
number (Shape i) = 3
number Steps = 6
number (Malformed p) = 10
number Room = 11

-- the step that a refusal is about
abbrev pub step_index : MessageError → ℕ
step_index (Shape i) = i
step_index Steps = 0
step_index (Malformed p) = 0
step_index Room = 0

-- where the wrong number begins
abbrev pub offset : MessageError → ℕ
offset (Shape i) = 0
offset Steps = 0
offset (Malformed p) = p
offset Room = 0

-- nothing is refused
abbrev pub done : Result Unit MessageError
done = Ok tt

-- where nothing is refused the first, at any refusal the second
abbrev pub on_done : {A : Type 0} → Result Unit MessageError → A → A → A
on_done (Ok u) a b = a
on_done (Err e) a b = b

-- a value where nothing is refused, else the refusal
abbrev pub given : {A : Type 0} → Result Unit MessageError → A → Result A MessageError
given (Ok u) a = Ok a
given (Err e) a = Err e

-- what stands where no step is
abbrev pub blank : Step
blank = record { work = Morphology 0 Dilate c0 c0; output = 0 }

-- the recipe of at most sixteen steps
abbrev pub recipe_of : List Step → Recipe
recipe_of l = record { steps = sets (replicate 16 blank) 0 l; count = length l }

-- ---- reading
-- what the message holds
abbrev pub content_of : Outcome → Content
content_of (good c) = c
content_of (bad p) = empty

-- the numbers that a pool has room for: a range names none from 2^32 - 1 on
abbrev pub room_of : List Float → ℕ
room_of pool = min (length pool) 4294967295

-- 10, then 6 over 16 steps, then 11
unfoldable pub read_answer : Outcome → ℕ → Result Unit MessageError
read_answer (bad p) room = Err (Malformed p)
read_answer (good c) room = cond (ltb step_limit (length c.steps)) (Err Steps) (cond (ltb room (length c.numbers)) (Err Room) done)

abbrev pub reading_answer : List ℕ → List Float → Result Unit MessageError
reading_answer s pool = read_answer (read_message s) (room_of pool)

-- the contract of `read`: the recipe or the refusal, and the pool
pub record ReadExactly (s : List ℕ) (pool : Lent Float) (r : Result Recipe MessageError) : Type 0 where
  pub answered : r ≡ given (reading_answer s (was pool)) (recipe_of (content_of (read_message s)).steps)
  pub numbers : became pool ≡ on_done (reading_answer s (was pool)) (sets (was pool) 0 (content_of (read_message s)).numbers) (was pool)

-- ---- writing
-- the ranges of a step's work
abbrev pub matrix_ranges : ColorMatrixType → List Numbers
matrix_ranges (matrix.Matrix r) = r ∷ []
matrix_ranges (matrix.Saturate v) = []
matrix_ranges (matrix.HueRotate cosine sine) = []
matrix_ranges matrix.LuminanceToAlpha = []

abbrev pub function_ranges : TransferFunction → List Numbers
function_ranges transfer.Identity = []
function_ranges (transfer.Table r) = r ∷ []
function_ranges (transfer.Discrete r) = r ∷ []
function_ranges (transfer.Linear slope intercept) = []

abbrev pub ranges_of : Work → List Numbers
ranges_of (Morphology a op rx ry) = []
ranges_of (Arithmetic a b k1 k2 k3 k4) = []
ranges_of (ColorMatrix a m) = matrix_ranges m
ranges_of (ComponentTransfer s r g b a) = function_ranges r ++ function_ranges g ++ function_ranges b ++ function_ranges a
ranges_of (ConvolveMatrix a m) = m.matrix ∷ []
ranges_of (DisplacementMap a b xs ys sx sy scale) = []
ranges_of (Turbulence t) = []
ranges_of (DiffuseLighting a light scale constant color) = []
ranges_of (SpecularLighting a light scale constant exponent color) = []

-- all ranges lie in a pool of n numbers
unfoldable pub all_in_lem : List Numbers → ℕ → Bool
all_in_lem [] n = true
all_in_lem (r ∷ l) n = cond (is_in r n) (all_in_lem l n) false

-- two tests in order: the first refusal stands
abbrev pub and_then : Result Unit MessageError → Result Unit MessageError → Result Unit MessageError
and_then p q = on_done p q p

-- 3 at the first of the first n steps with a range outside the pool
unfoldable pub ranges_answer : (ℕ → Step) → ℕ → ℕ → Result Unit MessageError
ranges_answer f pool zero = done
ranges_answer f pool (suc n) = and_then (ranges_answer f pool n) (cond (all_in_lem (ranges_of (f n).work) pool) done (Err (Shape n)))

-- the bytes of a recipe of at most sixteen steps, whose ranges lie in the pool
unfoldable pub message_of : Recipe → List Float → List ℕ
message_of r pool = message_bytes (map (parts_of pool) (take r.count r.steps))

-- 6 over 16 steps, then 3, then 11
unfoldable pub write_answer : Recipe → List Float → ℕ → Result Unit MessageError
write_answer r pool room =
    cond (ltb step_limit r.count) (Err Steps)
    (and_then (ranges_answer (step_of r) (length pool) r.count) (cond (ltb room (length (message_of r pool))) (Err Room) done))

abbrev pub writing_answer : Recipe → List Float → List ℕ → Result Unit MessageError
writing_answer r pool out = write_answer r pool (length out)

-- the contract of `write`: how many bytes there are or the refusal, and the bytes
pub record WrittenExactly (recipe : Recipe) (pool : List Float) (out : Lent ℕ) (r : Result ℕ MessageError) : Type 0 where
  pub answered : r ≡ given (writing_answer recipe pool (was out)) (length (message_of recipe pool))
  pub bytes : became out ≡ on_done (writing_answer recipe pool (was out)) (sets (was out) 0 (message_of recipe pool)) (was out)
