-- What the component transfer answers, and what byte k of its result is.
use Rattle.std.specs.Prelude.{ℕ, zero, suc, ◌%◌, Bool, true, false, cond, List, [], ◌∷◌, length, get_or, leb, eqb, Float}
use Rattle.floats.specs.Channel.{normalized, from_normalized}
use Rattle.sheet.specs.Answer.{Answer, Done, number, refusal, on_done, and_then}
use Rattle.sheet.specs.Size.{sheets_answer}
use Rattle.sheet.specs.Tabulate.{tabulate}
use Rattle.pool.specs.declared.Numbers.{Numbers}
use Rattle.pool.specs.Pool.{numbers_answer, numbers_of, range_answer}
use Rattle.component_transfer.specs.declared.Channel.{Channel}
use Rattle.component_transfer.specs.declared.TransferFunction.{TransferFunction}
use Rattle.component_transfer.specs.declared.TransferFunction.TheVariants.{Identity, Table, Discrete, Linear}
use Rattle.component_transfer.specs.Functions as Functions

-- ---- tests 3, 4 and 5
-- of a table's entries
unfoldable pub entries_answer : Numbers → List Float → Answer
entries_answer m pool = cond (leb m.count 256) (range_answer m pool) (refusal 3)

-- of a slope and an intercept
unfoldable pub linear_answer : Float → Float → Answer
linear_answer slope intercept = numbers_answer (slope ∷ intercept ∷ [])

-- of one channel's function
abbrev pub function_answer : TransferFunction → List Float → Answer
function_answer Identity pool = Done
function_answer (Table m) pool = entries_answer m pool
function_answer (Discrete m) pool = entries_answer m pool
function_answer (Linear slope intercept) pool = linear_answer slope intercept

-- a test is made of both before the next one: of two refusals the lower number stands
unfoldable pub together : Answer → Answer → Answer
together p q = on_done p q (on_done q p (cond (leb (number p) (number q)) p q))

-- of what red, green, blue and alpha answer
unfoldable pub functions_answer : (r g b a : Answer) → Answer
functions_answer r g b a = together (together r g) (together b a)

-- of the four channels' functions, whose numbers stand in one pool
abbrev pub channels_answer : (r g b a : TransferFunction) → List Float → Answer
channels_answer r g b a pool = functions_answer (function_answer r pool) (function_answer g pool) (function_answer b pool) (function_answer a pool)

-- the whole answer, for a sheet
unfoldable pub answer : (r g b a : Answer) → ℕ → ℕ → List ℕ → Answer
answer r g b a w h src = and_then (sheets_answer w h (length src ∷ [])) (functions_answer r g b a)

-- ---- the bytes
-- resvg's `is_dummy`
abbrev pub is_dummy : TransferFunction → Bool
is_dummy Identity = true
is_dummy (Table m) = eqb m.count 0
is_dummy (Discrete m) = eqb m.count 0
is_dummy (Linear slope intercept) = false

-- what a channel's byte becomes, before it is brought to 0 to 1
abbrev pub transfer_value : TransferFunction → List Float → ℕ → Float
transfer_value Identity pool c = normalized c
transfer_value (Table m) pool c = Functions.table (numbers_of m pool) c
transfer_value (Discrete m) pool c = Functions.discrete (numbers_of m pool) c
transfer_value (Linear slope intercept) pool c = Functions.linear slope intercept c

-- resvg's `transfer` of a channel's byte, which a dummy function leaves alone
unfoldable pub transfer : TransferFunction → List Float → ℕ → ℕ
transfer f pool c = cond (is_dummy f) c (from_normalized (transfer_value f pool c))

-- what belongs to channel c, of what belongs to red, green, blue and alpha
abbrev pub of_channel : {A : Type 0} (r g b a : A) → ℕ → A
of_channel r g b a zero = r
of_channel r g b a (suc zero) = g
of_channel r g b a (suc (suc zero)) = b
of_channel r g b a (suc (suc (suc c))) = a

-- byte k is its channel's function of byte k
abbrev pub transfer_at : (r g b a : ℕ → ℕ) → List ℕ → ℕ → ℕ
transfer_at r g b a s k = of_channel r g b a (k % 4) (get_or s k 0)

-- the result, where r, g, b and a are what becomes of a byte of each channel
unfoldable pub transferred : (r g b a : ℕ → ℕ) → List ℕ → List ℕ
transferred r g b a s = tabulate (length s) (transfer_at r g b a s)

-- ---- of a channel's function beside its pool
abbrev pub tested : Channel → Answer
tested c = function_answer c.function c.pool.now

abbrev pub byte_of : Channel → ℕ → ℕ
byte_of c = transfer c.function c.pool.now
