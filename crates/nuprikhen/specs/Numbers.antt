-- What the number of a transfer function names across the C boundary; one that names no case is out of range.
use Rattle.std.specs.Prelude.{ℕ, zero, suc, min, Float, cond, List, eqb, length}
use Rattle.sheet.specs.Answer.{Answer, Done, refusal}
use Rattle.sheet.specs.Contract.{Lent, was}
use Rattle.pool.specs.declared.Numbers.{Numbers}
use Rattle.component_transfer.specs.declared.TransferFunction.{TransferFunction}
use Rattle.component_transfer.specs.declared.TransferFunction.TheVariants.{Identity, Table, Discrete, Linear}
use Rattle.nuprikhen.specs.declared.nup_answer.{nup_answer}
use Rattle.nuprikhen.specs.Called.{Called}
use Rattle.component_transfer.specs.Functions.{value_at}
use Rattle.component_transfer.specs.ComponentTransfer.{function_answer, transfer, answer, transferred}

-- all the values as a range; a slice that is too long for one is refused 3 all the same
abbrev pub all_of : List Float → Numbers
all_of values = record { start = 0; count = min (length values) 4294967295 }

-- a slope and an intercept, where there are two values
abbrev pub linear_of : List Float → TransferFunction
linear_of values = cond (eqb (length values) 2) (Linear (value_at values 0) (value_at values 1)) Identity

-- 0 is Identity, 1 is Table, 2 is Discrete, 3 is Linear
abbrev pub function_of : ℕ → List Float → TransferFunction
function_of zero values = Identity
function_of (suc zero) values = Table (all_of values)
function_of (suc (suc zero)) values = Discrete (all_of values)
function_of (suc (suc (suc n))) values = linear_of values

-- tests 3, 4 and 5 of a channel's function; Identity reads no value, and Linear is of two
abbrev pub numbered_answer : ℕ → List Float → Answer
numbered_answer zero values = Done
numbered_answer (suc zero) values = function_answer (function_of 1 values) values
numbered_answer (suc (suc zero)) values = function_answer (function_of 2 values) values
numbered_answer (suc (suc (suc zero))) values = cond (eqb (length values) 2) (function_answer (function_of 3 values) values) (refusal 3)
numbered_answer (suc (suc (suc (suc n)))) values = refusal 5

-- ---- component transfer by red's, green's, blue's and alpha's number, each with its values
abbrev pub transfer_answer : ℕ → List Float → ℕ → List Float → ℕ → List Float → ℕ → List Float → ℕ → ℕ → List ℕ → Answer
transfer_answer red r green g blue b alpha a w h src =
    answer (numbered_answer red r) (numbered_answer green g) (numbered_answer blue b) (numbered_answer alpha a) w h src

abbrev pub byte_by : ℕ → List Float → ℕ → ℕ
byte_by kind values = transfer (function_of kind values) values

abbrev pub transfer_bytes : ℕ → List Float → ℕ → List Float → ℕ → List Float → ℕ → List Float → List ℕ → List ℕ
transfer_bytes red r green g blue b alpha a src = transferred (byte_by red r) (byte_by green g) (byte_by blue b) (byte_by alpha a) src

-- the contract: what the call told, and the sheet
abbrev pub Transferred : ℕ → List Float → ℕ → List Float → ℕ → List Float → ℕ → List Float → ℕ → ℕ → nup_answer → Lent ℕ → Type 0
Transferred red r green g blue b alpha a w h result src =
    Called (transfer_answer red r green g blue b alpha a w h (was src)) result (transfer_bytes red r green g blue b alpha a (was src)) src
