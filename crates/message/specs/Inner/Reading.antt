-- What the reader's private functions promise: what was taken at a reader's place, and what was stored in the pool meanwhile.
use Rattle.std.specs.Prelude.{ℕ, zero, suc, ◌+◌, ◌%◌, ◌≤◌, ◌≡◌, Bool, false, cond, Result, Ok, Err, List, [], ◌∷◌, length, get_or, replicate, eqb, ltb, Float}
use Rattle.std.proofs.lemmas.List.Edits.{sets}
use Rattle.number.specs.declared.Wrong.{Wrong}
use Rattle.number.specs.declared.reader.Reader.{Reader}
use Rattle.number.specs.Words.{Words, words_at, Got, got, wrong, and_then, next}
use Rattle.pool.specs.declared.Numbers.{Numbers}
use Rattle.recipe.specs.declared.Step.{Step}
use Rattle.color_matrix.specs.declared.ColorMatrix.{ColorMatrix}
use Rattle.component_transfer.specs.declared.TransferFunction.{TransferFunction}
use Rattle.message.specs.declared.lists.Pool.{Pool}
use Rattle.message.specs.Fields.{Field, read_numbers, read_field, pooled_by}
use Rattle.message.specs.Message.{read_steps}
use Rattle.message.specs.Answers.{blank}
use Rattle.message.specs.Steps.{range, colour, matrix_at, function, function_of, form_of, Read, read_form, read_step}

-- the numbers from a reader's place on
abbrev pub words : Reader → Words
words r = words_at r.message.now r.at

-- a value was taken up to a reader's place, and its numbers were stored in the pool behind those before them
pub record Took {A : Type 0} (wanted : Got A) (value : A) (list : List Float) (next : Reader) (pool after : Pool) : Type 0 where
  pub reading : wanted ≡ got value (words next)
  pub stored : after.numbers.now ≡ sets pool.numbers.now pool.used list
  pub counted : after.used ≡ pool.used + length list
  pub room : after.used ≤ next.at

-- and what was made of it fits
pub record Fitting {A : Type 0} (wanted : Got A) (fine : A → List Float → Type 0) (next : Reader) (pool after : Pool) : Type 0 where
  pub value : A
  pub list : List Float
  pub took : Took wanted value list next pool after
  pub fits : fine value list

-- what `wanted` says was taken, or a number of it is wrong
pub record Taken {A T : Type 0} (wanted : Got A) (fine : T → A → List Float → Type 0) (next : Reader) (pool after : Pool) (r : Result T Wrong) : Type 0 where
  pub well : (t : T) → r ≡ Ok t → Fitting wanted (fine t) next pool after
  pub ill : (w : Wrong) → r ≡ Err w → wanted ≡ wrong w.at

-- ---- a row of numbers, each at most its bound; 4294967295 bounds nothing
abbrev pub too_large : ℕ → ℕ → Bool
too_large most n = cond (eqb most 4294967295) false (ltb most n)

unfoldable pub read_block : List ℕ → Words → Got (List ℕ)
read_block [] ws = got [] ws
read_block (m ∷ ms) ws =
    next ws (λ p n rest. cond (too_large m n) (wrong p) (and_then (read_block ms rest) (λ l rest'. got (n ∷ l) rest')))

-- the first n of a list, from i on
unfoldable pub firsts : ℕ → ℕ → List ℕ → List ℕ
firsts i zero l = []
firsts i (suc n) l = get_or l i 0 ∷ firsts (suc i) n l

pub record RowRead (most : List ℕ) (before next : Reader) (r : Result (List ℕ) Wrong) : Type 0 where
  pub well : (l : List ℕ) → r ≡ Ok l → (read_block most (words before) ≡ got (firsts 0 (length most) l) (words next)) × (before.at ≤ next.at)
  pub ill : (w : Wrong) → r ≡ Err w → read_block most (words before) ≡ wrong w.at

-- ---- lists, and what a kind calls for
abbrev pub NumbersTaken : (before next : Reader) → (pool after : Pool) → Result Numbers Wrong → Type 0
NumbersTaken before next pool = Taken (read_numbers (words before)) (λ n v l. (v ≡ l) × (n ≡ range pool.used v)) next pool

abbrev pub MatrixTaken : (before next : Reader) → (pool after : Pool) → Result ColorMatrix Wrong → Type 0
MatrixTaken before next pool = Taken (read_field colour (words before)) (λ m v l. (m ≡ matrix_at pool.used v.0 v.1) × (pooled_by colour v ≡ l)) next pool

abbrev pub FunctionTaken : (before next : Reader) → (pool after : Pool) → Result TransferFunction Wrong → Type 0
FunctionTaken before next pool = Taken (read_field function (words before)) (λ f v l. (f ≡ function_of pool.used v) × (pooled_by function v ≡ l)) next pool

-- ---- steps
abbrev pub StepFine : Step → Read → List Float → Type 0
StepFine s v l = (s ≡ v.read_step_lem) × (v.read_numbers_lem ≡ l)

abbrev pub FormTaken : ℕ → (before next : Reader) → (pool after : Pool) → Result Step Wrong → Type 0
FormTaken code before next pool = Taken (read_form pool.used (form_of code) (words before)) StepFine next pool

abbrev pub StepTaken : (before next : Reader) → (pool after : Pool) → Result Step Wrong → Type 0
StepTaken before next pool = Taken (read_step pool.used (words before)) StepFine next pool

abbrev pub StepsTaken : ℕ → (before next : Reader) → (pool after : Pool) → Result (List Step) Wrong → Type 0
StepsTaken count before next pool = Taken (read_steps count pool.used (words before)) (λ t c l. (t ≡ sets (replicate 16 blank) 0 c.steps) × (c.numbers ≡ l)) next pool

-- a step without lists stores nothing, whatever stands in the pool
pub record PlainTaken (code : ℕ) (before next : Reader) (r : Result Step Wrong) : Type 0 where
  pub well :
      (s : Step) → r ≡ Ok s → (used : ℕ)
      → (read_form used (form_of code) (words before) ≡ got (record { read_step_lem = s; read_numbers_lem = [] }) (words next)) × (before.at ≤ next.at)
  pub ill : (w : Wrong) → r ≡ Err w → (used : ℕ) → read_form used (form_of code) (words before) ≡ wrong w.at

abbrev pub four_row : List Field
four_row = function ∷ function ∷ function ∷ function ∷ []

-- a number's lowest byte
abbrev pub low_byte : ℕ → ℕ
low_byte n = n % 256
