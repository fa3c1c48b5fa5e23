-- The numbers of the operators.
use Rattle.std.specs.Prelude.{ℕ, zero, suc, ◌≡◌, Result, Ok, Err}
use Rattle.morphology.specs.declared.operator.MorphologyOperator.{MorphologyOperator}
use Rattle.morphology.specs.declared.operator.MorphologyOperator.TheVariants.{Dilate, Erode}
use Rattle.morphology.specs.declared.operator.UnknownOperator.{UnknownOperator}

abbrev pub operator_number : MorphologyOperator → ℕ
operator_number Dilate = 0
operator_number Erode = 1

-- 0 is Dilate and 1 is Erode; any other number names no operator
abbrev pub numbered : ℕ → Result MorphologyOperator UnknownOperator
numbered zero = Ok Dilate
numbered (suc zero) = Ok Erode
numbered (suc (suc n)) = Err (record { 0 = suc (suc n) })

abbrev pub Numbers : ℕ → Result MorphologyOperator UnknownOperator → Type 0
Numbers n r = r ≡ numbered n
