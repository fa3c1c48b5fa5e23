-- What an operator's number names across the C boundary; one that names no operator is out of range.
use Rattle.std.specs.Prelude.{ℕ, zero, suc, cond, List, ltb, Float}
use Rattle.sheet.specs.Answer.{Answer, Done, refusal, and_then}
use Rattle.sheet.specs.Contract.{Lent, was, Cleared}
use Rattle.morphology.specs.declared.operator.MorphologyOperator.{MorphologyOperator}
use Rattle.morphology.specs.declared.operator.MorphologyOperator.TheVariants.{Dilate, Erode}
use Rattle.morphology.specs.Morphology.{answer, morphed}
use Rattle.nuprikhen.specs.declared.nup_answer.{nup_answer}
use Rattle.nuprikhen.specs.Called.{Called}

-- 0 is Dilate, 1 is Erode
abbrev pub operator_of : ℕ → MorphologyOperator
operator_of zero = Dilate
operator_of (suc n) = Erode

unfoldable pub named_operator : ℕ → Answer
named_operator op = cond (ltb 1 op) (refusal 5) Done

-- the number, whose test is `named`, is tested with the ranges, the last of the tests
unfoldable pub morphology_answer : Answer → Float → Float → ℕ → ℕ → List ℕ → List ℕ → Answer
morphology_answer named rx ry w h src scratch = and_then (answer rx ry w h src scratch) named

-- the contract, by the operator's number: what the call told, the sheet and the scratch
abbrev pub Morphed : ℕ → Float → Float → ℕ → ℕ → nup_answer → Lent ℕ → Lent ℕ → Type 0
Morphed op rx ry w h r src scratch =
    Called (morphology_answer (named_operator op) rx ry w h (was src) (was scratch)) r (morphed (operator_of op) rx ry w h (was src)) src
    × Cleared 0 (morphology_answer (named_operator op) rx ry w h (was src) (was scratch)) scratch
