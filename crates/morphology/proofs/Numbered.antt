-- The operators' numbers and the numbers' operators are each other's.
use Prim.Native.Nat.{ℕ, zero, suc}
use mathlib.Core.Path.{◌≡◌, refl}
use Rattle.std.specs.Prelude.{Ok}
use Rattle.morphology.specs.declared.operator.MorphologyOperator.{MorphologyOperator}
use Rattle.morphology.specs.declared.operator.MorphologyOperator.TheVariants.{Dilate, Erode}
use Rattle.morphology.specs.Numbered.{operator_number, numbered}

pub operator_again : (operator : MorphologyOperator) → numbered (operator_number operator) ≡ Ok operator
operator_again Dilate = refl
operator_again Erode = refl

pub number_again : (n : ℕ) (operator : MorphologyOperator) → numbered n ≡ Ok operator → n ≡ operator_number operator
number_again zero operator e = cc
number_again (suc zero) operator e = cc
number_again (suc (suc n)) operator e = cc
