-- The tests come in the definition's order, and a number that names an operator changes no answer.
use mathlib.Core.Path.{refl}
use Rattle.sheet.proofs.Contracts.{filtered_refused, holds_refused}
use Rattle.morphology.specs.Morphology.{answer}
use Rattle.nuprikhen.specs.Operators.{morphology_answer}
use Rattle.nuprikhen.proofs.Calls.{holds_as, filtered_as}
use Rattle.nuprikhen.proofs.Naming.{then_named, first_stands, second_stands, third_stands}
use Rattle.nuprikhen.proofs.nup_morphology.apply_numbered.Goals as goal

pub returns-in_err-test : goal.returns-in_err-test
unfolding morphology_answer answer
returns-in_err-test c =
    let e = first_stands _ _ c.test.ensures c.in_err-test.was in
    record { filtered = filtered_refused e c.from_residual.ensures.1 refl; cleared = holds_refused e refl }

pub returns-in_err-test-2 : goal.returns-in_err-test-2
unfolding morphology_answer answer
returns-in_err-test-2 c =
    let e = second_stands _ c.test.ensures c.in_ok-test.was c.test-2.ensures c.in_err-test-2.was in
    record { filtered = filtered_refused e c.from_residual-in_err-test-2.ensures.1 refl; cleared = holds_refused e refl }

pub returns-in_err-operator : goal.returns-in_err-operator
unfolding morphology_answer answer
returns-in_err-operator c =
    let e = third_stands c.test.ensures c.in_ok-test.was c.test-2.ensures c.in_ok-test-2.was (rw c.in_err-operator.was at c.operator_of.ensures) in
    record { filtered = filtered_refused e c.from_residual-in_err-operator.ensures.1 refl; cleared = holds_refused e refl }

pub returns : goal.returns
unfolding morphology_answer
returns c =
    let named = rw c.in_ok-operator.was at c.operator_of.ensures in
    let e = then_named _ _ named.0 in
    let done = rw named.1 at c.apply.ensures in
    record { filtered = filtered_as refl refl e refl done.filtered; cleared = holds_as refl refl e refl done.cleared }
