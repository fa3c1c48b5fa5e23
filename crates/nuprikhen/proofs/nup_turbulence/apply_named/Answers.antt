-- The tests come in the definition's order, and numbers that name a case change no answer.
use mathlib.Core.Path.{refl, sym, ◌∙◌}
use Rattle.sheet.proofs.Contracts.{filtered_refused}
use Rattle.turbulence.specs.Turbulence.{answer}
use Rattle.nuprikhen.specs.Noise.{noise_answer}
use Rattle.nuprikhen.proofs.Calls.{filtered_as}
use Rattle.nuprikhen.proofs.Naming.{then_named, first_stands, second_stands, third_stands}
use Rattle.nuprikhen.proofs.nup_turbulence.apply_named.Goals as goal

pub returns-in_err-test : goal.returns-in_err-test
unfolding noise_answer answer
returns-in_err-test c = filtered_refused (first_stands _ _ c.test.ensures c.in_err-test.was) c.from_residual.ensures.1 refl

pub returns-in_err-test-2 : goal.returns-in_err-test-2
unfolding noise_answer answer
returns-in_err-test-2 c =
    filtered_refused (second_stands _ c.test.ensures c.in_ok-test.was c.test-2.ensures c.in_err-test-2.was) c.from_residual-in_err-test-2.ensures.1 refl

pub returns-in_err-test_named : goal.returns-in_err-test_named
unfolding noise_answer answer
returns-in_err-test_named c =
    filtered_refused (third_stands c.test.ensures c.in_ok-test.was c.test-2.ensures c.in_ok-test-2.was (sym c.test_named.ensures ∙ c.in_err-test_named.was)) c.from_residual-in_err-test_named.ensures.1 refl

pub returns : goal.returns
unfolding noise_answer
returns c = filtered_as refl refl (then_named _ _ (sym c.test_named.ensures ∙ c.in_ok-test_named.was)) refl c.apply.ensures
