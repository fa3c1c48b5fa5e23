-- The tests come in the definition's order, and numbers that name channels change no answer.
use mathlib.Core.Path.{refl, ◌∙◌}
use Rattle.sheet.proofs.Contracts.{filtered_refused}
use Rattle.displacement_map.specs.DisplacementMap.{answer}
use Rattle.nuprikhen.specs.Channels.{displacement_answer}
use Rattle.nuprikhen.proofs.Calls.{filtered_as}
use Rattle.nuprikhen.proofs.Naming.{then_named, first_stands, second_stands, third_stands}
use Rattle.nuprikhen.proofs.Selectors.{first_unnamed, second_named}
use Rattle.nuprikhen.proofs.nup_displacement_map.apply_numbered.Goals as goal

pub returns-in_err-test : goal.returns-in_err-test
unfolding displacement_answer answer
returns-in_err-test c = filtered_refused (first_stands _ _ c.test.ensures c.in_err-test.was) c.from_residual.ensures.1 refl

pub returns-in_err-test-2 : goal.returns-in_err-test-2
unfolding displacement_answer answer
returns-in_err-test-2 c =
    filtered_refused (second_stands _ c.test.ensures c.in_ok-test.was c.test-2.ensures c.in_err-test-2.was) c.from_residual-in_err-test-2.ensures.1 refl

pub returns-in_err-xs : goal.returns-in_err-xs
unfolding displacement_answer answer
returns-in_err-xs c =
    filtered_refused (third_stands c.test.ensures c.in_ok-test.was c.test-2.ensures c.in_ok-test-2.was (first_unnamed _ _ (rw c.in_err-xs.was at c.channel_of.ensures))) c.from_residual-in_err-xs.ensures.1 refl

pub returns-in_err-ys : goal.returns-in_err-ys
unfolding displacement_answer answer
returns-in_err-ys c =
    let first = rw c.in_ok-xs.was at c.channel_of.ensures in
    filtered_refused (third_stands c.test.ensures c.in_ok-test.was c.test-2.ensures c.in_ok-test-2.was (second_named _ _ first.0 ∙ rw c.in_err-ys.was at c.channel_of-2.ensures)) c.from_residual-in_err-ys.ensures.1 refl

pub returns : goal.returns
unfolding displacement_answer
returns c =
    let first = rw c.in_ok-xs.was at c.channel_of.ensures in
    let second = rw c.in_ok-ys.was at c.channel_of-2.ensures in
    filtered_as refl refl (then_named _ _ (second_named _ _ first.0 ∙ second.0)) refl (rw (first.1, second.1) at c.apply.ensures)
