-- The tests come in the definition's order, and what passes them is composed.
use mathlib.Core.Path.{refl, sym, ◌∙◌}
use Rattle.sheet.proofs.Answers.{first_err, second_err, both_ok, sheets_first, sheets_pixels}
use Rattle.sheet.proofs.Contracts.{filtered_refused, filtered_done}
use Rattle.composite.specs.Composite.{answer}
use Rattle.composite.proofs.arithmetic.Goals as goal

pub returns-in_err-test : goal.returns-in_err-test
unfolding answer
returns-in_err-test c = filtered_refused (first_err _ c.test.ensures c.in_err-test.was) c.from_residual.ensures.1 refl

pub returns-in_err-test-2 : goal.returns-in_err-test-2
unfolding answer
returns-in_err-test-2 c =
    filtered_refused (second_err c.test.ensures c.in_ok-test.was c.test-2.ensures c.in_err-test-2.was) c.from_residual-in_err-test-2.ensures.1 refl

pub compose-requires : goal.compose-requires
compose-requires c =
    let d = sym c.test.ensures ∙ c.in_ok-test.was in
    let first = sheets_first c.args.width c.args.height _ _ d in
    let second = sheets_first c.args.width c.args.height _ _ first.1 in
    let third = sheets_first c.args.width c.args.height _ _ second.1 in
    record { src1_len = sheets_pixels c.args.width c.args.height _ _ d; src2_len = second.0 ∙ sym first.0; dest_len = third.0 ∙ sym first.0 }

pub returns : goal.returns
unfolding answer
returns c = filtered_done (both_ok c.test.ensures c.in_ok-test.was c.test-2.ensures c.in_ok-test-2.was) c.compose.ensures
