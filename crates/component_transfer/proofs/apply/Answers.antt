-- The tests come in the definition's order, and what passes them is transferred.
use mathlib.Core.Path.{refl, sym, ◌∙◌}
use Rattle.sheet.proofs.Answers.{first_err, second_err, both_ok, sheets_pixels}
use Rattle.sheet.proofs.Contracts.{filtered_refused, filtered_done}
use Rattle.component_transfer.specs.ComponentTransfer.{answer}
use Rattle.component_transfer.proofs.Passed.{each_passes}
use Rattle.component_transfer.proofs.apply.Goals as goal

pub returns-in_err-test : goal.returns-in_err-test
unfolding answer
returns-in_err-test c = filtered_refused (first_err _ c.test.ensures c.in_err-test.was) c.from_residual.ensures.1 refl

pub returns-in_err-test-2 : goal.returns-in_err-test-2
unfolding answer
returns-in_err-test-2 c =
    filtered_refused (second_err c.test.ensures c.in_ok-test.was c.test-2.ensures c.in_err-test-2.was) c.from_residual-in_err-test-2.ensures.1 refl

pub transfer_all-requires : goal.transfer_all-requires
transfer_all-requires c =
    record { passed = each_passes c.test-2.ensures c.in_ok-test-2.was; src_len = sheets_pixels c.args.width c.args.height _ _ (sym c.test.ensures ∙ c.in_ok-test.was) }

pub returns : goal.returns
unfolding answer
returns c = filtered_done (both_ok c.test.ensures c.in_ok-test.was c.test-2.ensures c.in_ok-test-2.was) c.transfer_all.ensures
