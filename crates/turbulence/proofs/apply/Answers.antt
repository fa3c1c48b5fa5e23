-- The tests come in the definition's order, and what passes them is drawn.
use mathlib.Core.Path.{refl, sym, ◌∙◌}
use Rattle.sheet.proofs.Answers.{first_err, second_err, both_ok, sheets_first, sheets_sized}
use Rattle.sheet.proofs.Contracts.{filtered_refused, filtered_done}
use Rattle.turbulence.specs.Turbulence.{answer}
use Rattle.turbulence.proofs.Bytes.{octaves_few}
use Rattle.turbulence.proofs.apply.Goals as goal

pub returns-in_err-test : goal.returns-in_err-test
unfolding answer
returns-in_err-test c = filtered_refused (first_err _ c.test.ensures c.in_err-test.was) c.from_residual.ensures.1 refl

pub returns-in_err-test-2 : goal.returns-in_err-test-2
unfolding answer
returns-in_err-test-2 c =
    filtered_refused (second_err c.test.ensures c.in_ok-test.was c.test-2.ensures c.in_err-test-2.was) c.from_residual-in_err-test-2.ensures.1 refl

pub draw-requires : goal.draw-requires
draw-requires c =
    let d = sym c.test.ensures ∙ c.in_ok-test.was in
    record { sized = sheets_sized c.args.width c.args.height _ d; dest_len = (sheets_first c.args.width c.args.height _ _ d).0; num_octaves_bound = octaves_few c.args.t (sym c.test-2.ensures ∙ c.in_ok-test-2.was) }

pub returns : goal.returns
unfolding answer
returns c = filtered_done (both_ok c.test.ensures c.in_ok-test.was c.test-2.ensures c.in_ok-test-2.was) c.draw.ensures
