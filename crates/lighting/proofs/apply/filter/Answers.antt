-- The tests come in the definition's order, and what passes them is lit.
use mathlib.Core.Path.{refl, sym, ◌∙◌}
use Rattle.sheet.proofs.Answers.{first_err, first_ok, sheets_sized, sheets_first}
use Rattle.sheet.proofs.Contracts.{filtered_refused, filtered_done}
use Rattle.lighting.specs.Lighting.{answer}
use Rattle.lighting.proofs.apply.filter.Goals as goal

pub returns-in_err-test : goal.returns-in_err-test
unfolding answer
returns-in_err-test c = filtered_refused (first_err _ c.test.ensures c.in_err-test.was) c.from_residual.ensures.1 refl

pub returns-in_err-tested : goal.returns-in_err-tested
unfolding answer
returns-in_err-tested c =
    filtered_refused (first_ok _ c.test.ensures c.in_ok-test.was ∙ c.in_err-tested.was) c.from_residual-in_err-tested.ensures.1 refl

pub apply-requires : goal.apply-requires
apply-requires c =
    let t = sym c.test.ensures ∙ c.in_ok-test.was in
    let first = sheets_first c.args.width c.args.height _ _ t in
    let second = sheets_first c.args.width c.args.height _ _ first.1 in
    record { sized = sheets_sized c.args.width c.args.height _ t; src_len = first.0; dest_len = second.0 }

pub returns : goal.returns
unfolding answer
returns c = filtered_done (first_ok _ c.test.ensures c.in_ok-test.was ∙ c.in_ok-tested.was) c.apply.ensures
