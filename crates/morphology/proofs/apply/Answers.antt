-- The tests come in the definition's order, and what passes them is spread by the radii in whole pixels.
use mathlib.Core.Path.{refl, sym, ◌∙◌}
use Rattle.sheet.proofs.Answers.{first_err, second_err, both_ok, sheets_sized, sheets_first}
use Rattle.sheet.proofs.Contracts.{filtered_refused, filtered_done, holds_refused, holds_done}
use Rattle.morphology.specs.Morphology.{answer, morphed}
use Rattle.morphology.proofs.apply.Goals as goal

pub returns-in_err-test : goal.returns-in_err-test
unfolding answer
returns-in_err-test c =
    let e = first_err _ c.test.ensures c.in_err-test.was in
    record { filtered = filtered_refused e c.from_residual.ensures.1 refl; cleared = holds_refused e refl }

pub returns-in_err-test-2 : goal.returns-in_err-test-2
unfolding answer
returns-in_err-test-2 c =
    let e = second_err c.test.ensures c.in_ok-test.was c.test-2.ensures c.in_err-test-2.was in
    record { filtered = filtered_refused e c.from_residual-in_err-test-2.ensures.1 refl; cleared = holds_refused e refl }

pub pixels-requires : goal.pixels-requires
pixels-requires c = (sheets_sized _ _ _ (sym c.test.ensures ∙ c.in_ok-test.was)).wide

pub pixels-requires-2 : goal.pixels-requires-2
pixels-requires-2 c = (sheets_sized _ _ _ (sym c.test.ensures ∙ c.in_ok-test.was)).high

pub spread_sheet-requires : goal.spread_sheet-requires
spread_sheet-requires c =
    let d = sym c.test.ensures ∙ c.in_ok-test.was in
    let first = sheets_first c.args.width c.args.height _ _ d in
    let second = sheets_first c.args.width c.args.height _ _ first.1 in
    record { sized = (sheets_sized _ _ _ d, c.pixels.ensures.1, c.pixels-2.ensures.1); src_len = first.0; scratch_len = second.0 }

pub returns : goal.returns
unfolding answer morphed
returns c =
    let e = both_ok c.test.ensures c.in_ok-test.was c.test-2.ensures c.in_ok-test-2.was in
    record { filtered = filtered_done e (cc (c.spread_sheet.ensures.src_after, c.pixels.ensures.0, c.pixels-2.ensures.0)); cleared = holds_done e c.spread_sheet.ensures.scratch_after }
