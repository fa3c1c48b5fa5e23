-- The tests come in the definition's order, and what passes them is displaced.
use Rattle.std.proofs.Common.{refl, sym, ◌∙◌}
use Rattle.sheet.proofs.Answers.{first_err, second_err, both_ok, sheets_first, sheets_sized}
use Rattle.sheet.proofs.Contracts.{filtered_refused, filtered_done}
use Rattle.displacement_map.specs.DisplacementMap.{answer}
use Rattle.displacement_map.proofs.Bytes.{axes_displace}
use Rattle.displacement_map.proofs.Distance.{accepted}
use Rattle.displacement_map.proofs.apply.Goals as goal

pub returns-in_err-test : goal.returns-in_err-test
unfolding answer
returns-in_err-test c = filtered_refused (first_err _ c.test.ensures c.in_err-test.was) c.from_residual.ensures.1 refl

pub returns-in_err-test-2 : goal.returns-in_err-test-2
unfolding answer
returns-in_err-test-2 c =
    filtered_refused (second_err c.test.ensures c.in_ok-test.was c.test-2.ensures c.in_err-test-2.was) c.from_residual-in_err-test-2.ensures.1 refl

pub invariant_of-picture : goal.invariant_of-picture
invariant_of-picture c =
    let t = sym c.test.ensures ∙ c.in_ok-test.was in
    record { sized = sheets_sized c.args.width c.args.height _ t; whole = (sheets_first c.args.width c.args.height _ _ t).0 }

pub of-columns-requires : goal.of-columns-requires
of-columns-requires c =
    let scales = accepted c.args.sx c.args.sy c.args.scale (sym c.test-2.ensures ∙ c.in_ok-test-2.was) in record { range = (scales.column, scales.map); shifted = c.store_shifts.ensures }

pub of-rows-requires : goal.of-rows-requires
of-rows-requires c =
    let scales = accepted c.args.sx c.args.sy c.args.scale (sym c.test-2.ensures ∙ c.in_ok-test-2.was) in record { range = (scales.row, scales.map); shifted = c.store_shifts-2.ensures }

pub displace-requires : goal.displace-requires
displace-requires c =
    let first = sheets_first c.args.width c.args.height _ _ (sym c.test.ensures ∙ c.in_ok-test.was) in
    let second = sheets_first c.args.width c.args.height _ _ first.1 in
    let third = sheets_first c.args.width c.args.height _ _ second.1 in
    record { map_len = second.0; dest_len = third.0 }

pub returns : goal.returns
unfolding answer
returns c =
    let done = both_ok c.test.ensures c.in_ok-test.was c.test-2.ensures c.in_ok-test-2.was in
    let d = c.displace.ensures ∙ axes_displace c.of-columns.result c.of-rows.result c.args.width c.args.height c.args.src.now c.args.map.now (c.of-rows.ensures.scale ∙ sym c.of-columns.ensures.scale) in
    filtered_done done cc
