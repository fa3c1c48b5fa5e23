-- The tests come in the definition's order, and functions that pass are handed on.
use mathlib.Core.Path.{refl}
use Rattle.sheet.proofs.Answers.{first_err, second_err}
use Rattle.sheet.proofs.Contracts.{filtered_refused}
use Rattle.component_transfer.specs.ComponentTransfer.{answer}
use Rattle.nuprikhen.proofs.Calls.{filtered_as}
use Rattle.nuprikhen.proofs.Functions.{all_tested, all_same}
use Rattle.nuprikhen.proofs.nup_component_transfer.apply_numbered.Goals as goal

pub returns-in_err-test : goal.returns-in_err-test
unfolding answer
returns-in_err-test c = filtered_refused (first_err _ c.test.ensures c.in_err-test.was) c.from_residual.ensures.1 refl

pub returns-in_err-of_all : goal.returns-in_err-of_all
unfolding answer
returns-in_err-of_all c =
    let tested = all_tested c.args.r.kind c.args.g.kind c.args.b.kind c.args.a.kind _ _ _ _ c.of_all.ensures c.tested.ensures c.tested-2.ensures c.tested-3.ensures c.tested-4.ensures in
    filtered_refused (second_err c.test.ensures c.in_ok-test.was tested c.in_err-of_all.was) c.from_residual-in_err-of_all.ensures.1 refl

pub returns : goal.returns
returns c =
    let tested = all_tested c.args.r.kind c.args.g.kind c.args.b.kind c.args.a.kind _ _ _ _ c.of_all.ensures c.tested.ensures c.tested-2.ensures c.tested-3.ensures c.tested-4.ensures in
    let same = all_same c.args.r.kind c.args.g.kind c.args.b.kind c.args.a.kind _ _ _ _ tested c.in_ok-of_all.was c.function.ensures c.function-2.ensures c.function-3.ensures c.function-4.ensures c.args.width c.args.height c.args.src.now in
    filtered_as refl refl same.0 same.1 c.apply.ensures
