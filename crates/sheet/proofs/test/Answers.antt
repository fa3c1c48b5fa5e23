-- The sides, then the lengths, all compared with the area that sides which pass keep small.
use borrow.Author.Rules.{rules}
use borrow.Author.Tests.{tests}
use native.Mathlib.Omega.{arith}
use mathlib.Core.Path.{refl, sym, ◌∙◌}
use Rattle.std.specs.Prelude.{◌*◌, eqb}
use Rattle.std.proofs.lemmas.Iterator.{YieldsList-from_slice}
use Rattle.std.proofs.lemmas.Iterator.Search.{all_from_yields_List}
use Rattle.sheet.specs.Size.{Sized, sheets_answer}
use Rattle.sheet.proofs.Answers.{passed_on, first_err, first_ok, sides_answer, sized_by, sheets_rest}
use Rattle.sheet.proofs.test.Goals as goal

pub returns-in_err-test_side : goal.returns-in_err-test_side
unfolding sheets_answer
returns-in_err-test_side c =
    rw (sides_answer c.args.width c.args.height, first_err _ c.test_side.ensures c.in_err-test_side.was) (passed_on _ c.from_residual.ensures.1)

pub returns-in_err-test_side-2 : goal.returns-in_err-test_side-2
unfolding sheets_answer
returns-in_err-test_side-2 c =
    rw (sides_answer c.args.width c.args.height, first_ok _ c.test_side.ensures c.in_ok-test_side.was, first_err _ c.test_side-2.ensures c.in_err-test_side-2.was)
    (passed_on _ c.from_residual-in_err-test_side-2.ensures.1)

pub overflow_mul-area : goal.overflow_mul-area
overflow_mul-area c = let z : Sized c.args.width c.args.height = sized_by c.test_side.ensures c.in_ok-test_side.was c.test_side-2.ensures c.in_ok-test_side-2.was in omega arith

pub overflow_mul-area-2 : goal.overflow_mul-area-2
overflow_mul-area-2 c = let z : Sized c.args.width c.args.height = sized_by c.test_side.ensures c.in_ok-test_side.was c.test_side-2.ensures c.in_ok-test_side-2.was in omega arith

pub returns-then-all : goal.returns-then-all
returns-then-all c =
    let e = all_from_yields_List (λ a. eqb a (4 * c.args.width * c.args.height)) _ _ _ c.all.ensures.ran (YieldsList-from_slice c.args.lengths.now cc) (λ x b q k. search (rules, tests)) in
    rw (sheets_rest _ _ c.args.lengths.now c.test_side.ensures c.in_ok-test_side.was c.test_side-2.ensures c.in_ok-test_side-2.was, sym e ∙ c.if-all.true) refl

pub returns-else-all : goal.returns-else-all
returns-else-all c =
    let e = all_from_yields_List (λ a. eqb a (4 * c.args.width * c.args.height)) _ _ _ c.all.ensures.ran (YieldsList-from_slice c.args.lengths.now cc) (λ x b q k. search (rules, tests)) in
    rw (sheets_rest _ _ c.args.lengths.now c.test_side.ensures c.in_ok-test_side.was c.test_side-2.ensures c.in_ok-test_side-2.was, sym e ∙ c.if-all.false) refl
