-- Before step i no step was refused, and the slots hold what the steps before it made.
use borrow.Author.Rules.{rules}
use mathlib.Core.Path.{◌≡◌, sym, ap, ◌∙◌}
use mathlib.Core.List.{[]}
use native.Mathlib.Omega.{arith}
use borrow.Author.Tests.{eq-eqb, ne_eqb, lt-ltb}
use Rattle.recipe.specs.Tests.{step_of, steps_answer, recipe_answer}
use Rattle.recipe.proofs.Prefix.{contents_none, contents_more, none_done, one_more_done, refused_at, count_passed}
use Rattle.recipe.proofs.tests.recipe_answer.Goals as goal

pub returns-then-recipe-eq0 : goal.returns-then-recipe-eq0
unfolding recipe_answer
returns-then-recipe-eq0 c = rw (eq-eqb _ _ c.if-recipe-eq0.true, c.from.ensures)

pub returns-then-recipe-gt-STEP_LIMIT : goal.returns-then-recipe-gt-STEP_LIMIT
unfolding recipe_answer
returns-then-recipe-gt-STEP_LIMIT c = rw (ne_eqb _ _ c.if-recipe-eq0.false, lt-ltb _ _ c.if-recipe-gt-STEP_LIMIT.true, c.from-then-recipe-gt-STEP_LIMIT.ensures)

pub loop-i-init : goal.loop-i-init
loop-i-init c = record { few = search rules; passed = none_done _ _ _; held = sym (contents_none (step_of c.args.recipe) _ []) }

pub returns-in-Err : goal.returns-in-Err
returns-in-Err c =
    let last = c.loop-i.invariant in
    sym (refused_at _ _ _ _ last.passed last.held c.step_answer.ensures _ c.loop-i-test.true c.in-Err.is)
    ∙ count_passed _ _ _ c.at_first-contents.ensures c.if-recipe-eq0.false c.if-recipe-gt-STEP_LIMIT.false

pub loop-i-preserved : goal.loop-i-preserved
loop-i-preserved c =
    let last = c.loop-i.invariant in
    record {
      few = search rules;
      passed = one_more_done _ _ _ _ last.passed last.held c.step_answer.ensures c.in_default.is;
      held = cc (c.hold.ensures, c.made_by-made.ensures, last.held, contents_more (step_of c.args.recipe) c.at_first-contents.result.slots [] c.loop-i.i);
    }

pub returns : goal.returns
returns c =
    let z : c.loop-i.i ≡ c.args.recipe.count = omega arith in
    sym c.loop-i.invariant.passed ∙ (ap (steps_answer _ _ _) z ∙ count_passed _ _ _ c.at_first-contents.ensures c.if-recipe-eq0.false c.if-recipe-gt-STEP_LIMIT.false)
