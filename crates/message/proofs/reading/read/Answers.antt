-- A message that is tested whole is read once more, into the pool.
use mathlib.Core.Path.{◌≡◌, sym, ap, ◌∙◌}
use native.Mathlib.Omega.{arith}
use Rattle.std.proofs.Common.{rules}
use Rattle.message.specs.Answers.{done, reading_answer}
use Rattle.message.proofs.Results.{passed_on}
use Rattle.message.proofs.Whole.{not_bad, count_wrong, all_wrong, read_refused, read_all}
use Rattle.message.proofs.reading.read.Goals as goal

pub returns-in_err-test : goal.returns-in_err-test
returns-in_err-test c =
    read_refused _ _ (rw (← c.room_of.ensures) (sym c.test.ensures ∙ c.in_err-test.was)) (passed_on _ _ c.from_residual.ensures.1)

pub returns-in_err-count : goal.returns-in_err-count
returns-in_err-count c = absurd (not_bad _ _ (sym c.test.ensures ∙ c.in_ok-test.was) (count_wrong c.args.message.now c.new-reader.result c.number.new.self (ap (λ x. x.now) c.new-reader.ensures.0) c.new-reader.ensures.1 c.number.ensures.same c.number.ensures.number c.in_err-count.was))

pub steps-requires : goal.steps-requires
steps-requires c = let z = c.new-pool.ensures.all.1 in omega arith

pub returns-in_err-steps : goal.returns-in_err-steps
returns-in_err-steps c = absurd (not_bad _ _ (sym c.test.ensures ∙ c.in_ok-test.was) (all_wrong c.args.message.now c.new-reader.result c.number.new.self (ap (λ x. x.now) c.new-reader.ensures.0) c.new-reader.ensures.1 c.number.ensures.same c.number.ensures.number c.in_ok-count.was c.new-pool.ensures.all.1 c.steps.ensures.same.0 c.steps.ensures.taken c.in_err-steps.was))

pub returns : goal.returns
returns c =
    let d : reading_answer c.args.message.now c.args.pool.now ≡ done = rw (← c.room_of.ensures) (sym c.test.ensures ∙ c.in_ok-test.was) in
    let n = sym (c.steps.ensures.same.1 ∙ c.new-pool.ensures.same) in
    read_all c.args.message.now c.new-reader.result c.number.new.self (ap (λ x. x.now) c.new-reader.ensures.0) c.new-reader.ensures.1 c.number.ensures.same c.number.ensures.number c.in_ok-count.was c.new-pool.ensures.all.1 c.steps.ensures.same.0 c.steps.ensures.taken c.in_ok-steps.was _ _ d c.new-pool.ensures.all.0 (search rules)
