-- At a refusal nothing was called that stores; otherwise the message was written.
use mathlib.Core.Path.{sym, ◌∙◌}
use Rattle.message.proofs.FirstSteps.{few_steps, refused, written}
use Rattle.message.proofs.Results.{passed_on}
use Rattle.message.proofs.writing.write.Goals as goal

pub returns-in_err-test : goal.returns-in_err-test
returns-in_err-test c = refused _ _ (sym c.test.ensures ∙ c.in_err-test.was) (passed_on _ _ c.from_residual.ensures.1)

pub message_into-requires : goal.message_into-requires
message_into-requires c = few_steps c.args.recipe c.args.pool.now _ (sym c.test.ensures ∙ c.in_ok-test.was)

pub returns : goal.returns
returns c = written _ _ (sym c.test.ensures ∙ c.in_ok-test.was) c.message_into.ensures
