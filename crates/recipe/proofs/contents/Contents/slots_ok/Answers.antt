-- The tests of the output, then of the inputs.
use Rattle.sheet.proofs.Answers.{tests}
use Rattle.recipe.specs.Tests.{slots_ok}
use Rattle.recipe.proofs.contents.Contents.slots_ok.Goals as goal

pub returns-then-output-eq0 : goal.returns-then-output-eq0
unfolding slots_ok
returns-then-output-eq0 c = search tests

pub returns-then-output-gt3 : goal.returns-then-output-gt3
unfolding slots_ok
returns-then-output-gt3 c = search tests

pub inputs_ok-requires : goal.inputs_ok-requires
inputs_ok-requires c = search tests

pub returns : goal.returns
unfolding slots_ok
returns c = search tests
