-- The functions' answers are taken together.
use Rattle.component_transfer.proofs.test.Goals as goal

pub returns : goal.returns
returns c = simp (c.test_function.ensures, c.test_function-2.ensures, c.test_function-3.ensures, c.test_function-4.ensures, c.of_all.ensures)
