-- The count is tested, then the range.
use Rattle.sheet.proofs.Answers.{tests}
use Rattle.component_transfer.specs.ComponentTransfer.{entries_answer}
use Rattle.component_transfer.proofs.test_entries.Goals as goal

pub returns-then-entries-gt-ENTRY_LIMIT : goal.returns-then-entries-gt-ENTRY_LIMIT
unfolding entries_answer
returns-then-entries-gt-ENTRY_LIMIT c = search tests

pub returns : goal.returns
unfolding entries_answer
returns c = search (tests, c.test.ensures)
