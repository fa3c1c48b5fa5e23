-- The entry at the index, which is the Module's.
use borrow.Author.Rules.{rules}
use Rattle.component_transfer.proofs.Cases.{discrete_entry}
use Rattle.component_transfer.proofs.functions.discrete.Goals as goal

pub returns : goal.returns
returns c = discrete_entry c.args.values.now c.args.c c.normalized.ensures (search rules) c.requires.1 c.index-k.ensures
