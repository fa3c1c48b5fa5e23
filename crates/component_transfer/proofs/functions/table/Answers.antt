-- The index is the last entry's, or the next entry is there to go on to.
use borrow.Author.Rules.{rules}
use mathlib.Core.Path.{refl}
use Rattle.component_transfer.proofs.Cases.{exact_float, table_last, table_between}
use Rattle.component_transfer.proofs.functions.table.Goals as goal

pub int_to_float-at : goal.int_to_float-at
int_to_float-at c = exact_float _ (search rules)

pub int_to_float-last : goal.int_to_float-last
int_to_float-last c = exact_float _ (search rules)

pub returns-then-k-n : goal.returns-then-k-n
returns-then-k-n c = table_last c.args.values.now c.args.c c.normalized-x.ensures (search rules) c.requires.1 _ refl c.index-k.ensures c.if-k-n.true

pub returns-else-k-n : goal.returns-else-k-n
returns-else-k-n c =
    table_between c.args.values.now c.args.c c.normalized-x.ensures (search rules) c.requires.1 _ refl c.index-k.ensures c.if-k-n.false
