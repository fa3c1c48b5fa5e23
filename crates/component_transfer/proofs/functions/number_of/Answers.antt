-- Each case is its own function, over entries that lie in the pool.
use mathlib.Core.Path.{sym, ap, ◌∙◌}
use Rattle.component_transfer.specs.Functions.{table, discrete}
use Rattle.component_transfer.specs.ComponentTransfer.{function_answer, is_dummy}
use Rattle.component_transfer.proofs.Passed.{entries_count}
use Rattle.component_transfer.proofs.functions.number_of.Goals as goal

pub table-requires : goal.table-requires
table-requires c =
    let case = sym c.in-Table.is in
    rw c.part.ensures (entries_count _ _ (ap (λ x. function_answer x c.args.pool.now) case ∙ c.requires.pool_value) (ap is_dummy case ∙ c.requires.f_value))

pub discrete-requires : goal.discrete-requires
discrete-requires c =
    let case = sym c.in-Discrete.is in
    rw c.part-in-Discrete.ensures (entries_count _ _ (ap (λ x. function_answer x c.args.pool.now) case ∙ c.requires.pool_value) (ap is_dummy case ∙ c.requires.f_value))

pub returns-in-Identity : goal.returns-in-Identity
returns-in-Identity c = rw c.in-Identity.is c.normalized.ensures

pub returns-in-Table : goal.returns-in-Table
returns-in-Table c = rw c.in-Table.is (c.table.ensures ∙ ap (λ l. table l c.args.c) c.part.ensures)

pub returns-in-Discrete : goal.returns-in-Discrete
returns-in-Discrete c = rw c.in-Discrete.is (c.discrete.ensures ∙ ap (λ l. discrete l c.args.c) c.part-in-Discrete.ensures)

pub returns-in-Linear : goal.returns-in-Linear
returns-in-Linear c = rw c.in-Linear.is c.linear.ensures
