-- A dummy function leaves the byte alone, and any other is the definition's.
use mathlib.Core.Path.{sym, ◌∙◌}
use Rattle.component_transfer.proofs.Cases.{left_alone, by_number}
use Rattle.component_transfer.proofs.functions.transfer.Goals as goal

pub returns-then-is_dummy : goal.returns-then-is_dummy
returns-then-is_dummy c = left_alone _ _ _ (sym c.is_dummy.ensures ∙ c.if-is_dummy.true)

pub number_of-requires : goal.number_of-requires
number_of-requires c = record { pool_value = c.requires; f_value = sym c.is_dummy.ensures ∙ c.if-is_dummy.false }

pub returns : goal.returns
returns c = by_number _ _ _ (sym c.is_dummy.ensures ∙ c.if-is_dummy.false) c.number_of.ensures c.from_normalized.ensures
