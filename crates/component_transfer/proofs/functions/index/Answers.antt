-- The byte that is rounded down stands for the whole number, since the index is cut at 255 or less.
use mathlib.Core.Path.{◌∙◌}
use Rattle.component_transfer.proofs.Cases.{exact_float, index_cut}
use Rattle.component_transfer.proofs.functions.index.Goals as goal

pub int_to_float-n : goal.int_to_float-n
int_to_float-n c = exact_float _ c.requires.0

pub returns : goal.returns
returns c = c.min.ensures ∙ index_cut _ _ _ c.requires.1 c.floor_to_byte.ensures
