-- `floor_to_byte` meets its contract: below 0 both give 0. Assumes nothing.
use Rattle.std.proofs.Common.{sym, ◌∙◌}
use Rattle.floats.proofs.RoundedDown.{floor_cuts}
use Rattle.floats.proofs.floor.floor_to_byte.Goals as goal

pub returns : goal.returns
returns c = c.to_byte.ensures ∙ sym (floor_cuts 8 _)
