-- Each turn stores one more pixel.
use Rattle.std.proofs.Common.{◌+◌, ◌*◌}
use Rattle.sheet.specs.Inner.Strips.{Changed}
use Rattle.displacement_map.specs.Inner.Rows.{moved_at}
use Rattle.displacement_map.proofs.moving.displace_row.Given as goal

abbrev pub invariant-loop-x : goal.invariant-loop-x
invariant-loop-x l = Changed 0 (λ j. moved_at l.columns l.rows l.picture l.map (4 * l.first + j)) (4 * l.first) (4 * l.x) l.initial.dest l.dest
