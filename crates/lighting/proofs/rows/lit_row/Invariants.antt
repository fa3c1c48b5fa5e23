-- Each turn stores one more pixel.
use Prim.Native.Nat.{◌*◌, ◌/◌, ◌%◌}
use lib.ListN.{get_or}
use lib.Ieee.{nan}
use Rattle.sheet.specs.Inner.Strips.{Changed}
use Rattle.lighting.specs.Lighting.{lit_channel}
use Rattle.lighting.specs.Inner.Rows.{start_of}
use Rattle.lighting.proofs.rows.lit_row.Given as goal

abbrev pub invariant-loop-i : goal.invariant-loop-i
invariant-loop-i l =
    Changed 0 (λ j. lit_channel l.lighting.reflection l.lighting.color (get_or l.factors (j / 4) nan) (j % 4)) (start_of l.row) (4 * l.i) l.initial.dest l.dest
