-- Each turn makes the numbers of one more place.
use Prim.Native.Nat.{◌*◌}
use native.Mathlib.Omega.{arith}
use Rattle.convolve_matrix.proofs.Widening.{widened_join, widened_place, numbers_stored}
use Rattle.convolve_matrix.proofs.rows.widen_places.Goals as goal

pub loop-e-preserved : goal.loop-e-preserved
loop-e-preserved c =
    widened_join _ _ _ _ _ c.loop-e.auto.e (omega arith) c.loop-e.invariant
    (widened_place _ _ _ _ _ _ _ c.place-column.ensures.value (numbers_stored _ (4 * c.place-column.result) (4 * c.loop-e.e) 4 _ _ _ _ (omega arith) (omega arith) (omega arith) (omega arith) (omega arith) c.to_numbers.ensures))
