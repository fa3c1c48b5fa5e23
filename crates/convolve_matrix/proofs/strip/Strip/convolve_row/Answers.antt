-- The sums begin at 0, take in their windows, and are finished.
use native.Mathlib.Omega.{arith}
use Rattle.convolve_matrix.proofs.Finishing.{filled, row_finished}
use Rattle.convolve_matrix.proofs.strip.Strip.convolve_row.Goals as goal

pub returns : goal.returns
returns c =
    row_finished _ _ _ _ _ _ _ _ c.args.self.now.inside _ _ (filled c.args.work.now.sums c.fill.new.self _ _ _ (omega arith) (omega arith) (omega arith) (c.fill.ensures.after (λ y e. e))) c.add_rows.ensures c.finish_row.ensures
