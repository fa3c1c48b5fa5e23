-- Each turn takes in one more column of the window.
use Prim.Native.Nat.{◌+◌, ◌-◌, ◌*◌}
use native.Mathlib.Omega.{arith}
use Rattle.convolve_matrix.specs.Inner.Strips.{shifted_of}
use Rattle.convolve_matrix.proofs.Summing.{added_none, added_more, sums_grown, column_added}
use Rattle.convolve_matrix.proofs.strip.Strip.add_columns.Goals as goal

pub loop-ox-init : goal.loop-ox-init
loop-ox-init c = added_none _ _ _

pub loop-ox-preserved : goal.loop-ox-preserved
loop-ox-preserved c =
    let span = rw (c.across-across.ensures.mode, c.across-across.ensures.target, c.across-across.ensures.places) at c.span-span.ensures in
    let from = c.span-span.result.start in
    let to = c.span-span.result.end in
    let o = span.ordered in
    let w = span.within in
    let grown = sums_grown _ c.args.row.now c.loop-ox.sums c.accumulate.new.sums (4 * (from + c.loop-ox.ox)) (4 * from) (4 * (to - from)) _ _ (omega arith) (omega arith) (omega arith) (omega arith) (omega arith) c.accumulate.ensures in
    added_more _ (shifted_of c.args.self.now c.args.row.now c.args.oy) _ c.loop-ox.invariant (column_added _ _ _ _ _ c.args.self.now.whole.kernel.now _ _ c.args.row.now _ from to span c.loop-ox.sums _ grown)
