-- Each turn makes one more root.
use Rattle.std.proofs.Common.{◌∙◌, arith}
use Rattle.floats.proofs.FirstRoots.{one_more, all_done}
use Rattle.floats.proofs.root.roots.Goals as goal

pub loop-i-preserved : goal.loop-i-preserved
loop-i-preserved c = one_more c.args.values.now c.loop-i.values c.loop-i.i c.sqrt.result (omega arith) c.loop-i.auto.values c.loop-i.invariant c.sqrt.ensures

pub returns : goal.returns
returns c = c.loop-i.invariant ∙ all_done c.args.n c.loop-i.i c.args.values.now (omega arith)
