-- Each byte passed is src's; past the shorter length a byte is dst's own.
use native.Mathlib.Omega.{arith}
use Rattle.sheet.proofs.Filling.{fill_start, copy_store, copy_done}
use Rattle.sheet.proofs.copy.Goals as goal

pub loop-i-init : goal.loop-i-init
loop-i-init c = fill_start _ _

pub loop-i-preserved : goal.loop-i-preserved
loop-i-preserved c = copy_store c.args.src.now c.args.dst.now c.loop-i.invariant (omega (arith, c.min-n.ensures))

pub returns : goal.returns
returns c = copy_done c.args.src.now c.args.dst.now c.loop-i.invariant (omega (arith, c.min-n.ensures))
