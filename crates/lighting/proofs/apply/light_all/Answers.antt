-- Each turn stores one more strip of the result.
use borrow.Author.Rules.{rules}
use Prim.Native.Nat.{◌+◌, ◌*◌, min}
use mathlib.Core.Path.{◌≡◌}
use native.Mathlib.Omega.{arith}
use Rattle.sheet.proofs.Strips.{worked_none, worked_strip, worked_next, worked_all}
use Rattle.sheet.specs.Inner.Strips.{strip_limit}
use Rattle.lighting.proofs.apply.light_all.Goals as goal

pub loop-k-init : goal.loop-k-init
loop-k-init c = let z : min c.args.width (strip_limit * 0) ≡ 0 = omega arith in rw z (worked_none _ _ _)

pub light_rows-requires-clause-strip_done : goal.light_rows-requires-clause-strip_done
light_rows-requires-clause-strip_done c =
    let z : min c.args.width (strip_limit * c.loop-k.k) ≡ strip_limit * c.loop-k.k = omega arith in
    worked_strip _ (rw z at c.loop-k.invariant)

pub loop-k-preserved : goal.loop-k-preserved
loop-k-preserved c =
    let z : min c.args.width (strip_limit * (c.loop-k.k + 1)) ≡ strip_limit * c.loop-k.k + c.strip_from-count.result = omega arith in
    rw z (worked_next c.args.width c.args.height c.requires.sized.wide (search rules) c.light_rows.ensures.strip_done)

pub returns : goal.returns
returns c = worked_all c.args.width c.args.height c.requires.sized.wide (search rules) c.loop-k.invariant (omega arith)
