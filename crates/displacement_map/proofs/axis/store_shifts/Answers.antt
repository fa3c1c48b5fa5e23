-- Each turn stores the shift of one more byte.
use Rattle.std.proofs.Common.{◌≡◌, get_or, set, ◌∙◌, not-suc-le-zero, arith, length-set, get_or-set_other, get_or-set_same, below_more}
use lib.Ieee.{nan}
use Rattle.displacement_map.specs.DisplacementMap.{shift}
use Rattle.displacement_map.proofs.axis.store_shifts.Goals as goal

pub loop-i-init : goal.loop-i-init
loop-i-init c = (c.told-values, λ k h. absurd (not-suc-le-zero h))

pub loop-i-preserved : goal.loop-i-preserved
loop-i-preserved c = (
  length-set c.loop-i.values c.loop-i.i c.shift.result ∙ c.loop-i.invariant.0,
  below_more (λ k. get_or (set c.loop-i.values c.loop-i.i c.shift.result) k nan ≡ shift c.args.s c.args.scale k) c.loop-i.i
      (λ k l. get_or-set_other c.loop-i.values c.loop-i.i k c.shift.result nan (omega arith) ∙ c.loop-i.invariant.1 k l)
      (get_or-set_same c.loop-i.values c.loop-i.i c.shift.result nan (omega arith) ∙ c.shift.ensures),
)

pub returns : goal.returns
returns c = λ k h. c.loop-i.invariant.1 k (omega arith)
