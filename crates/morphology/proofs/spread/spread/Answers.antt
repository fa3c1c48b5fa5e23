-- Each turn takes in one neighbour more on either side, so the window grows with the turns.
use borrow.Author.Rules.{rules}
use Prim.Native.Nat.{◌+◌}
use mathlib.Core.Path.{◌≡◌, refl}
use native.Mathlib.Omega.{arith}
use Rattle.morphology.proofs.Spreading.{shift_inside, spread_none, spread_more}
use Rattle.morphology.proofs.spread.spread.Goals as goal

pub loop-reached-init : goal.loop-reached-init
loop-reached-init c = (search rules, (refl, spread_none _ _ _ _ _ _ c.requires))

pub overflow_mul-shift : goal.overflow_mul-shift
overflow_mul-shift c = let l = shift_inside c.args.step (c.loop-reached.reached + 1) c.args.count (search rules) in search rules

pub overflow_sub-n : goal.overflow_sub-n
overflow_sub-n c = let l = shift_inside c.args.step (c.loop-reached.reached + 1) c.args.count (search rules) in search rules

pub overflow_add-first : goal.overflow_add-first
overflow_add-first c = let l = shift_inside c.args.step (c.loop-reached.reached + 1) c.args.count (search rules) in search rules

pub merge-requires : goal.merge-requires
merge-requires c =
    let l = shift_inside c.args.step (c.loop-reached.reached + 1) c.args.count (search rules) in search rules

pub overflow_add-first-in-loop-reached : goal.overflow_add-first-in-loop-reached
overflow_add-first-in-loop-reached c =
    let l = shift_inside c.args.step (c.loop-reached.reached + 1) c.args.count (search rules) in search rules

pub merge-requires-in-loop-reached : goal.merge-requires-in-loop-reached
merge-requires-in-loop-reached c =
    let l = shift_inside c.args.step (c.loop-reached.reached + 1) c.args.count (search rules) in search rules

pub loop-reached-preserved : goal.loop-reached-preserved
loop-reached-preserved c =
    (search rules, (c.loop-reached.invariant.1.0, spread_more _ _ _ _ _ _ c.loop-reached.reached (_) refl _ _ _ (shift_inside c.args.step (c.loop-reached.reached + 1) c.args.count (search rules)) c.merge.ensures c.merge-in-loop-reached.ensures c.loop-reached.invariant.1.1))

pub returns : goal.returns
returns c =
    let z : c.loop-reached.reached ≡ c.args.radius = omega arith in
    rw z at c.loop-reached.invariant.1.1
