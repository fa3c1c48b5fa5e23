-- The lengths are tested first; then the elements before i are stored.
use mathlib.Core.Path.{◌≡◌, refl}
use native.Mathlib.Omega.{arith}
use lib.ListN.{length}
use Rattle.sheet.proofs.Answers.{passed_on}
use Rattle.nuprikhen.proofs.Calls.{pair_same}
use Rattle.nuprikhen.proofs.Mapping.{images_start, images_store, into_refused, into_done}
use Rattle.nuprikhen.proofs.leaves.map_into.Goals as goal

pub returns-in_err-test : goal.returns-in_err-test
returns-in_err-test g c = into_refused c.test.ensures c.in_err-test.was (passed_on _ c.from_residual.ensures.1) refl

pub loop-i-init : goal.loop-i-init
loop-i-init g c = images_start (pair_same c.test.ensures c.in_ok-test.was)

pub bounds-out-i : goal.bounds-out-i
bounds-out-i g c = omega (arith, c.loop-i.invariant.same)

pub loop-i-preserved : goal.loop-i-preserved
loop-i-preserved g c = images_store c.loop-i.invariant c.loop-i-test.true c.index-xs-i.is c.f.ensures

pub returns : goal.returns
returns g c =
    let z : c.loop-i.i ≡ length c.args.xs.now = omega arith in
    into_done c.test.ensures c.in_ok-test.was (rw z at c.loop-i.invariant)
