-- A count, then so many numbers.
use mathlib.Core.Path.{◌≡◌, refl, ◌∙◌}
use native.Mathlib.Omega.{arith}
use lib.ListN.{length}
use Rattle.std.proofs.Common.{rules}
use Rattle.message.proofs.Results.{passed_on}
use Rattle.message.proofs.Taking.{here, on, nothing, well_taken, ill_taken, took_as}
use Rattle.message.proofs.Listing.{going_first, going_stop, going_next, going_done, numbers_here, no_numbers}
use Rattle.message.proofs.lists.numbers.Goals as goal

pub returns-in_err-count-clause-taken : goal.returns-in_err-count-clause-taken
returns-in_err-count-clause-taken c =
    ill_taken (passed_on _ _ c.from_residual.ensures.1) (no_numbers c.args.reader.now (nothing c.args.reader.now c.number.new.self c.number.ensures.same c.number.ensures.number c.in_err-count.was))

pub loop-init : goal.loop-init
loop-init c =
    let o = on c.args.reader.now c.number.new.self c.number.ensures.same c.number.ensures.number c.in_ok-count.was in
    let r = c.requires in
    record { message = refl; name = refl; going = going_first refl (omega arith) }

pub returns-in_err-bits-clause-same : goal.returns-in_err-bits-clause-same
returns-in_err-bits-clause-same c = (c.number-in-loop.ensures.same ∙ (c.loop.invariant.message ∙ c.number.ensures.same), c.loop.invariant.name)

pub returns-in_err-bits-clause-taken : goal.returns-in_err-bits-clause-taken
returns-in_err-bits-clause-taken c =
    ill_taken (passed_on _ _ c.from_residual-in_err-bits.ensures.1)
    (numbers_here c.args.reader.now c.number.new.self (here c.args.reader.now c.number.new.self c.number.ensures.same c.number.ensures.number c.in_ok-count.was)
    ∙ going_stop c.loop.invariant.going c.loop-test.true (nothing c.loop.reader c.number-in-loop.new.self c.number-in-loop.ensures.same c.number-in-loop.ensures.number c.in_err-bits.was))

pub push-requires : goal.push-requires
push-requires c =
    let o = on c.loop.reader c.number-in-loop.new.self c.number-in-loop.ensures.same c.number-in-loop.ensures.number c.in_ok-bits.was in
    let r = c.loop.invariant.going.room in
    let f = c.number-in-loop.ensures.fits in
    omega arith

pub loop-preserved : goal.loop-preserved
loop-preserved c =
    let o = on c.loop.reader c.number-in-loop.new.self c.number-in-loop.ensures.same c.number-in-loop.ensures.number c.in_ok-bits.was in
    record {
      message = c.number-in-loop.ensures.same ∙ c.loop.invariant.message;
      name = c.push.ensures.same ∙ c.loop.invariant.name;
      going = going_next c.loop.invariant.going c.loop-test.true c.number-in-loop.new.self (here c.loop.reader c.number-in-loop.new.self c.number-in-loop.ensures.same c.number-in-loop.ensures.number c.in_ok-bits.was) o (rw (← c.float_of.ensures) c.push.ensures.stored) c.push.ensures.used;
    }

pub returns-clause-same : goal.returns-clause-same
returns-clause-same c = (c.loop.invariant.message ∙ c.number.ensures.same, c.loop.invariant.name)

pub returns-clause-taken : goal.returns-clause-taken
returns-clause-taken c =
    let g = c.loop.invariant.going in
    let n : length g.done ≡ c.in_ok-count.count = let l = g.long in omega arith in
    well_taken _ (record {
      value = g.done;
      list = g.done;
      took = took_as (numbers_here c.args.reader.now c.number.new.self (here c.args.reader.now c.number.new.self c.number.ensures.same c.number.ensures.number c.in_ok-count.was)) (going_done g c.loop-test.false (search rules));
      fits = (refl, rw (n, c.min-start.ensures));
    })
