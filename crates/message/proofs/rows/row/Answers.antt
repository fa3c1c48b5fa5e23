-- What was taken so far, then what the rest of the row gives, is what the row gives.
use mathlib.Core.Path.{refl, ◌∙◌}
use native.Mathlib.Omega.{arith}
use lib.ListN.{length-set}
use Rattle.std.proofs.Common.{rules}
use Rattle.message.proofs.Results.{passed_on}
use Rattle.message.proofs.Taking.{here, on, nothing}
use Rattle.message.proofs.Blocks.{going_stop, going_wrong, going_next, going_done, row_well, row_ill}
use Rattle.message.proofs.rows.row.Goals as goal

pub returns-in_err-n-clause-row : goal.returns-in_err-n-clause-row
returns-in_err-n-clause-row g c =
    row_ill (passed_on _ _ c.from_residual.ensures.1) (going_stop c.loop-i.invariant.going (let b = c.loop-i.invariant.bounds in omega arith) (nothing c.loop-i.reader c.number.new.self c.number.ensures.same c.number.ensures.number c.in_err-n.was))

pub returns-then-most-i-clause-row : goal.returns-then-most-i-clause-row
returns-then-most-i-clause-row g c =
    row_ill refl (going_wrong c.loop-i.invariant.going (let b = c.loop-i.invariant.bounds in omega arith) c.number.new.self (here c.loop-i.reader c.number.new.self c.number.ensures.same c.number.ensures.number c.in_ok-n.was) c.if-most-i.true (search rules))

pub loop-i-preserved : goal.loop-i-preserved
loop-i-preserved g c =
    let o = on c.loop-i.reader c.number.new.self c.number.ensures.same c.number.ensures.number c.in_ok-n.was in
    record {
      same = c.number.ensures.same ∙ c.loop-i.invariant.same;
      further = let f = c.loop-i.invariant.further in omega arith;
      bounds = c.loop-i.invariant.bounds;
      long = simp length-set c.loop-i.invariant.long;
      going = going_next c.loop-i.invariant.going (let b = c.loop-i.invariant.bounds in omega arith) c.number.new.self (here c.loop-i.reader c.number.new.self c.number.ensures.same c.number.ensures.number c.in_ok-n.was) c.if-most-i.false (let b = c.loop-i.invariant.long in omega arith);
    }

pub returns-clause-row : goal.returns-clause-row
returns-clause-row g c = row_well _ (let b = c.loop-i.invariant.bounds in let w = c.loop-i.invariant.long in going_done c.loop-i.invariant.going (omega arith) (omega arith) (omega arith)) c.loop-i.invariant.further
