-- The count, and then as many of the numbers as were passed.
use mathlib.Core.Path.{refl, ◌∙◌}
use native.Mathlib.Omega.{arith}
use lib.Ieee.{nan}
use Rattle.message.proofs.Puts.{wrote_then, wrote_as, wrote_none, bits_more, bits_all}
use Rattle.message.proofs.writer.Writer.numbers.Goals as goal

pub loop-x-init : goal.loop-x-init
loop-x-init c = record { name = refl; wrote = wrote_none _ }

pub number-requires-in-loop-x : goal.number-requires-in-loop-x
number-requires-in-loop-x c =
    let a = c.number.ensures.wrote.bounded in
    let b = c.loop-x.invariant.wrote.bounded in
    let r = c.requires in
    let t = c.loop-x-test.true in
    omega arith

pub loop-x-preserved : goal.loop-x-preserved
loop-x-preserved c = record {
  name = c.number-in-loop-x.ensures.same ∙ c.loop-x.invariant.name;
  wrote = wrote_as (wrote_then c.loop-x.invariant.wrote c.number-in-loop-x.ensures.wrote) (bits_more _ c.loop-x.x-index nan c.bits_of.ensures c.loop-x-test.true) (omega arith);
}

pub returns-clause-wrote : goal.returns-clause-wrote
returns-clause-wrote c =
    let e = c.loop-x.auto.x-index-end in
    wrote_as (wrote_then c.number.ensures.wrote c.loop-x.invariant.wrote) (bits_all c.args.numbers.now c.loop-x.x-index c.loop-x-test.false) (omega arith)
