-- So far the count was written, and the steps that were passed.
use mathlib.Core.Path.{refl, sym, ◌∙◌}
use native.Mathlib.Omega.{arith}
use lib.Seq.{length-take-le}
use Rattle.std.proofs.Common.{rules}
use Rattle.message.specs.Message.{steps_words}
use Rattle.message.proofs.Puts.{wrote_then, wrote_as, wrote_none, steps_more, message_bytes_lem, put_as}
use Rattle.message.proofs.writing.message_into.Goals as goal

pub number-requires : goal.number-requires
number-requires c = let z = c.new-writer.ensures.all.1 in omega arith

pub loop-step-init : goal.loop-step-init
unfolding steps_words
loop-step-init c = record { name = refl; long = search rules; wrote = wrote_none _ }

pub write_step-requires : goal.write_step-requires
write_step-requires c =
    let z = c.new-writer.ensures.all.1 in
    let a = c.number.ensures.wrote.bounded in
    let b = c.loop-step.invariant.wrote.bounded in
    let t = c.loop-step-test.true in
    let r = c.requires in
    let n = c.loop-step.invariant.long in
    let s = length-take-le c.args.recipe.count c.args.recipe.steps (omega arith) in
    omega arith

pub loop-step-preserved : goal.loop-step-preserved
loop-step-preserved c = record {
  name = c.write_step.ensures.same ∙ c.loop-step.invariant.name;
  long = c.loop-step.invariant.long;
  wrote = wrote_as (wrote_then c.loop-step.invariant.wrote c.write_step.ensures.wrote) (steps_more _ _ c.loop-step.step-index _ c.loop-step-test.true) (omega arith);
}

pub returns : goal.returns
returns c =
    let n = c.loop-step.invariant.long in
    let r = c.requires in
    let name = sym (c.loop-step.invariant.name ∙ (c.number.ensures.same ∙ c.new-writer.ensures.same)) in
    rw (← message_bytes_lem c.args.recipe c.args.pool.now c.loop-step.step-index c.loop-step-test.false (omega arith))
    (put_as (wrote_then c.number.ensures.wrote c.loop-step.invariant.wrote).put c.new-writer.ensures.all.0 c.new-writer.ensures.all.1 (search rules))
