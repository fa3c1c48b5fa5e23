-- As many of the numbers were written as were passed.
use mathlib.Core.Path.{refl, ◌∙◌}
use native.Mathlib.Omega.{arith}
use lib.Seq.{take_all}
use Rattle.std.proofs.Common.{rules}
use Rattle.message.proofs.Puts.{wrote_then, wrote_as, wrote_none, take_more}
use Rattle.message.proofs.writer.Writer.row.Goals as goal

pub loop-word-init : goal.loop-word-init
loop-word-init g c = record { name = refl; long = search rules; wrote = wrote_none _ }

pub number-requires : goal.number-requires
number-requires g c = let w = c.loop-word.invariant.wrote.bounded in let r = c.requires in let t = c.loop-word-test.true in omega arith

pub loop-word-preserved : goal.loop-word-preserved
loop-word-preserved g c = record {
  name = c.number.ensures.same ∙ c.loop-word.invariant.name;
  long = c.loop-word.invariant.long;
  wrote = wrote_as (wrote_then c.loop-word.invariant.wrote c.number.ensures.wrote) (take_more _ c.loop-word.word-index 0 (let n = c.loop-word.invariant.long in let t = c.loop-word-test.true in omega arith)) (omega arith);
}

pub returns-clause-wrote : goal.returns-clause-wrote
returns-clause-wrote g c =
    wrote_as c.loop-word.invariant.wrote (take_all _ _ (let n = c.loop-word.invariant.long in let t = c.loop-word-test.false in omega arith)) (let t = c.loop-word.auto.word-index-end in omega arith)
