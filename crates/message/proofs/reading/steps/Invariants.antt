-- What was taken so far, then what the rest of the steps gives, is what the steps give.
use mathlib.Core.Path.{◌≡◌}
use Rattle.message.specs.Message.{read_steps}
use Rattle.message.specs.Inner.Reading.{words}
use Rattle.message.proofs.Series.{Going}
use Rattle.message.proofs.reading.steps.Given as goal

abbrev pub invariant-loop-i : goal.invariant-loop-i
invariant-loop-i l = record {
  message : l.reader.message ≡ l.initial.reader.message;
  name : l.pool.numbers.ghost_name ≡ l.initial.pool.numbers.ghost_name;
  going : Going (read_steps l.count l.initial.pool.used (words l.initial.reader)) l.count l.reader l.initial.pool l.pool l.steps l.i;
}
