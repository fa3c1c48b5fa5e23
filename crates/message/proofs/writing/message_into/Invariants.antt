-- So far the count was written, and the steps that were passed.
use Prim.Native.Nat.{◌*◌}
use mathlib.Core.Path.{◌≡◌}
use mathlib.Core.List.{map}
use lib.ListN.{length, take}
use Rattle.message.specs.Steps.{parts_of}
use Rattle.message.specs.Message.{steps_words}
use Rattle.message.specs.Inner.Writing.{Wrote, step_most}
use Rattle.message.proofs.writing.message_into.Given as goal

abbrev pub invariant-loop-step : goal.invariant-loop-step
invariant-loop-step l = record {
  name : l.writer.out.ghost_name ≡ l.initial.writer.out.ghost_name;
  long : length l.fn.recipe.steps ≡ 16;
  wrote : Wrote (step_most * l.step-index) (steps_words (map (parts_of l.pool) (take l.step-index (take l.fn.recipe.count l.fn.recipe.steps)))) l.initial.writer l.writer;
}
