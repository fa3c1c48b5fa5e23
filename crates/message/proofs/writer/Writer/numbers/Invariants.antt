-- As many of the numbers were written as were passed.
use Prim.Native.Nat.{◌*◌}
use mathlib.Core.Path.{◌≡◌}
use mathlib.Core.List.{map}
use lib.ListN.{take}
use Rattle.message.specs.Fields.{bits}
use Rattle.message.specs.Inner.Writing.{Wrote}
use Rattle.message.proofs.writer.Writer.numbers.Given as goal

abbrev pub invariant-loop-x : goal.invariant-loop-x
invariant-loop-x l = record {
  name : l.self.out.ghost_name ≡ l.initial.self.out.ghost_name;
  wrote : Wrote (5 * l.x-index) (map bits (take l.x-index l.numbers)) l.initial.self l.self;
}
