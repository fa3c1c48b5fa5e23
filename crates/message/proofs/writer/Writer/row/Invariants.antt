-- As many of the numbers were written as were passed.
use Prim.Native.Nat.{◌*◌}
use mathlib.Core.Path.{◌≡◌}
use lib.ListN.{length, take}
use Rattle.message.specs.Inner.Writing.{Wrote}
use Rattle.message.proofs.writer.Writer.row.Given as goal

abbrev pub invariant-loop-word : goal.invariant-loop-word
invariant-loop-word g l = record {
  name : l.self.out.ghost_name ≡ l.initial.self.out.ghost_name;
  long : length l.fn.words ≡ g.row.N;
  wrote : Wrote (5 * l.word-index) (take l.word-index l.fn.words) l.initial.self l.self;
}
