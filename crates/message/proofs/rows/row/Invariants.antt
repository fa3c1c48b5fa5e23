-- What was taken so far, then what the rest of the row gives, is what the row gives.
use Prim.Native.Nat.{◌≤◌}
use mathlib.Core.Path.{◌≡◌}
use lib.ListN.{length}
use Rattle.message.specs.Inner.Reading.{words, read_block}
use Rattle.message.proofs.Blocks.{Going}
use Rattle.message.proofs.rows.row.Given as goal

abbrev pub invariant-loop-i : goal.invariant-loop-i
invariant-loop-i g l = record {
  same : l.reader.message ≡ l.initial.reader.message;
  further : l.initial.reader.at ≤ l.reader.at;
  bounds : length l.most ≡ g.row.N;
  long : length l.words ≡ g.row.N;
  going : Going l.most (read_block l.most (words l.initial.reader)) l.words l.reader l.i;
}
