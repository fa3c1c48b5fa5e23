-- So many numbers were taken and stored as were passed.
use mathlib.Core.Path.{◌≡◌}
use Rattle.message.specs.Fields.{read_floats}
use Rattle.message.specs.Inner.Reading.{words}
use Rattle.message.proofs.Listing.{Going}
use Rattle.message.proofs.lists.numbers.Given as goal

abbrev pub invariant-loop : goal.invariant-loop
invariant-loop l = record {
  message : l.reader.message ≡ l.initial.reader.message;
  name : l.pool.numbers.ghost_name ≡ l.fn.pool.numbers.ghost_name;
  going : Going (read_floats l.count (words l.initial.reader)) l.count l.reader l.fn.pool l.pool l.counter;
}
