-- A channel's number beside its values.
use Rattle.std.specs.Prelude.{ℕ}
use Rattle.sheet.specs.Answer.{Answer}
use Rattle.nuprikhen.specs.declared.nup_component_transfer.Numbered.{Numbered}
use Rattle.nuprikhen.specs.Numbers as numbers

abbrev pub tested : Numbered → Answer
tested n = numbers.numbered_answer n.kind n.values.now

abbrev pub byte_of : Numbered → ℕ → ℕ
byte_of n = numbers.byte_by n.kind n.values.now
