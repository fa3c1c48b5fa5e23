-- Each turn stores the float of one word.
use Rattle.std.proofs.Common.{length}
use lib.Ieee.{nan}
use Rattle.turbulence.proofs.Filled.{Filled}
use Rattle.stored.specs.Words.{float}
use Rattle.stored.proofs.words.Words.floats.Given as goal

abbrev pub invariant-loop-i : goal.invariant-loop-i
invariant-loop-i l = Filled nan (float l.self.list.now l.self.at) (length l.initial.numbers) l.numbers l.i
