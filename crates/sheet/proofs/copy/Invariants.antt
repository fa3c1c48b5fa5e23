-- Each byte passed is src's; past the shorter length a byte is dst's own.
use Rattle.sheet.specs.Tabulate.{copied_at}
use Rattle.sheet.proofs.Filling.{Filling}
use Rattle.sheet.proofs.copy.Given as goal

abbrev pub invariant-loop-i : goal.invariant-loop-i
invariant-loop-i l = Filling (copied_at l.initial.src l.initial.dst) l.initial.dst l.dst l.i
