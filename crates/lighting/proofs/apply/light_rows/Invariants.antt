-- Each turn stores one more row of the strip.
use Rattle.lighting.specs.Inner.Rows.{StripDone}
use Rattle.lighting.proofs.apply.light_rows.Given as goal

abbrev pub invariant-loop-y : goal.invariant-loop-y
invariant-loop-y l = StripDone l.lighting l.strip l.src l.y l.dest
