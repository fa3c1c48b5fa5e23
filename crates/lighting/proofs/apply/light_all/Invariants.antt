-- Each turn stores one more strip of the result.
use Prim.Native.Nat.{◌*◌, min}
use Rattle.sheet.specs.Inner.Strips.{strip_limit, Worked}
use Rattle.lighting.specs.Lighting.{lit_at}
use Rattle.lighting.proofs.apply.light_all.Given as goal

abbrev pub invariant-loop-k : goal.invariant-loop-k
invariant-loop-k l = Worked (lit_at l.lighting l.width l.height l.src) l.width (min l.width (strip_limit * l.k)) 0 0 l.dest
