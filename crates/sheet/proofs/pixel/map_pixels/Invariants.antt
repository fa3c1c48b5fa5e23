-- The pixels passed are mapped.
use Rattle.sheet.proofs.Mapping.{Mapping}
use Rattle.sheet.proofs.pixel.map_pixels.Given as goal

abbrev pub invariant-loop-i : goal.invariant-loop-i
invariant-loop-i g l = Mapping (λ p. p.number) (goal.F-post g l.f) l.initial.sheet l.sheet l.i
