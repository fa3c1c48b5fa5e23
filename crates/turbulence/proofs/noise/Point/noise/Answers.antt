-- The lines of the definition, each by its call.
use Rattle.turbulence.proofs.Points.{noise_is}
use Rattle.turbulence.proofs.noise.Point.noise.Goals as goal

pub returns : goal.returns
returns c =
    noise_is _ _ c.args.c c.args.self.now c.along.ensures c.along-2.ensures c.lerp-upper.ensures c.along-3.ensures c.along-4.ensures c.lerp-lower.ensures c.lerp.ensures
