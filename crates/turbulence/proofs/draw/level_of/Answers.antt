-- Each step by its call.
use Rattle.turbulence.specs.Inner.Levels.{level_of}
use Rattle.turbulence.proofs.draw.level_of.Goals as goal

pub returns : goal.returns
unfolding level_of
returns c = rw (← c.to_f32.ensures, ← c.bound.ensures) c.to_byte.ensures
