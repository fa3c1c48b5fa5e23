-- Each return rewrites with the test that led there.
use Rattle.turbulence.proofs.draw.scaled_sum.Goals as goal

pub returns-then-fractal : goal.returns-then-fractal
returns-then-fractal c = simp c.if-fractal.true

pub returns-else-fractal : goal.returns-else-fractal
returns-else-fractal c = simp c.if-fractal.false
