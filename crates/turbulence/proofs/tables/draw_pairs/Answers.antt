-- Each turn stores the next pair, and carries the state after it.
use mathlib.Core.Path.{◌≡◌, refl, ap, ◌∙◌}
use native.Mathlib.Omega.{arith}
use Rattle.turbulence.specs.Gradient.{gradient_x, gradient_y, after_pairs, drawn_x, drawn_y}
use Rattle.turbulence.proofs.Filled.{filled_none, filled_more, filled_all}
use Rattle.turbulence.proofs.Draws.{after_one}
use Rattle.turbulence.proofs.tables.draw_pairs.Goals as goal

pub loop-d-init : goal.loop-d-init
unfolding after_pairs
loop-d-init c = (filled_none refl, filled_none refl, refl, c.requires)

pub loop-d-preserved : goal.loop-d-preserved
loop-d-preserved c = (
  filled_more _ c.loop-d.invariant.0 c.loop-d-test.true (c.draw_pair-drawn.ensures.0 ∙ ap gradient_x c.loop-d.invariant.2),
  filled_more _ c.loop-d.invariant.1 c.loop-d-test.true (c.draw_pair-drawn.ensures.1 ∙ ap gradient_y c.loop-d.invariant.2),
  after_one _ _ _ _ c.loop-d.invariant.2 c.draw_pair-drawn.ensures.2,
  c.draw_pair-drawn.ensures.3,
)

pub returns : goal.returns
unfolding drawn_x drawn_y
returns c =
    let end : c.loop-d.d ≡ 1024 = omega arith in
    (filled_all c.loop-d.invariant.0 c.loop-d-test.false, filled_all c.loop-d.invariant.1 c.loop-d-test.false, rw end at c.loop-d.invariant.2, c.loop-d.invariant.3)
