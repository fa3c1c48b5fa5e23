-- The gradients are drawn from the seed's start, and the selector from the state after them.
use mathlib.Core.Path.{ap, ◌∙◌}
use mir.Syntax.{w32}
use mir.ValLaws.{to_z-of_z}
use Rattle.turbulence.specs.Random.{start_of}
use Rattle.turbulence.specs.Selector.{selector}
use Rattle.turbulence.specs.Gradient.{after_pairs, drawn_x, drawn_y, side_by_side}
use Rattle.turbulence.specs.Tables.{selector_of, gradients_x, gradients_y}
use Rattle.turbulence.proofs.tables.init.Goals as goal

pub returns : goal.returns
unfolding selector_of gradients_x gradients_y
returns c =
    let started = c.start.ensures.0 ∙ ap start_of (to_z-of_z w32 c.args.seed c.ranges.seed) in (
      c.lattice_selector.ensures ∙ ap selector (c.draw_pairs-drawn.ensures.2 ∙ ap (after_pairs 1024) started),
      c.side_by_side.ensures ∙ ap side_by_side (c.draw_pairs-drawn.ensures.0 ∙ ap drawn_x started),
      c.side_by_side-2.ensures ∙ ap side_by_side (c.draw_pairs-drawn.ensures.1 ∙ ap drawn_y started),
    )
