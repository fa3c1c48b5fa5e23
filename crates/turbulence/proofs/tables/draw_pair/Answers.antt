-- The two draws in order, each side divided by the length.
use borrow.Author.Rules.{rules}
use Rattle.turbulence.specs.Gradient.{gradient_x, gradient_y}
use Rattle.turbulence.proofs.tables.draw_pair.Goals as goal

pub returns : goal.returns
unfolding gradient_x gradient_y
returns c =
    (simp (c.pair_length-length.ensures, c.component_of-u.ensures, c.component_of-v.ensures, c.random-second.ensures.0, c.random-first.ensures.0), simp (c.pair_length-length.ensures, c.component_of-u.ensures, c.component_of-v.ensures, c.random-second.ensures.0, c.random-first.ensures.0), simp (c.random-second.ensures.0, c.random-first.ensures.0), search rules)
