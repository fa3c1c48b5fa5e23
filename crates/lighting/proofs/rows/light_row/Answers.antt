-- A distant light's one ray is the definition's at each pixel.
use borrow.Author.Rules.{rules}
use mathlib.Core.Path.{◌≡◌}
use Rattle.lighting.proofs.rows.light_row.Goals as goal

pub light_along-requires-clause-rays : goal.light_along-requires-clause-rays
light_along-requires-clause-rays c i v n h p q =
    let a : v ≡ c.in-Same.vector = search rules in
    let b : n ≡ c.in-Same.size = search rules in
    let r = rw c.in-Same.is at c.requires.of_light in
    rw (a, b) (r _ _ _)
