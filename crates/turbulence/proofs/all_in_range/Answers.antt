-- The definition's chain, by the tests that led there.
use native.Mathlib.Omega.{arith}
use Rattle.std.proofs.lemmas.Grind.{common_steps}
use Rattle.turbulence.specs.Turbulence.{all_in_range}
use Rattle.sheet.proofs.Answers.{tests}
use Rattle.turbulence.proofs.all_in_range.Goals.{then-offsets, else-offsets, then-scales, else-scales}
use Rattle.turbulence.proofs.all_in_range.Goals as goal

pub returns-then-frequencies : goal.returns-then-frequencies
unfolding all_in_range
returns-then-frequencies c = let h = c.if-frequencies.true in search (tests, c.both_within-offsets.ensures, c.both_within-scales.ensures, c.both_within-frequencies.ensures)

pub returns-else-frequencies : goal.returns-else-frequencies
unfolding all_in_range
returns-else-frequencies c =
    let h = c.if-frequencies.either in
    rw (← c.both_within-offsets.ensures, ← c.both_within-scales.ensures, ← c.both_within-frequencies.ensures)
    (elim c.if-scales.branch [ then-scales w ↦ grind (arith, common_steps) | else-scales w ↦ elim c.if-offsets.branch [ then-offsets v ↦ grind (arith, common_steps) | else-offsets v ↦ grind (arith, common_steps) ] ])
