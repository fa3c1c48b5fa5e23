-- Before step i the slots are as the first i steps leave them.
use mathlib.Core.Path.{◌≡◌}
use lib.ListN.{length}
use Rattle.recipe.specs.Tests.{step_of}
use Rattle.filter.specs.Slots.{slots, acts}
use Rattle.filter.proofs.Acting.{Keeping}
use Rattle.filter.proofs.step.do_steps.Given as goal

abbrev pub invariant-loop-i : goal.invariant-loop-i
invariant-loop-i l = Keeping (length l.initial.s1) (length l.initial.s2) (length l.initial.s3) (length l.initial.scratch) l.s1 l.s2 l.s3 l.scratch l.i l.recipe.count × (slots l.s0 l.s1 l.s2 l.s3 ≡ acts l.pool l.size.width l.size.height (step_of l.recipe) l.i (slots l.s0 l.initial.s1 l.initial.s2 l.initial.s3))
