-- The picked sheet is copied, and its call passes the tests that the runner passed.
use mathlib.Core.Path.{ap, ◌∙◌}
use mathlib.Core.List.{[], ◌∷◌}
use lib.ListN.{length}
use Rattle.sheet.proofs.Contracts.{holds_new}
use Rattle.morphology.specs.Morphology.{answer, morphed}
use Rattle.filter.proofs.Acting.{passed, copied_whole, copy_fits}
use Rattle.filter.proofs.step.morphology_into.Goals as goal

pub returns : goal.returns
unfolding answer
returns c =
    let rest = length c.args.scratch.now ∷ [] in
    let copied = c.copy.ensures ∙ copied_whole c.args.size.width c.args.size.height c.args.src.now c.args.out.now rest c.requires.scratch_value in
    holds_new c.apply.ensures.filtered.held (passed (copy_fits c.args.size.width c.args.size.height c.args.src.now c.args.out.now rest c.requires.scratch_value copied) c.requires.ry_value) ∙ ap (morphed c.args.operator c.args.rx c.args.ry c.args.size.width c.args.size.height) copied
