-- The picked sheet is copied, and its call passes the tests that the runner passed.
use mathlib.Core.Path.{ap, ◌∙◌}
use mathlib.Core.List.{[]}
use Rattle.sheet.proofs.Contracts.{holds_new}
use Rattle.component_transfer.specs.ComponentTransfer.{answer, transferred}
use Rattle.filter.proofs.Acting.{passed, copied_whole, copy_fits}
use Rattle.filter.proofs.step.transfer_into.Goals as goal

pub returns : goal.returns
unfolding answer
returns c =
    let copied = c.copy.ensures ∙ copied_whole c.args.size.width c.args.size.height c.args.src.now c.args.out.now [] c.requires.out_value in
    holds_new c.apply.ensures.held (passed (copy_fits c.args.size.width c.args.size.height c.args.src.now c.args.out.now [] c.requires.out_value copied) c.requires.pool_value) ∙ ap (transferred _ _ _ _) copied
