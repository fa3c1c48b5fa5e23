-- Each channel is looked up at its own byte.
use mathlib.Core.Path.{ap, ◌∙◌}
use lib.ListN.{get_or}
use Rattle.sheet.proofs.Filling.{channels_as}
use Rattle.component_transfer.proofs.lookup.looked_up.Goals as goal

pub returns : goal.returns
returns c =
    channels_as c.of.ensures
    (ap (λ i. get_or c.args.r.now i 0) (c.from.ensures ∙ c.red.ensures))
    (ap (λ i. get_or c.args.g.now i 0) (c.from-2.ensures ∙ c.green.ensures))
    (ap (λ i. get_or c.args.b.now i 0) (c.from-3.ensures ∙ c.blue.ensures))
    (ap (λ i. get_or c.args.a.now i 0) (c.from-4.ensures ∙ c.alpha.ensures))
