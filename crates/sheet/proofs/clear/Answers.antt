-- So many zeros are the table of zeros.
use lib.ListN.{length}
use mathlib.Core.Path.{◌∙◌}
use Rattle.sheet.proofs.Tabulated.{replicated}
use Rattle.sheet.proofs.clear.Goals as goal

pub returns : goal.returns
returns c = c.fill.ensures.after (λ y e. e) ∙ replicated (length c.args.dst.now) 0
