-- The test of all is the definition's.
use borrow.Author.Rules.{rules}
use mathlib.Core.Path.{◌∙◌}
use lib.Ieee.Scale.{finite}
use Rattle.std.proofs.lemmas.Iterator.{YieldsList-from_slice}
use Rattle.std.proofs.lemmas.Iterator.Search.{all_from_yields_List}
use Rattle.pool.proofs.Each.{all_list}
use Rattle.pool.proofs.all_finite.Goals as goal

pub returns : goal.returns
returns c = all_from_yields_List finite _ _ _ c.all.ensures.ran (YieldsList-from_slice c.args.numbers.now cc) (λ x b q k. search rules) ∙ all_list finite c.args.numbers.now
