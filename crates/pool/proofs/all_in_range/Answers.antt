-- The test of all is the definition's.
use borrow.Author.Rules.{rules}
use mathlib.Core.Path.{◌∙◌}
use Rattle.pool.specs.Pool.{in_range}
use Rattle.std.proofs.lemmas.Iterator.{YieldsList-from_slice}
use Rattle.std.proofs.lemmas.Iterator.Search.{all_from_yields_List}
use Rattle.pool.proofs.Each.{all_list}
use Rattle.pool.proofs.all_in_range.Goals as goal

pub returns : goal.returns
returns c = all_from_yields_List in_range _ _ _ c.all.ensures.ran (YieldsList-from_slice c.args.numbers.now cc) (λ x b q k. search rules) ∙ all_list in_range c.args.numbers.now
