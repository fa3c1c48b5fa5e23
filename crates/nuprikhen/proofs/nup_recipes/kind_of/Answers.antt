use Rattle.nuprikhen.proofs.Naming.{kind_names}
use Rattle.nuprikhen.proofs.nup_recipes.kind_of.Goals as goal

pub returns : goal.returns
returns c = rw (c.or.ensures, c.try_from.ensures, c.from.ensures) (kind_names c.args.kind)
