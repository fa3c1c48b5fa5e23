use Rattle.nuprikhen.proofs.Naming.{operator_names}
use Rattle.nuprikhen.proofs.nup_morphology.operator_of.Goals as goal

pub returns : goal.returns
returns c = rw (c.or.ensures, c.try_from.ensures, c.from.ensures) (operator_names c.args.op)
