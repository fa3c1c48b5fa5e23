use Rattle.nuprikhen.proofs.Naming.{channel_names}
use Rattle.nuprikhen.proofs.nup_displacement_map.channel_of.Goals as goal

pub returns : goal.returns
returns c = rw (c.or.ensures, c.try_from.ensures, c.from.ensures) (channel_names c.args.number)
