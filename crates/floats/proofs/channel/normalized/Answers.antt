-- `normalized` meets its contract: its sum is the quotient at each of the 256 bytes. Assumes nothing.
use Rattle.std.proofs.Common.{rules}
use Rattle.floats.proofs.EveryByte.{in_parts_lem}
use Rattle.floats.proofs.channel.normalized.Goals as goal

pub returns : goal.returns
returns c = in_parts_lem c.args.c (search rules)
