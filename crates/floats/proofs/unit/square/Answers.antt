-- `square` meets its contract: the product is exact. Assumes nothing.
use Rattle.floats.proofs.Units.{finite_widens}
use Rattle.floats.proofs.Squares.{squares}
use Rattle.floats.proofs.unit.square.Goals as goal

pub float_to_float-w : goal.float_to_float-w
float_to_float-w c = finite_widens c.args.x c.row_known-1.given c.requires

pub returns : goal.returns
returns c = squares c.args.x c.row_known-1.given c.requires
