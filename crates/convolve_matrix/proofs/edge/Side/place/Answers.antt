-- Each mode is the definition's, and its place lies on the side.
use Rattle.convolve_matrix.proofs.Edging.{placed, by_nearest, by_remainder}
use Rattle.convolve_matrix.proofs.edge.Side.place.Goals as goal

pub returns-in-None : goal.returns-in-None
returns-in-None c =
    let e = by_nearest _ c.args.self.target c.args.self.places c.args.at c.in-None.is c.nearest.ensures in
    record { value = e; inside = rw e (placed _ _ _ c.args.self.some c.args.self.mode) }

pub returns-in-Wrap : goal.returns-in-Wrap
returns-in-Wrap c =
    let e = by_remainder _ c.args.self.target c.args.self.places c.args.at c.in-Wrap.is c.wrapped.ensures in
    record { value = e; inside = rw e (placed _ _ _ c.args.self.some c.args.self.mode) }
