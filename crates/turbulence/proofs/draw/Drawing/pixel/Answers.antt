-- Each channel by its call.
use lib.Dec.{lit<}
use Rattle.sheet.proofs.Filling.{channels_as}
use Rattle.turbulence.proofs.Bytes.{byte_is}
use Rattle.turbulence.proofs.draw.Drawing.pixel.Goals as goal

pub returns : goal.returns
returns c =
    λ x y column row.
    let sum = rw c.requires at (c.turbulence.ensures _ _ column row) in
    channels_as c.of.ensures
    (byte_is c.args.self.now.t _ 0 x y (sum 0 (lit< tt)) c.byte_of.ensures)
    (byte_is c.args.self.now.t _ 1 x y (sum 1 (lit< tt)) c.byte_of-2.ensures)
    (byte_is c.args.self.now.t _ 2 x y (sum 2 (lit< tt)) c.byte_of-3.ensures)
    (byte_is c.args.self.now.t _ 3 x y (sum 3 (lit< tt)) c.byte_of-4.ensures)
