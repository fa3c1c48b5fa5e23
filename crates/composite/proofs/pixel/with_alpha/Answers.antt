-- Each channel is made of the two channels and the new alpha.
use Rattle.sheet.proofs.Filling.{channels_as}
use Rattle.composite.specs.Arithmetic.{scaled}
use Rattle.composite.proofs.pixel.with_alpha.Goals as goal

pub returns : goal.returns
unfolding scaled
returns c =
    channels_as c.of.ensures
    (rw (c.red.ensures, c.red-2.ensures) at c.colour.ensures)
    (rw (c.green.ensures, c.green-2.ensures) at c.colour-2.ensures)
    (rw (c.blue.ensures, c.blue-2.ensures) at c.colour-3.ensures)
    c.scaled_to_byte.ensures
