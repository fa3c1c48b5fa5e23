-- Each channel is normalized.
use Rattle.color_matrix.proofs.pixel.to_normalized_components.Goals as goal

pub returns : goal.returns
returns c =
    simp (c.normalized.ensures, c.normalized-2.ensures, c.normalized-3.ensures, c.normalized-4.ensures, c.red.ensures, c.green.ensures, c.blue.ensures, c.alpha.ensures)
