-- The colours are 0, and alpha is the luminance row's sum.
use mathlib.Core.Path.{refl, ap, ◌∙◌}
use Rattle.floats.specs.Channel.{from_normalized}
use Rattle.sheet.proofs.Filling.{channels_as}
use Rattle.color_matrix.specs.Rows.{colour_sum, luminance}
use Rattle.color_matrix.proofs.pixel.luminance_pixel.Goals as goal

pub returns : goal.returns
returns c = channels_as c.of.ensures refl refl refl (c.colour_applied.ensures ∙ ap (λ x. from_normalized (colour_sum luminance x)) c.to_normalized_components-c.ensures)
