-- The colours are the three rows' sums, and alpha is kept.
use mathlib.Core.Path.{ap, ◌∙◌}
use Rattle.floats.specs.Channel.{from_normalized}
use Rattle.sheet.proofs.Filling.{channels_as}
use Rattle.color_matrix.specs.Rows.{colour_sum}
use Rattle.color_matrix.proofs.pixel.colour_pixel.Goals as goal

pub returns : goal.returns
returns c =
    channels_as c.of.ensures
    (c.colour_applied.ensures ∙ ap (λ x. from_normalized (colour_sum c.args.r x)) c.to_normalized_components-c.ensures)
    (c.colour_applied-2.ensures ∙ ap (λ x. from_normalized (colour_sum c.args.g x)) c.to_normalized_components-c.ensures)
    (c.colour_applied-3.ensures ∙ ap (λ x. from_normalized (colour_sum c.args.b x)) c.to_normalized_components-c.ensures)
    c.alpha.ensures
