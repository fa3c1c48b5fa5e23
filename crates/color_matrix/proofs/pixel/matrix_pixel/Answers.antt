-- Each channel is its row's sum.
use mathlib.Core.Path.{ap, ◌∙◌}
use Rattle.floats.specs.Channel.{from_normalized}
use Rattle.sheet.proofs.Filling.{channels_as}
use Rattle.color_matrix.specs.Rows.{sum}
use Rattle.color_matrix.proofs.pixel.matrix_pixel.Goals as goal

pub returns : goal.returns
returns c =
    channels_as c.of.ensures
    (c.applied.ensures ∙ ap (λ x. from_normalized (sum c.args.r x)) c.to_normalized_components-c.ensures)
    (c.applied-2.ensures ∙ ap (λ x. from_normalized (sum c.args.g x)) c.to_normalized_components-c.ensures)
    (c.applied-3.ensures ∙ ap (λ x. from_normalized (sum c.args.b x)) c.to_normalized_components-c.ensures)
    (c.applied-4.ensures ∙ ap (λ x. from_normalized (sum c.args.a x)) c.to_normalized_components-c.ensures)
