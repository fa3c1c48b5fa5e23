-- Each case is its own loop, over the numbers that it names.
use mathlib.Core.Path.{sym, ap, ◌∙◌}
use lib.ListN.{length}
use Rattle.color_matrix.specs.ColorMatrix.{matrix_answer, matrixed, coloured}
use Rattle.color_matrix.proofs.Twenty.{twenty_numbers}
use Rattle.color_matrix.proofs.apply_tested.Goals as goal

pub matrix-requires : goal.matrix-requires
matrix-requires c =
    let told = ap (λ m. matrix_answer m c.args.pool.now) (sym c.in-Matrix.is) in
    record { m_len = ap length c.part.ensures ∙ twenty_numbers _ _ (told ∙ c.requires.pool_value); src_len = c.requires.src_len }

pub returns-in-Matrix : goal.returns-in-Matrix
returns-in-Matrix c =
    rw c.in-Matrix.is (c.matrix.ensures ∙ ap (λ l. matrixed l c.args.src.now) c.part.ensures)

pub returns-in-Saturate : goal.returns-in-Saturate
returns-in-Saturate c =
    rw c.in-Saturate.is (c.colours.ensures ∙ ap (λ l. coloured l c.args.src.now) c.saturation-m.ensures)

pub returns-in-HueRotate : goal.returns-in-HueRotate
returns-in-HueRotate c =
    rw c.in-HueRotate.is (c.colours-in-HueRotate.ensures ∙ ap (λ l. coloured l c.args.src.now) c.rotation-m.ensures)

pub returns-in-LuminanceToAlpha : goal.returns-in-LuminanceToAlpha
returns-in-LuminanceToAlpha c = rw c.in-LuminanceToAlpha.is c.luminance.ensures
