-- The copies make the lists agree before each pass, and the two passes make the rectangle.
use mathlib.Core.Path.{sym, ap, ◌∙◌}
use lib.ListN.{length}
use Rattle.sheet.specs.Tabulate.{zeros}
use Rattle.sheet.proofs.Tabulated.{copied_all}
use Rattle.morphology.proofs.Passes.{column_lines, passes}
use Rattle.morphology.proofs.spread.spread_sheet.Goals as goal

pub spread_rows-requires : goal.spread_rows-requires
spread_rows-requires c = record { sized = (c.requires.sized.0, c.requires.sized.1); src_len = c.requires.src_len; scratch_value = c.copy.ensures ∙ copied_all _ _ (c.requires.src_len ∙ sym c.requires.scratch_len) }

pub spread-requires : goal.spread-requires
spread-requires c =
    column_lines _ _ _ _ _ c.requires.sized.2 (c.spread_rows.ensures.same ∙ c.requires.src_len) (c.copy-2.ensures ∙ copied_all _ _ c.spread_rows.ensures.same)

pub returns : goal.returns
returns c =
    let copied = c.copy-2.ensures ∙ copied_all _ _ c.spread_rows.ensures.same in
    record { src_after = passes _ _ _ _ _ _ _ _ _ c.requires.sized.0.wide c.requires.src_len c.spread_rows.ensures c.spread.ensures (ap length copied ∙ (c.spread_rows.ensures.same ∙ c.requires.src_len)); scratch_after = c.clear.ensures ∙ ap zeros (c.spread_rows.ensures.same ∙ (c.requires.src_len ∙ sym c.requires.scratch_len)) }
