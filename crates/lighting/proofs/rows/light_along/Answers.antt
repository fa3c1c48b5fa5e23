-- The passes together give the definition's bytes.
use Rattle.lighting.proofs.LitRows.{row_done}
use Rattle.lighting.proofs.rows.light_along.Goals as goal

pub returns : goal.returns
returns g c =
    row_done c.args.lighting c.args.row.now _ _ c.requires.rays c.requires.sloped c.fill.ensures c.fill-2.ensures c.lit_row.ensures
