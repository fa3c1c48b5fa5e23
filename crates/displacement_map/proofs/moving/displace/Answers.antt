-- Each turn stores one more row.
use Rattle.std.proofs.Common.{◌≡◌, ◌∙◌, arith}
use Rattle.sheet.proofs.Places.{rows}
use Rattle.sheet.proofs.Tabulated.{tabulated}
use Rattle.displacement_map.specs.Inner.Rows.{moved_at}
use Rattle.displacement_map.proofs.Rows.{row_more}
use Rattle.displacement_map.proofs.moving.displace.Goals as goal

pub loop-y-preserved : goal.loop-y-preserved
loop-y-preserved c = record {
  same = c.displace_row.ensures.same ∙ c.loop-y.invariant.same;
  stored = row_more (moved_at c.args.columns.now c.args.rows.now c.args.picture.now c.args.map.now) c.args.picture.now.width c.loop-y.y c.displace_row.ensures c.loop-y.invariant.stored;
}

pub returns : goal.returns
returns c =
    let z : c.loop-y.y ≡ c.args.picture.now.height = omega arith in
    let all = rw z at c.loop-y.invariant.stored in
    tabulated _ _ _ (c.loop-y.invariant.same ∙ c.requires.dest_len) (λ k l. all k (omega (arith, rows c.args.picture.now.width c.args.picture.now.height)))
