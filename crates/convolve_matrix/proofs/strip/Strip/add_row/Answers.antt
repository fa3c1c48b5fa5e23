-- A row that is read is widened, and its columns are taken in.
use Rattle.sheet.proofs.Answers.{denied, allowed}
use Rattle.convolve_matrix.proofs.Summing.{row_skipped, row_added}
use Rattle.convolve_matrix.proofs.strip.Strip.add_row.Goals as goal

pub returns-then-not-is_read : goal.returns-then-not-is_read
returns-then-not-is_read c =
    let read = rw (c.down-down.ensures.mode, c.down-down.ensures.target, c.down-down.ensures.places) at c.is_read.ensures in
    row_skipped _ _ _ _ _ _ _ _ _ (denied read c.if-not-is_read.true) _

pub returns : goal.returns
returns c =
    let read = rw (c.down-down.ensures.mode, c.down-down.ensures.target, c.down-down.ensures.places) at c.is_read.ensures in
    let value = rw (c.down-down.ensures.mode, c.down-down.ensures.target, c.down-down.ensures.places) at c.place.ensures.value in
    let wide = rw (c.across.ensures.mode, c.across.ensures.target, c.across.ensures.places) at c.widen.ensures in
    row_added _ _ _ _ _ _ _ _ _ c.line-line.result.now (rw value at c.line-line.ensures.bytes) c.args.self.now.whole.sized.wide (allowed read c.if-not-is_read.false) wide c.add_columns.ensures
