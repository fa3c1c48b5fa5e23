-- Each turn stores one column.
use borrow.Author.Rules.{rules}
use mathlib.Core.Path.{◌≡◌}
use native.Mathlib.Omega.{arith}
use lib.ListN.{length}
use native.Mathlib.Nat.{not-suc-le-zero}
use Rattle.std.proofs.lemmas.Slice.{overwrites}
use Rattle.turbulence.proofs.Columns.{columns_fit, columns_more}
use Rattle.turbulence.proofs.draw.Drawing.store_columns.Goals as goal

pub loop-i-init : goal.loop-i-init
loop-i-init c = ((λ i h. absurd (not-suc-le-zero h)), search rules)

pub loop-i-preserved : goal.loop-i-preserved
loop-i-preserved c =
    let room = columns_fit c.loop-i.i c.args.self.now.t.num_octaves (omega arith) (omega arith) in
    let long : length c.store_column.new.column ≡ c.args.self.now.t.num_octaves = search (rules, overwrites) in
    (columns_more c.args.self.now.t c.args.self.now.tables.now c.args.strip.first c.loop-i.i _ _ (omega arith) long c.point_on-x0.ensures c.store_column.ensures c.loop-i.invariant.0, search (rules, overwrites))
