-- Each turn stores one column.
use mathlib.Core.Path.{◌≡◌}
use lib.ListN.{length}
use Rattle.turbulence.specs.Inner.Columns.{ColumnsOf}
use Rattle.turbulence.proofs.draw.Drawing.store_columns.Given as goal

abbrev pub invariant-loop-i : goal.invariant-loop-i
invariant-loop-i l = ColumnsOf l.self.t l.self.tables.now l.strip.first l.i l.columns × (length l.columns ≡ length l.initial.columns)
