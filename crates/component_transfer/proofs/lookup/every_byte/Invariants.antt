-- Each turn stores one more byte of the function.
use mathlib.Core.Path.{◌≡◌}
use lib.ListN.{length}
use Rattle.sheet.proofs.Filling.{Filling}
use Rattle.component_transfer.specs.ComponentTransfer.{transfer}
use Rattle.component_transfer.proofs.lookup.every_byte.Given as goal

abbrev pub invariant-loop-i : goal.invariant-loop-i
invariant-loop-i l = Filling (transfer l.f l.pool) l.initial.bytes l.bytes l.i × (length l.initial.bytes ≡ 256)
