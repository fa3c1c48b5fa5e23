-- Each turn stores one more byte of the function.
use borrow.Author.Rules.{rules}
use mathlib.Core.Path.{refl}
use Rattle.sheet.proofs.Filling.{fill_start, fill_store, fill_done}
use Rattle.component_transfer.proofs.lookup.every_byte.Goals as goal

pub loop-i-init : goal.loop-i-init
loop-i-init c = (fill_start _ _, refl)

pub transfer-requires : goal.transfer-requires
transfer-requires c = c.requires

pub loop-i-preserved : goal.loop-i-preserved
loop-i-preserved c = (fill_store _ c.loop-i.invariant.0 (search rules) c.transfer.ensures, c.loop-i.invariant.1)

pub returns : goal.returns
returns c = fill_done c.loop-i.invariant.0 (search rules) c.loop-i.invariant.1
