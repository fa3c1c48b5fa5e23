-- Functions that leave a byte alone, Identity and a table of no entries, leave the sheet alone.
use Prim.Native.Nat.{ℕ, zero, suc, ◌%◌}
use mathlib.Core.Path.{◌≡◌, refl, sym}
use mathlib.Core.Bool.{true}
use mathlib.Core.List.{List}
use borrow.Author.Tests.{eq-eqb}
use lib.ListN.{length, get_or}
use lib.Ieee.{Float}
use Rattle.sheet.proofs.Tabulated.{tabulated}
use Rattle.pool.specs.declared.Numbers.{Numbers}
use Rattle.component_transfer.specs.declared.TransferFunction.{TransferFunction}
use Rattle.component_transfer.specs.declared.TransferFunction.TheVariants.{Identity, Table, Discrete}
use Rattle.component_transfer.specs.ComponentTransfer.{is_dummy, transfer, of_channel, transfer_at, transferred}
use Rattle.component_transfer.proofs.Cases.{left_alone}

pub empty_is_dummy : (m : Numbers) → m.count ≡ 0 → (is_dummy (Table m) ≡ true) × (is_dummy (Discrete m) ≡ true)
empty_is_dummy m e = (eq-eqb m.count 0 e, eq-eqb m.count 0 e)

pub dummies_change_nothing : (r g b a : TransferFunction) (pool : List Float) (s : List ℕ) → is_dummy r ≡ true → is_dummy g ≡ true → is_dummy b ≡ true → is_dummy a ≡ true → transferred (transfer r pool) (transfer g pool) (transfer b pool) (transfer a pool) s ≡ s
unfolding transferred
dummies_change_nothing r g b a pool s hr hg hb ha =
    sym (tabulated s (length s) (transfer_at (transfer r pool) (transfer g pool) (transfer b pool) (transfer a pool) s) refl (λ k l. same (k % 4) (get_or s k 0)))
  where
    same : (c v : ℕ) → v ≡ of_channel (transfer r pool) (transfer g pool) (transfer b pool) (transfer a pool) c v
    same zero v = left_alone r pool v hr
    same (suc zero) v = left_alone g pool v hg
    same (suc (suc zero)) v = left_alone b pool v hb
    same (suc (suc (suc c))) v = left_alone a pool v ha

pub identity_changes_nothing : (pool : List Float) (s : List ℕ) → transferred (transfer Identity pool) (transfer Identity pool) (transfer Identity pool) (transfer Identity pool) s ≡ s
identity_changes_nothing pool s = dummies_change_nothing Identity Identity Identity Identity pool s refl refl refl refl
