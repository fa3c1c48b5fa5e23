-- Every byte that a byte of the result reads is needed, so its reach is the least: under Identity byte k is byte k.
use Prim.Native.Nat.{ℕ, ◌<◌}
use mathlib.Core.Path.{◌≡◌, sym, ap, ◌∙◌}
use mathlib.Core.List.{List}
use native.Mathlib.Omega.{arith}
use lib.ListN.{get_or}
use lib.Ieee.{Float}
use Rattle.sheet.proofs.Apart.{Needed, all_but, at_but, needed}
use Rattle.component_transfer.specs.declared.TransferFunction.TheVariants.{Identity}
use Rattle.component_transfer.specs.ComponentTransfer.{transfer, transferred}
use Rattle.component_transfer.specs.Reads.{Reads}
use Rattle.component_transfer.proofs.Unchanged.{identity_changes_nothing}

module _ (pool : List Float) where
  -- Identity in all channels
  abbrev pub identity : List ℕ → List ℕ
  identity s = transferred (transfer Identity pool) (transfer Identity pool) (transfer Identity pool) (transfer Identity pool) s

  pub reads_needed : (n k j : ℕ) → k < n → Reads k j → Needed n j k identity
  reads_needed n k j l e =
      let h : j < n = omega arith in
      let kept : (v : ℕ) → get_or (identity (all_but n 0 j v)) k 0 ≡ v = λ v. ap (λ (s : List ℕ). get_or s k 0) (identity_changes_nothing pool (all_but n 0 j v)) ∙ (ap (λ (i : ℕ). get_or (all_but n 0 j v) i 0) (sym e) ∙ at_but n 0 j h v) in
      needed n 0 j h k identity (omega arith) (kept 0) (let z = kept 255 in omega arith)
