-- What a byte of the result reads: itself alone.
use Prim.Native.Nat.{ℕ, ◌*◌, ◌%◌, ◌<◌}
use mathlib.Core.Path.{◌≡◌, refl, sym, ap, ◌∙◌}
use mathlib.Core.List.{List}
use native.Mathlib.Omega.{arith}
use lib.ListN.{length, get_or}
use Rattle.sheet.proofs.Tabulated.{length_tabulate, get_d_tabulate}
use Rattle.component_transfer.specs.ComponentTransfer.{of_channel, transfer_at, transferred}
use Rattle.component_transfer.specs.Reads.{Reads}

module _ (r g b a : ℕ → ℕ) where
  pub length_transferred : (s : List ℕ) → length (transferred r g b a s) ≡ length s
  unfolding transferred
  length_transferred s = length_tabulate (length s) (transfer_at r g b a s)

  byte_transferred : (s : List ℕ) (k : ℕ) → k < length s → get_or (transferred r g b a s) k 0 ≡ transfer_at r g b a s k
  unfolding transferred
  byte_transferred s k l = get_d_tabulate (length s) (transfer_at r g b a s) k l

  -- sheets that agree on what byte k reads give the same byte k
  pub reads_all : (n : ℕ) (s t : List ℕ) (k : ℕ) → length s ≡ n → length t ≡ n → k < n → ((j : ℕ) → Reads k j → get_or s j 0 ≡ get_or t j 0) → get_or (transferred r g b a s) k 0 ≡ get_or (transferred r g b a t) k 0
  reads_all n s t k p q l agree =
      byte_transferred s k (omega arith) ∙ (ap (of_channel r g b a (k % 4)) (agree k refl) ∙ sym (byte_transferred t k (omega arith)))

-- a byte reads itself
pub reads_something : (k : ℕ) → Reads k k
reads_something k = refl

pub reads_inside : (w h k j : ℕ) → k < 4 * w * h → Reads k j → j < 4 * w * h
reads_inside w h k j l e = omega arith
