-- Each branch of the code is its case of the definition.
use Prim.Native.Nat.{ℕ, ◌+◌, ◌-◌, ◌≤◌, min}
use mathlib.Core.Path.{◌≡◌, sym, ap, ◌∙◌}
use mathlib.Core.Bool.{true, false, cond}
use mathlib.Core.List.{List}
use native.Mathlib.Omega.{arith}
use borrow.Author.Tests.{eq-eqb, ne_eqb}
use lib.ListN.{length}
use lib.Dec.{T, le→leb}
use lib.IntN.{pos}
use lib.Ieee.{Float, binary32, in_float}
use Rattle.floats.specs.Floor.{floor_to}
use Rattle.floats.specs.Operators.{◌⊕◌, ◌⊖◌, ◌⊗◌, ◌⊘◌}
use Rattle.floats.specs.Channel.{normalized, from_normalized}
use Rattle.floats.proofs.RoundedDown.{floor_up_to}
use Rattle.component_transfer.specs.declared.TransferFunction.{TransferFunction}
use Rattle.component_transfer.specs.Functions.{as_float, value_at, entry_of, interpolated, table, discrete}
use Rattle.component_transfer.specs.ComponentTransfer.{is_dummy, transfer_value, transfer}
use Rattle.component_transfer.specs.Inner.Index.{index}
use Rattle.component_transfer.proofs.ModuleEntry.{index_is_entry}

-- a count of entries is an `f32`
pub exact_float : (n : ℕ) → n ≤ 256 → T (in_float binary32 (pos n))
unfolding in_float
exact_float n h = le→leb n 16777216 (omega arith)

-- ---- the index
module _ (x : Float) (most k : ℕ) (h : most ≤ 255) (e : k ≡ floor_to 8 x) where
  pub index_cut : min most k ≡ min (floor_to 64 x) most
  index_cut = let z = floor_up_to x most h in omega arith

-- ---- the entries of a byte c
module _ (values : List Float) (c : ℕ) {x : Float} {k : ℕ} (d : x ≡ normalized c) (h : c ≤ 255) (l : length values ≤ 256) where
  chosen : (n most : ℕ) → n ≤ 256 → k ≡ index x n most → k ≡ entry_of c n most
  chosen n most m e = e ∙ (ap (λ y. index y n most) d ∙ index_is_entry c n most h m)

  pub discrete_entry : k ≡ index x (length values) (length values - 1) → value_at values k ≡ discrete values c
  unfolding discrete
  discrete_entry e = ap (value_at values) (chosen (length values) (length values - 1) l e)

  module _ (n : ℕ) (counted : n ≡ length values - 1) (e : k ≡ index x n n) where
    interpolates : interpolated values c n k ≡ table values c
    unfolding table
    interpolates = ap (interpolated values c n) (chosen n n (omega arith) e) ∙ rw counted

    pub table_last : k ≡ n → value_at values k ≡ table values c
    table_last m = sym (rw (eq-eqb k n m)) ∙ interpolates

    pub table_between : (k ≡ n → ⊥) → value_at values k ⊕ (x ⊖ as_float k ⊘ as_float n) ⊗ as_float n ⊗ (value_at values (k + 1) ⊖ value_at values k) ≡ table values c
    table_between m = rw d (sym (rw (ne_eqb k n m)) ∙ interpolates)

-- ---- a byte
module _ (f : TransferFunction) (pool : List Float) (c : ℕ) where
  pub left_alone : is_dummy f ≡ true → c ≡ transfer f pool c
  unfolding transfer
  left_alone e = sym (ap (λ t. cond t c (from_normalized (transfer_value f pool c))) e)

  pub by_number : {x : Float} {v : ℕ} → is_dummy f ≡ false → x ≡ transfer_value f pool c → v ≡ from_normalized x → v ≡ transfer f pool c
  unfolding transfer
  by_number e p q = q ∙ (ap from_normalized p ∙ sym (ap (λ t. cond t c (from_normalized (transfer_value f pool c))) e))
