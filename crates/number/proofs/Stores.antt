-- Stores one after the other are one run of stores; past the end none is made.
use Prim.Native.Nat.{ℕ, suc, ◌+◌}
use mathlib.Core.Path.{◌≡◌, refl}
use mathlib.Core.List.{List, [], ◌∷◌, ◌++◌}
use native.Mathlib.Omega.{arith}
use lib.ListN.{length, set}
use lib.Seq.{sets, set_out}

module _ {A : Type 0} where
  pub sets_append : (a l : List A) (i : ℕ) (b : List A) → sets (sets l i a) (i + length a) b ≡ sets l i (a ++ b)
  sets_append [] l i b = let z : i + 0 ≡ i = omega arith in rw z
  sets_append (x ∷ a) l i b = let z : i + suc (length a) ≡ suc i + length a = omega arith in rw z (sets_append a (set l i x) (suc i) b)

  pub sets_none : (a l : List A) (i : ℕ) → length l ≡ 0 → sets l i a ≡ l
  sets_none [] l i h = refl
  sets_none (x ∷ a) l i h = rw (set_out l i x (omega arith)) (sets_none a l (suc i) h)
