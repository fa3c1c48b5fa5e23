-- The laws of steps in order: one step more, and that the steps alone matter.
use Prim.Native.Nat.{ℕ, zero, suc, ◌+◌, ◌<◌}
use mathlib.Core.Path.{◌≡◌, refl, ap, ◌∙◌}
use native.Mathlib.Numerals.{add-one}
use native.Mathlib.Omega.{arith}
use lib.Ieee.{Float}
use Rattle.convolve_matrix.specs.ConvolveMatrix.{in_order}

pub in_order_none : (f : ℕ → Float → Float) (x : Float) → in_order 0 f x ≡ x
unfolding in_order
in_order_none f x = refl

pub in_order_more : (n : ℕ) (f : ℕ → Float → Float) (x : Float) → in_order (n + 1) f x ≡ f n (in_order n f x)
unfolding in_order
in_order_more n f x = ap (λ (m : ℕ). in_order m f x) (add-one n)

pub in_order_ext : (n : ℕ) (f g : ℕ → Float → Float) (x : Float) → ((o : ℕ) → o < n → (s : Float) → f o s ≡ g o s) → in_order n f x ≡ in_order n g x
unfolding in_order
in_order_ext zero f g x e = refl
in_order_ext (suc n) f g x e = ap (f n) (in_order_ext n f g x (λ o h. e o (omega arith))) ∙ e n (omega arith) (in_order n g x)
