-- What a byte of the result reads: it depends on its channel and its pixel's alpha in both inputs alone, and reads its own.
use Prim.Native.Nat.{ℕ, ◌+◌, ◌*◌, ◌/◌, ◌%◌, ◌<◌}
use mathlib.Core.Path.{◌≡◌, refl, sym, ap, ◌∙◌}
use mathlib.Core.List.{List}
use mathlib.Core.Logic.{inl, inr, ⊎_elim}
use native.Mathlib.Nat.{mul_assoc}
use native.Mathlib.Omega.{arith}
use lib.ListN.{length, get_or}
use Rattle.sheet.proofs.Tabulated.{length_tabulate, get_d_tabulate}
use Rattle.composite.specs.declared.pixel.Factors.{Factors}
use Rattle.composite.specs.Arithmetic.{alpha_of, channel_of}
use Rattle.composite.specs.Composite.{alpha_at, composed_at, composed}
use Rattle.composite.specs.Reads.{Reads}

module _ (f : Factors) where
  pub length_composed : (s₁ s₂ : List ℕ) → length (composed f s₁ s₂) ≡ length s₁
  unfolding composed
  length_composed s₁ s₂ = length_tabulate (length s₁) (composed_at f s₁ s₂)

  byte_composed : (s₁ s₂ : List ℕ) (k : ℕ) → k < length s₁ → get_or (composed f s₁ s₂) k 0 ≡ composed_at f s₁ s₂ k
  unfolding composed
  byte_composed s₁ s₂ k l = get_d_tabulate (length s₁) (composed_at f s₁ s₂) k l

  -- inputs that agree on what byte k reads give the same byte k
  pub reads_all : (n : ℕ) (a₁ a₂ b₁ b₂ : List ℕ) (k : ℕ) → length a₁ ≡ n → length b₁ ≡ n → k < n → ((j : ℕ) → Reads k j → get_or a₁ j 0 ≡ get_or b₁ j 0) → ((j : ℕ) → Reads k j → get_or a₂ j 0 ≡ get_or b₂ j 0) → get_or (composed f a₁ a₂) k 0 ≡ get_or (composed f b₁ b₂) k 0
  reads_all n a₁ a₂ b₁ b₂ k p q l agree₁ agree₂ =
      let e₁ = agree₁ k (inl refl) in
      let e₂ = agree₂ k (inl refl) in
      let f₁ : alpha_at a₁ k ≡ alpha_at b₁ k = agree₁ (4 * (k / 4) + 3) (inr refl) in
      let f₂ : alpha_at a₂ k ≡ alpha_at b₂ k = agree₂ (4 * (k / 4) + 3) (inr refl) in
      byte_composed a₁ a₂ k (omega arith) ∙ (ap (λ x. channel_of (k % 4) f x (get_or a₂ k 0) (alpha_of f (alpha_at a₁ k) (alpha_at a₂ k))) e₁ ∙ (ap (λ x. channel_of (k % 4) f (get_or b₁ k 0) x (alpha_of f (alpha_at a₁ k) (alpha_at a₂ k))) e₂ ∙ (ap (λ x. channel_of (k % 4) f (get_or b₁ k 0) (get_or b₂ k 0) (alpha_of f x (alpha_at a₂ k))) f₁ ∙ (ap (λ x. channel_of (k % 4) f (get_or b₁ k 0) (get_or b₂ k 0) (alpha_of f (alpha_at b₁ k) x)) f₂ ∙ sym (byte_composed b₁ b₂ k (omega arith))))))

-- a byte reads itself
pub reads_something : (k : ℕ) → Reads k k
reads_something k = inl refl

pub reads_inside : (w h k j : ℕ) → k < 4 * w * h → Reads k j → j < 4 * w * h
reads_inside w h k j l r = ⊎_elim (λ e. omega arith) (λ e. omega (arith, mul_assoc 4 w h)) r
