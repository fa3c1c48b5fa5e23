-- The leans: alphas that agree round a pixel lean alike.
use Prim.Native.Nat.{ℕ, ◌+◌, ◌-◌, ◌*◌, ◌≤◌, ◌<◌}
use mathlib.Core.Path.{◌≡◌, ap, ◌∙◌}
use native.Mathlib.Omega.{arith}
use native.Mathlib.Decide.{dec_lt, ℕ_discrete}
use borrow.Author.Tests.{eq-eqb, ne_eqb, lt-ltb, le-ltb}
use lib.IntN.{sub_ℕ}
use Rattle.surface.specs.Surface.{before, after, weighted, behind, ahead, lean}

-- numbers that agree next to place i
abbrev Agree : (n i : ℕ) → (ℕ → ℕ) → (ℕ → ℕ) → Type 0
Agree n i f g = (j : ℕ) → j < n → i ≤ j + 1 → j ≤ i + 1 → f j ≡ g j

module _ (n : ℕ) (f g : ℕ → ℕ) (i : ℕ) (h : i < n) (e : Agree n i f g) where
  before_ext : before f i ≡ before g i
  before_ext = go (ℕ_discrete i 0)
    where
      go : Dec (i ≡ 0) → before f i ≡ before g i
      go (yes z) = rw (eq-eqb i 0 z)
      go (no z) = rw (ne_eqb i 0 z) (e (i - 1) (omega arith) (omega arith) (omega arith))

  after_ext : after n f i ≡ after n g i
  after_ext = go (dec_lt (i + 1) n)
    where
      go : Dec (i + 1 < n) → after n f i ≡ after n g i
      go (yes z) = rw (lt-ltb (i + 1) n z) (e (i + 1) z (omega arith) (omega arith))
      go (no z) = rw (le-ltb (i + 1) n (let l : n ≤ i + 1 = omega arith in l))

  pub weighted_ext : weighted n f i ≡ weighted n g i
  unfolding weighted
  weighted_ext = ap (λ (a : ℕ). a + 2 * f i + after n f i) before_ext ∙ (ap (λ (a : ℕ). before g i + 2 * a + after n f i) (e i h (omega arith) (omega arith)) ∙ ap (λ (a : ℕ). before g i + 2 * g i + a) after_ext)

pub lean_ext : (n m : ℕ) (f g : ℕ → ℕ → ℕ) (i j : ℕ) → i < n → j < m → ((u v : ℕ) → u < n → i ≤ u + 1 → u ≤ i + 1 → v < m → j ≤ v + 1 → v ≤ j + 1 → f u v ≡ g u v) → lean n m f i j ≡ lean n m g i j
unfolding lean
lean_ext n m f g i j p q e =
    ap (λ (a : ℕ). sub_ℕ a (weighted m (f (behind i)) j)) (weighted_ext m (f (ahead n i)) (g (ahead n i)) j q (λ v a b c. e (ahead n i) v (omega arith) (omega arith) (omega arith) a b c)) ∙ ap (λ (a : ℕ). sub_ℕ (weighted m (g (ahead n i)) j) a) (weighted_ext m (f (behind i)) (g (behind i)) j q (λ v a b c. e (behind i) v (omega arith) (omega arith) (omega arith) a b c))
