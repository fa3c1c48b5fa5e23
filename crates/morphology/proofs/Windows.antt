-- The laws of the extremum over a window: it grows by one place at either end, and depends on the places in it alone.
use Prim.Native.Nat.{ℕ, zero, suc, ◌+◌, ◌-◌, ◌≤◌, ◌<◌, min}
use mathlib.Core.Path.{◌≡◌, sym, ap, ◌∙◌}
use native.Mathlib.Nat.{le_refl}
use native.Mathlib.Omega.{arith}
use native.Mathlib.Decide.{dec_lt, dec_le}
use Rattle.morphology.specs.declared.operator.MorphologyOperator.{MorphologyOperator}
use Rattle.morphology.specs.declared.operator.MorphologyOperator.TheVariants.{Dilate, Erode}
use Rattle.morphology.specs.Extremum.{more_extreme, over, extremum, window}

extreme_comm : (op : MorphologyOperator) (a b : ℕ) → more_extreme op a b ≡ more_extreme op b a
extreme_comm Dilate a b = omega arith
extreme_comm Erode a b = omega arith

extreme_swap : (op : MorphologyOperator) (a b c : ℕ) → more_extreme op (more_extreme op a b) c ≡ more_extreme op (more_extreme op a c) b
extreme_swap Dilate a b c = omega arith
extreme_swap Erode a b c = omega arith

over_ext : (op : MorphologyOperator) (n : ℕ) (g g' : ℕ → ℕ) → ((u : ℕ) → u ≤ n → g u ≡ g' u) → over op n g ≡ over op n g'
unfolding over
over_ext op zero g g' e = e zero (le_refl zero)
over_ext op (suc n) g g' e = cc (over_ext op n g g' (λ u h. e u (omega arith)), e (suc n) (le_refl (suc n)))

over_below : (op : MorphologyOperator) (n : ℕ) (g : ℕ → ℕ) → over op (suc n) g ≡ more_extreme op (over op n (λ u. g (suc u))) (g zero)
unfolding over
over_below op zero g = extreme_comm op (g zero) (g (suc zero))
over_below op (suc n) g =
    ap (λ (v : ℕ). more_extreme op v (g (suc (suc n)))) (over_below op n g) ∙ extreme_swap op (over op n (λ u. g (suc u))) (g zero) (g (suc (suc n)))

-- ---- one place more at the upper end, or at the lower
module _ (op : MorphologyOperator) (g : ℕ → ℕ) where
  extremum_above : (lo hi : ℕ) → lo ≤ hi → extremum op lo (hi + 1) g ≡ more_extreme op (extremum op lo hi g) (g (hi + 1))
  unfolding extremum over
  extremum_above lo hi h =
      let n : hi + 1 - lo ≡ suc (hi - lo) = omega arith in
      let k : lo + suc (hi - lo) ≡ hi + 1 = omega arith in
      rw (n, k)

  extremum_below : (lo hi : ℕ) → lo + 1 ≤ hi → extremum op lo hi g ≡ more_extreme op (extremum op (lo + 1) hi g) (g lo)
  unfolding extremum
  extremum_below lo hi h =
      let n : hi - lo ≡ suc (hi - (lo + 1)) = omega arith in
      let z : lo + 0 ≡ lo = omega arith in
      let e = over_ext op (hi - (lo + 1)) (λ u. g (lo + suc u)) (λ u. g (lo + 1 + u)) (λ u l. ap g (let q : lo + suc u ≡ lo + 1 + u = omega arith in q)) in
      rw n (over_below op (hi - (lo + 1)) (λ u. g (lo + u)) ∙ (ap (λ (v : ℕ). more_extreme op v (g (lo + 0))) e ∙ ap (λ (x : ℕ). more_extreme op (over op (hi - (lo + 1)) (λ u. g (lo + 1 + u))) (g x)) z))

module _ (op : MorphologyOperator) (n : ℕ) (g : ℕ → ℕ) (i : ℕ) (h : i < n) where
  -- a window of radius 0 is the place itself
  pub window_none : window op 0 n g i ≡ g i
  unfolding window extremum over
  window_none =
      let z : min (i + 0) (n - 1) - (i - 0) ≡ 0 = omega arith in
      let p : i - 0 + 0 ≡ i = omega arith in
      rw (z, p)

  -- v is the window of radius r; v₁ takes in the place above where there is one, and v₂ the place below
  module _ (r v v₁ v₂ : ℕ) (e : v ≡ window op r n g i) where
    upper : (i + (r + 1) < n → v₁ ≡ more_extreme op v (g (i + (r + 1)))) → (n ≤ i + (r + 1) → v₁ ≡ v) → v₁ ≡ extremum op (i - r) (min (i + (r + 1)) (n - 1)) g
    unfolding window
    upper yes? no? = go (dec_lt (i + (r + 1)) n)
      where
        go : Dec (i + (r + 1) < n) → v₁ ≡ extremum op (i - r) (min (i + (r + 1)) (n - 1)) g
        go (yes p) =
            let a : min (i + (r + 1)) (n - 1) ≡ min (i + r) (n - 1) + 1 = omega arith in
            let b : i + (r + 1) ≡ min (i + r) (n - 1) + 1 = omega arith in
            yes? p ∙ (ap (λ (x : ℕ). more_extreme op x (g (i + (r + 1)))) e ∙ (ap (λ (x : ℕ). more_extreme op (extremum op (i - r) (min (i + r) (n - 1)) g) (g x)) b ∙ (sym (extremum_above op g (i - r) (min (i + r) (n - 1)) (omega arith)) ∙ ap (λ (x : ℕ). extremum op (i - r) x g) (sym a))))
        go (no p) =
            let a : min (i + (r + 1)) (n - 1) ≡ min (i + r) (n - 1) = omega arith in
            no? (omega arith) ∙ (e ∙ ap (λ (x : ℕ). extremum op (i - r) x g) (sym a))

    lower : v₁ ≡ extremum op (i - r) (min (i + (r + 1)) (n - 1)) g → (r + 1 ≤ i → v₂ ≡ more_extreme op v₁ (g (i - (r + 1)))) → (i < r + 1 → v₂ ≡ v₁) → v₂ ≡ window op (r + 1) n g i
    unfolding window
    lower e₁ yes? no? = go (dec_le (r + 1) i)
      where
        go : Dec (r + 1 ≤ i) → v₂ ≡ extremum op (i - (r + 1)) (min (i + (r + 1)) (n - 1)) g
        go (yes p) =
            let a : i - r ≡ i - (r + 1) + 1 = omega arith in
            yes? p ∙ (ap (λ (x : ℕ). more_extreme op x (g (i - (r + 1)))) (e₁ ∙ ap (λ (x : ℕ). extremum op x (min (i + (r + 1)) (n - 1)) g) a) ∙ sym (extremum_below op g (i - (r + 1)) (min (i + (r + 1)) (n - 1)) (omega arith)))
        go (no p) =
            let a : i - r ≡ i - (r + 1) = omega arith in
            no? (omega arith) ∙ (e₁ ∙ ap (λ (x : ℕ). extremum op x (min (i + (r + 1)) (n - 1)) g) a)

    pub window_more : (i + (r + 1) < n → v₁ ≡ more_extreme op v (g (i + (r + 1)))) → (n ≤ i + (r + 1) → v₁ ≡ v) → (r + 1 ≤ i → v₂ ≡ more_extreme op v₁ (g (i - (r + 1)))) → (i < r + 1 → v₂ ≡ v₁) → v₂ ≡ window op (r + 1) n g i
    window_more a b c d = lower (upper a b) c d

-- the places in the clipped window are all that it depends on
pub window_ext : (op : MorphologyOperator) (r n : ℕ) (g g' : ℕ → ℕ) (i : ℕ) → i < n → ((x : ℕ) → i ≤ x + r → x ≤ i + r → x < n → g x ≡ g' x) → window op r n g i ≡ window op r n g' i
unfolding window extremum
window_ext op r n g g' i h e =
    over_ext op (min (i + r) (n - 1) - (i - r)) (λ u. g (i - r + u)) (λ u. g' (i - r + u))
    (λ u l. e (i - r + u) (omega arith) (omega arith) (omega arith))
