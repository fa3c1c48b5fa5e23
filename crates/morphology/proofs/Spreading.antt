-- Two merges take in one neighbour more on either side: the window of every place grows from r to r + 1.
use Prim.Native.Nat.{ℕ, suc, ◌+◌, ◌-◌, ◌*◌, ◌≤◌, ◌<◌}
use mathlib.Core.Path.{◌≡◌, refl, sym, ap, ◌∙◌}
use mathlib.Core.List.{List}
use native.Mathlib.Nat.{mul-le-mul_left, mul-add, mul-suc}
use native.Mathlib.Omega.{arith}
use Rattle.morphology.specs.declared.operator.MorphologyOperator.{MorphologyOperator}
use Rattle.morphology.specs.Extremum.{more_extreme}
use Rattle.morphology.specs.Inner.Lines.{Merged, Lines, Spread, place}
use Rattle.morphology.proofs.Windows.{window_none, window_more}

-- a place before the end of a line lies before the end of all lines
pub before_end : (step b i count : ℕ) → b < step → i < count → b + step * i < step * count
before_end step b i count h l = omega (arith, mul-suc step i, mul-le-mul_left {m = suc i} {n = count} step l)

-- a radius within the lines' length stays within the lines
pub shift_inside : (step r count : ℕ) → r ≤ count → step * r ≤ step * count
shift_inside step r count h = mul-le-mul_left step h

module _ (op : MorphologyOperator) (step count first : ℕ) (from into : List ℕ) where
  pub spread_none : {radius : ℕ} → Lines radius step count first from into → Spread op 0 step count first from into into
  spread_none {radius} l = record {
    same = refl;
    inside = λ b i p q. l.agree (first + b + step * i) (omega arith) (omega (arith, before_end step b i count p q)) ∙ sym (window_none op count (place from step first b) i q);
    before = λ k h. refl;
    after = λ k h. refl;
  }

  module _ (r shift : ℕ) (s : shift ≡ step * (r + 1)) (d d₁ d₂ : List ℕ) (short : shift ≤ step * count) (m₁ : Merged op from (first + shift) d first (step * count - shift) d₁) (m₂ : Merged op from first d₁ (first + shift) (step * count - shift) d₂) where
    module _ (b i : ℕ) (p : b < step) (q : i < count) where
      above : i + (r + 1) < count → place d₁ step first b i ≡ more_extreme op (place d step first b i) (place from step first b (i + (r + 1)))
      above h =
          let e : step * (i + (r + 1)) ≡ step * i + step * (r + 1) = mul-add step i (r + 1) in
          let l = before_end step b (i + (r + 1)) count p h in
          let x : first + b + step * i ≡ first + (b + step * i) = omega arith in
          let y : first + b + step * (i + (r + 1)) ≡ first + shift + (b + step * i) = omega arith in
          rw (x, y) (m₁.inside (b + step * i) (omega arith))

      not_above : count ≤ i + (r + 1) → place d₁ step first b i ≡ place d step first b i
      not_above h =
          let e : step * (i + (r + 1)) ≡ step * i + step * (r + 1) = mul-add step i (r + 1) in
          let l = mul-le-mul_left {m = count} {n = i + (r + 1)} step h in
          m₁.after (first + b + step * i) (omega arith)

      below : r + 1 ≤ i → place d₂ step first b i ≡ more_extreme op (place d₁ step first b i) (place from step first b (i - (r + 1)))
      below h =
          let j : i ≡ i - (r + 1) + (r + 1) = omega arith in
          let e : step * i ≡ step * (i - (r + 1)) + step * (r + 1) = ap (λ (n : ℕ). step * n) j ∙ mul-add step (i - (r + 1)) (r + 1) in
          let l = before_end step b i count p q in
          let x : first + b + step * i ≡ first + shift + (b + step * (i - (r + 1))) = omega arith in
          let y : first + b + step * (i - (r + 1)) ≡ first + (b + step * (i - (r + 1))) = omega arith in
          rw (x, y) (m₂.inside (b + step * (i - (r + 1))) (omega arith))

      not_below : i < r + 1 → place d₂ step first b i ≡ place d₁ step first b i
      not_below h =
          let l = before_end step b i (r + 1) p h in
          m₂.before (first + b + step * i) (omega arith)

    pub spread_more : Spread op r step count first from into d → Spread op (r + 1) step count first from into d₂
    spread_more w = record {
      same = m₂.same ∙ (m₁.same ∙ w.same);
      inside = λ b i p q. window_more op count (place from step first b) i q r (place d step first b i) (place d₁ step first b i) (place d₂ step first b i) (w.inside b i p q) (above b i p q) (not_above b i p q) (below b i p q) (not_below b i p q);
      before = λ k h. m₂.before k (omega arith) ∙ (m₁.before k h ∙ w.before k h);
      after = λ k h. m₂.after k (omega arith) ∙ (m₁.after k (omega arith) ∙ w.after k h);
    }
