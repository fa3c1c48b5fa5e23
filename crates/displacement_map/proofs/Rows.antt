-- A sheet that is made row by row.
use Rattle.std.proofs.Common.{◌≡◌, ℕ, ◌+◌, ◌-◌, ◌*◌, ◌<◌, List, get_or, ◌∙◌, suc-mul, arith}
use native.Mathlib.Decide.{dec_lt}
use Rattle.sheet.specs.Inner.Strips.{Changed}

-- one row more of w pixels
pub row_more : (f : ℕ → ℕ) (w y : ℕ) {d d' : List ℕ} → Changed 0 (λ j. f (4 * (y * w) + j)) (4 * (y * w)) (4 * w) d d' → ((k : ℕ) → k < 4 * (y * w) → get_or d k 0 ≡ f k) → (k : ℕ) → k < 4 * ((y + 1) * w) → get_or d' k 0 ≡ f k
row_more f w y {d} {d'} changed above k h = go (dec_lt k (4 * (y * w)))
  where
    go : Dec (k < 4 * (y * w)) → get_or d' k 0 ≡ f k
    go (yes p) = changed.before k p ∙ above k p
    go (no p) = let z : k ≡ 4 * (y * w) + (k - 4 * (y * w)) = omega arith in rw z (changed.inside (k - 4 * (y * w)) (omega (arith, suc-mul y w)))
