-- The lattice selector: 0..=255 shuffled, and repeated to 514 entries.
use Rattle.std.specs.Prelude.{ℕ, zero, suc, ◌%◌, ◌<◌, ◌≡◌, List, get_or, set}
use Rattle.sheet.specs.Tabulate.{tabulate}
use Rattle.turbulence.specs.Random.{next}

unfoldable pub exchange : List ℕ → ℕ → ℕ → List ℕ
exchange l i j = set (set l i (get_or l j 0)) j (get_or l i 0)

-- places i, i - 1, .., 1 are each exchanged with the place that the next state draws
unfoldable pub shuffle : ℕ → ℕ → List ℕ → List ℕ
shuffle zero s l = l
shuffle (suc i) s l = shuffle i (next s) (exchange l (suc i) (next s % 256))

-- 0..=255 in the order that the states after s give
unfoldable pub order : ℕ → List ℕ
order s = shuffle 255 s (tabulate 256 (λ k. k))

unfoldable pub selector : ℕ → List ℕ
selector s = tabulate 514 (λ k. get_or (order s) (k % 256) 0)

-- on the first n places of l stand 0..=n-1, each at one place: `place v` is where v stands
pub record Permutation (n : ℕ) (l : List ℕ) : Type 0 where
  pub inside : (i : ℕ) → i < n → get_or l i 0 < n
  pub place : ℕ → ℕ
  pub place_inside : (v : ℕ) → v < n → place v < n
  pub there : (v : ℕ) → v < n → get_or l (place v) 0 ≡ v
  pub only_there : (i : ℕ) → i < n → place (get_or l i 0) ≡ i
