-- Words of the engine's contracts: lines of places that lie a step apart.
use Rattle.std.specs.Prelude.{ℕ, ◌+◌, ◌*◌, ◌≤◌, ◌<◌, ◌≡◌, List, length, get_or}
use Rattle.morphology.specs.declared.operator.MorphologyOperator.{MorphologyOperator}
use Rattle.sheet.specs.Pixel.{byte_at}
use Rattle.morphology.specs.Extremum.{more_extreme, window}

-- n bytes from `at` on were merged with the bytes of `from` as far past `other`, and no other byte changed
pub record Merged (op : MorphologyOperator) (from : List ℕ) (other : ℕ) (into : List ℕ) (at n : ℕ) (into' : List ℕ) : Type 0 where
  pub same : length into' ≡ length into
  pub inside : (i : ℕ) → i < n → get_or into' (at + i) 0 ≡ more_extreme op (get_or into (at + i) 0) (get_or from (other + i) 0)
  pub before : (k : ℕ) → k < at → get_or into' k 0 ≡ get_or into k 0
  pub after : (k : ℕ) → at + n ≤ k → get_or into' k 0 ≡ get_or into k 0

-- the lines lie inside both lists, which agree there, and are longer than the radius
pub record Lines (radius step count first : ℕ) (from into : List ℕ) : Type 0 where
  pub short : radius < count
  pub inside : first + step * count ≤ length from
  pub same : length into ≡ length from
  pub agree : (k : ℕ) → first ≤ k → k < first + step * count → get_or into k 0 ≡ get_or from k 0

-- place i of the line that begins at first + b
abbrev pub place : List ℕ → ℕ → ℕ → ℕ → ℕ → ℕ
place s step first b i = get_or s (first + b + step * i) 0

-- each byte of the lines is the extremum of its line within the radius, and no other byte changed
pub record Spread (op : MorphologyOperator) (radius step count first : ℕ) (from into into' : List ℕ) : Type 0 where
  pub same : length into' ≡ length into
  pub inside : (b i : ℕ) → b < step → i < count → place into' step first b i ≡ window op radius count (place from step first b) i
  pub before : (k : ℕ) → k < first → get_or into' k 0 ≡ get_or into k 0
  pub after : (k : ℕ) → first + step * count ≤ k → get_or into' k 0 ≡ get_or into k 0

-- below row y each byte is the extremum of its row within the radius, and the others are as in src
pub record Rows (op : MorphologyOperator) (radius w h y : ℕ) (src scratch : List ℕ) : Type 0 where
  pub within : y ≤ h
  pub same : length scratch ≡ length src
  pub spread : (x y' c : ℕ) → x < w → y' < y → c < 4 → get_or scratch (byte_at w x y' c) 0 ≡ window op radius w (λ u. get_or src (byte_at w u y' c) 0) x
  pub rest : (k : ℕ) → 4 * w * y ≤ k → get_or scratch k 0 ≡ get_or src k 0
