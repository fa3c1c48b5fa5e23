-- A sheet that is worked on in strips: columns side by side, few enough for work space of one length, each from the first row to the last.
use Rattle.std.specs.Prelude.{ℕ, ◌+◌, ◌-◌, ◌≤◌, ◌<◌, min, ◌≡◌, List, length, get_or}
use Rattle.sheet.specs.Pixel.{column, row}

-- the most columns of a strip
abbrev pub strip_limit : ℕ
strip_limit = 512

-- how many columns the strip from column x on has, of a sheet that is w pixels wide
abbrev pub strip_from : ℕ → ℕ → ℕ
strip_from w x = min (w - x) strip_limit

-- f k stands at each byte k of the columns before x, and of the rows above y in the n columns from x on
pub record Worked (f : ℕ → ℕ) (w x n y : ℕ) (d : List ℕ) : Type 0 where
  pub before : (k : ℕ) → k < length d → column w k < x → get_or d k 0 ≡ f k
  pub above : (k : ℕ) → k < length d → column w k < x + n → row w k < y → get_or d k 0 ≡ f k

-- the n elements from `at` on became g 0, g 1, .., and no other element changed; z is what `get_or` gives past the end
pub record Changed {A : Type 0} (z : A) (g : ℕ → A) (at n : ℕ) (l l' : List A) : Type 0 where
  pub same : length l' ≡ length l
  pub inside : (i : ℕ) → i < n → get_or l' (at + i) z ≡ g i
  pub before : (k : ℕ) → k < at → get_or l' k z ≡ get_or l k z
  pub after : (k : ℕ) → at + n ≤ k → get_or l' k z ≡ get_or l k z
