-- Words of the engine's contracts, for a strip from column x on: a row's numbers with its edges, and sums that grow.
use Rattle.std.specs.Prelude.{ℕ, ◌+◌, ◌-◌, ◌*◌, ◌/◌, ◌%◌, ◌≤◌, ◌<◌, min, ◌≡◌, true, false, cond, List, length, get_or, Float}
use Rattle.std.specs.Float.{nan}
use Rattle.floats.specs.Channel.{normalized}
use Rattle.floats.specs.Operators.{◌⊕◌, ◌⊗◌}
use Rattle.sheet.specs.Pixel.{Channels}
use Rattle.convolve_matrix.specs.declared.edge.EdgeMode.{EdgeMode}
use Rattle.convolve_matrix.specs.declared.ConvolveMatrix.{ConvolveMatrix}
use Rattle.convolve_matrix.specs.Edges.{is_read, place}
use Rattle.convolve_matrix.specs.ConvolveMatrix.{kernel_limit, new_alpha, colour_of, alpha_of, channel_of}

-- the kernel fits its numbers and its target
pub record Kernel (m : ConvolveMatrix) (kernel : List Float) : Type 0 where
  pub wide : m.columns ≤ kernel_limit
  pub high : m.rows ≤ kernel_limit
  pub across : m.target_x < m.columns
  pub down : m.target_y < m.rows
  pub numbers : length kernel ≡ m.rows * m.columns

-- a - b, or 0, and n at the most
abbrev pub less_within : ℕ → ℕ → ℕ → ℕ
less_within a b n = min (a - b) n

-- of the n places from `at` on, counted from it, those from `from` up to `to` are read, and no others
pub record Span (mode : EdgeMode) (target w n at from to : ℕ) : Type 0 where
  pub ordered : from ≤ to
  pub within : to ≤ n
  pub read : (i : ℕ) → from ≤ i → i < to → is_read mode target w (i + at) ≡ true
  pub left : (i : ℕ) → i < from → is_read mode target w (i + at) ≡ false
  pub right : (i : ℕ) → to ≤ i → i < n → is_read mode target w (i + at) ≡ false

-- the number that a row of bytes has for channel c of place e
abbrev pub number_at : EdgeMode → (target w : ℕ) → List ℕ → (e c : ℕ) → Float
number_at mode target w line e c = normalized (get_or line (4 * place mode target w e + c) 0)

-- the places from lo up to hi, counted from the row's place x, hold their numbers, and no other element changed
pub record Widened (mode : EdgeMode) (target w : ℕ) (line : List ℕ) (x lo hi : ℕ) (l l' : List Float) : Type 0 where
  pub same : length l' ≡ length l
  pub inside : (e c : ℕ) → lo ≤ e → e < hi → c < 4 → get_or l' (4 * e + c) nan ≡ number_at mode target w line (x + e) c
  pub before : (k : ℕ) → k < 4 * lo → get_or l' k nan ≡ get_or l k nan
  pub after : (k : ℕ) → 4 * hi ≤ k → get_or l' k nan ≡ get_or l k nan

-- each sum of the first n pixels grew by f
pub record Added (f : ℕ → ℕ → Float → Float) (n : ℕ) (l l' : List Float) : Type 0 where
  pub same : length l' ≡ length l
  pub each : (i c : ℕ) → i < n → c < 4 → get_or l' (4 * i + c) nan ≡ f i c (get_or l (4 * i + c) nan)

-- as `tapped` of column x + i, by a row's numbers from place x on and the kernel's numbers from `base` on
abbrev pub shifted : EdgeMode → (target w x : ℕ) → List Float → (base columns : ℕ) → List Float → (i c ox : ℕ) → Float → Float
shifted mode target w x kernel base columns l i c ox sum =
    cond (is_read mode target w (x + i + ox)) (sum ⊕ get_or l (4 * (i + ox) + c) nan ⊗ get_or kernel (base + (columns - ox - 1)) nan) sum

-- byte j, by the sums, of the strip's row whose bytes begin at `first`
abbrev pub finished_at : ConvolveMatrix → List Float → List ℕ → (first j : ℕ) → ℕ
finished_at m sums s first j = channel_of m (j % 4) (get_or sums j nan) (new_alpha m (get_or sums (4 * (j / 4) + 3) nan) (get_or s (first + (4 * (j / 4) + 3)) 0))

-- p is the pixel of the sums r, g, b and a, and of the alpha that stood in its place
abbrev pub Finished : ConvolveMatrix → Float → Float → Float → Float → (own p : ℕ) → Type 0
Finished m r g b a own p =
    Channels p (colour_of m r (new_alpha m a own)) (colour_of m g (new_alpha m a own)) (colour_of m b (new_alpha m a own)) (alpha_of (new_alpha m a own))
