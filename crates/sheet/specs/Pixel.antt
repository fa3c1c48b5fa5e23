-- A pixel as one number, and where its bytes lie in a sheet.
use Rattle.std.specs.Prelude.{ℕ, zero, suc, ◌+◌, ◌*◌, ◌/◌, ◌%◌, ◌≤◌, ◌<◌, ◌≡◌, List, length, get_or, set}

-- byte k of a sheet that is w pixels wide belongs to channel k % 4 of the pixel in this column and this row
abbrev pub column : ℕ → ℕ → ℕ
column w k = k / 4 % w

abbrev pub row : ℕ → ℕ → ℕ
row w k = k / 4 / w

-- where channel c of the pixel in column x and row y lies
abbrev pub byte_at : ℕ → ℕ → ℕ → ℕ → ℕ
byte_at w x y c = 4 * (y * w + x) + c

-- place x lies within r of place i, and is one of 0..=n-1
pub record Near (r n i x : ℕ) : Type 0 where
  pub low : i ≤ x + r
  pub high : x ≤ i + r
  pub inside : x < n

abbrev pub pixel_of : ℕ → ℕ → ℕ → ℕ → ℕ
pixel_of r g b a = r + 256 * g + 65536 * b + 16777216 * a

-- channel 0 is red, 1 green, 2 blue, 3 alpha
abbrev pub channel : ℕ → ℕ → ℕ
channel zero p = p % 256
channel (suc zero) p = p / 256 % 256
channel (suc (suc zero)) p = p / 65536 % 256
channel (suc (suc (suc c))) p = p / 16777216 % 256

-- p is the pixel of these four channels
pub record Channels (p r g b a : ℕ) : Type 0 where
  pub number : p ≡ pixel_of r g b a
  pub red : channel 0 p ≡ r
  pub green : channel 1 p ≡ g
  pub blue : channel 2 p ≡ b
  pub alpha : channel 3 p ≡ a

-- p is the pixel whose bytes begin at k
abbrev pub PixelAt : List ℕ → ℕ → ℕ → Type 0
PixelAt s k p = Channels p (get_or s k 0) (get_or s (k + 1) 0) (get_or s (k + 2) 0) (get_or s (k + 3) 0)

-- the sheet with four channels' bytes from k on
unfoldable pub set_channels : List ℕ → ℕ → (r g b a : ℕ) → List ℕ
set_channels s k r g b a = set (set (set (set s k r) (k + 1) g) (k + 2) b) (k + 3) a

-- the sheet with a pixel's bytes from k on
abbrev pub set_pixel : List ℕ → ℕ → ℕ → List ℕ
set_pixel s k p = set_channels s k (channel 0 p) (channel 1 p) (channel 2 p) (channel 3 p)

-- the bytes from k on are the channels of p
abbrev pub StoredAt : List ℕ → ℕ → ℕ → Type 0
StoredAt s k p = (c : ℕ) → c < 4 → get_or s (k + c) 0 ≡ channel c p

-- each pixel p of the old sheet stands in R to a pixel q, which stands in its place of the new one
pub record Mapped {P : Type 0} (number : P → ℕ) (R : P → P → Type 0) (old new : List ℕ) : Type 0 where
  pub same : length new ≡ length old
  pub each : (i : ℕ) → 4 * i < length old → (p : P) × (q : P) × PixelAt old (4 * i) (number p) × R p q × StoredAt new (4 * i) (number q)
