-- The noise at a point, as the Module has it, in the Rust's order of `f64` operations.
use Rattle.std.specs.Prelude.{ℕ, zero, suc, ◌+◌, ◌-◌, ◌*◌, ◌%◌, Bool, cond, List, ℤ, pos, negsuc, get_or, Float}
use Rattle.std.specs.Float.{nan, binary64}
use Rattle.std.specs.Float.Ieee.{of_int, to_signed}
use Rattle.floats.specs.Operators.{◌⊞◌, ◌⊟◌, ◌⊠◌, ◌⧄◌}
use Rattle.floats.specs.Absolute.{absolute}
use Rattle.turbulence.specs.declared.noise.Point.{Point}
use Rattle.turbulence.specs.Constants.{d1, d2, d3, d4096}

-- modulo 256, into 0..=255
abbrev pub wrapped : ℤ → ℕ
wrapped (pos n) = n % 256
wrapped (negsuc n) = 255 - n % 256

-- the lattice position of t, cut toward zero, and the next one
unfoldable pub cell : Float → ℕ
cell t = wrapped (to_signed 31 t)

abbrev pub next_cell : ℕ → ℕ
next_cell b = (b + 1) % 256

-- t less its whole part: negative where t is
unfoldable pub fraction : Float → Float
fraction t = t ⊟ of_int binary64 (to_signed 63 t)

-- resvg's `s_curve`
unfoldable pub s_curve : Float → Float
s_curve t = t ⊠ t ⊠ (d3 ⊟ d2 ⊠ t)

unfoldable pub lerp : Float → Float → Float → Float
lerp t a b = a ⊞ t ⊠ (b ⊟ a)

-- the gradient number of the corner in column i and row j
unfoldable pub corner : List ℕ → ℕ → ℕ → ℕ
corner selector i j = get_or selector (get_or selector i 0 + j) 0

-- what the four channels share, of the point whose column and row are bx and by, and whose fractions are rx and ry
abbrev pub point_of : List ℕ → ℕ → Float → ℕ → Float → Point
point_of selector bx rx by ry = record {
  b00 = corner selector bx by;
  b10 = corner selector (next_cell bx) by;
  b01 = corner selector bx (next_cell by);
  b11 = corner selector (next_cell bx) (next_cell by);
  rx0 = rx;
  rx1 = rx ⊟ d1;
  ry0 = ry;
  ry1 = ry ⊟ d1;
  sx = s_curve rx;
  sy = s_curve ry;
}

unfoldable pub point_at : List ℕ → Float → Float → Point
point_at selector x y = point_of selector (cell (x ⊞ d4096)) (fraction (x ⊞ d4096)) (cell (y ⊞ d4096)) (fraction (y ⊞ d4096))

-- channel c's gradient of the corner b, along (rx, ry); gx and gy are the gradients' sides
unfoldable pub along : List Float → List Float → (c b : ℕ) → (rx ry : Float) → Float
along gx gy c b rx ry = rx ⊠ get_or gx (4 * b + c) nan ⊞ ry ⊠ get_or gy (4 * b + c) nan

-- resvg's `noise2` of channel c
unfoldable pub noise : List Float → List Float → ℕ → Point → Float
noise gx gy c p =
    lerp p.sy
    (lerp p.sx (along gx gy c p.b00 p.rx0 p.ry0) (along gx gy c p.b10 p.rx1 p.ry0))
    (lerp p.sx (along gx gy c p.b01 p.rx0 p.ry1) (along gx gy c p.b11 p.rx1 p.ry1))

-- what one octave adds: fractal noise as it is, else its absolute value
unfoldable pub octave : Bool → Float → Float → Float
octave fractal n ratio = cond fractal n (absolute n) ⧄ ratio

-- channel c's sum over n more octaves, at twice the point and twice the ratio each
unfoldable pub summed : Bool → List ℕ → List Float → List Float → (c n : ℕ) → (x y ratio sum : Float) → Float
summed fractal selector gx gy c zero x y ratio sum = sum
summed fractal selector gx gy c (suc n) x y ratio sum =
    summed fractal selector gx gy c n (x ⊠ d2) (y ⊠ d2) (ratio ⊠ d2) (sum ⊞ octave fractal (noise gx gy c (point_at selector x y)) ratio)
