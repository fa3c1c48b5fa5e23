-- How the surface leans at a pixel: the nine edge rules as one, over where the pixel lies.
use Rattle.std.specs.Prelude.{ℕ, ◌+◌, ◌-◌, ◌*◌, min, Bool, true, cond, List, get_or, eqb, ltb, ℤ, neg_ℤ, Float}
use Rattle.std.proofs.Math.IntN.{sub_ℕ}
use Rattle.std.specs.Float.{binary32}
use Rattle.std.specs.Float.Ieee.{of_bits, of_int}
use Rattle.floats.specs.Constants.{half}
use Rattle.sheet.specs.Pixel.{byte_at}
use Rattle.surface.specs.declared.Normal.{Normal}

-- alpha of the pixel in column x and row y
abbrev pub alpha_at : ℕ → List ℕ → ℕ → ℕ → ℕ
alpha_at w s x y = get_or s (byte_at w x y 3) 0

-- of f 0, .., f (n - 1) the one before place i, and the one after it; 0 where there is none
abbrev pub before : (ℕ → ℕ) → ℕ → ℕ
before f i = cond (eqb i 0) 0 (f (i - 1))

abbrev pub after : ℕ → (ℕ → ℕ) → ℕ → ℕ
after n f i = cond (ltb (i + 1) n) (f (i + 1)) 0

-- place i and its two neighbours by the weights 1, 2, 1
unfoldable pub weighted : ℕ → (ℕ → ℕ) → ℕ → ℕ
weighted n f i = before f i + 2 * f i + after n f i

-- the neighbours of place i of n; at an edge i itself is one of them
abbrev pub behind : ℕ → ℕ
behind i = i - 1

abbrev pub ahead : ℕ → ℕ → ℕ
ahead n i = min (i + 1) (n - 1)

-- The lean along one direction, where f i j is alpha at place i of n along it and place j of m across it: the weighted alphas ahead less
-- those behind.
unfoldable pub lean : (n m : ℕ) → (ℕ → ℕ → ℕ) → ℕ → ℕ → ℤ
lean n m f i j = sub_ℕ (weighted m (f (ahead n i)) j) (weighted m (f (behind i)) j)

-- the lean turned round, as an `f32`
abbrev pub turned : ℤ → Float
turned z = of_int binary32 (neg_ℤ z)

-- ---- what a lean counts for
unfoldable pub at_edge : ℕ → ℕ → Bool
at_edge n i = cond (eqb i 0) true (eqb (i + 1) n)

-- 1 / 4, 1 / 3 and 2 / 3
abbrev pub quarter : Float
quarter = of_bits binary32 0x3e80_0000

abbrev pub third : Float
third = of_bits binary32 0x3eaa_aaab

abbrev pub two_thirds : Float
two_thirds = of_bits binary32 0x3f2a_aaab

unfoldable pub lean_factor : (n m i j : ℕ) → Float
lean_factor n m i j = cond (at_edge n i) (cond (at_edge m j) two_thirds half) (cond (at_edge m j) third quarter)

-- resvg's `Normal` of the pixel in column x and row y of a sheet of w columns and h rows
unfoldable pub normal_at : (w h : ℕ) → List ℕ → (x y : ℕ) → Normal
normal_at w h s x y = record {
  fx = lean_factor w h x y;
  fy = lean_factor h w y x;
  x = turned (lean w h (alpha_at w s) x y);
  y = turned (lean h w (λ j i. alpha_at w s i j) y x);
}
