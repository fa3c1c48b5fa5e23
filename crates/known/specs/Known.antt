-- The known results of docs/LAW.md that are proved: a row is what the definitions give, and what the law says.
use Rattle.std.specs.Prelude.{ℕ, zero, suc, ◌*◌, ℤ, pos, negsuc, false, List, [], ◌∷◌, Float}
use Rattle.std.specs.Float.{binary32}
use Rattle.std.specs.Float.Ieee.{add, mul, div, eq, lt, of_int, of_bits, to_bits, to_unsigned}
use Rattle.floats.specs.Channel.{normalized, from_normalized}
use Rattle.floats.specs.Order.{near_zero}
use Rattle.floats.specs.Round.{round_to}
use Rattle.floats.specs.Root.{root_at, root, round_root, sqrt_of}
use Rattle.sheet.specs.Tabulate.{tabulate, repeated}
use Rattle.morphology.specs.declared.operator.MorphologyOperator.{MorphologyOperator}
use Rattle.morphology.specs.declared.operator.MorphologyOperator.TheVariants.{Dilate, Erode}
use Rattle.morphology.specs.Extremum.{over, extremum, window}
use Rattle.morphology.specs.Morphology.{radius, spread_over, morphed}
use Rattle.pool.specs.Pool.{is_in, numbers_of}
use Rattle.component_transfer.specs.declared.TransferFunction.{TransferFunction}
use Rattle.component_transfer.specs.declared.TransferFunction.TheVariants.{Discrete, Linear}
use Rattle.component_transfer.specs.Functions.{discrete, linear}
use Rattle.component_transfer.specs.ComponentTransfer.{transfer, transferred}
use Rattle.composite.specs.Arithmetic.{factors, calc, scaled}
use Rattle.composite.specs.Composite.{composed}
use Rattle.convolve_matrix.specs.declared.edge.EdgeMode.{EdgeMode}
use Rattle.convolve_matrix.specs.declared.edge.EdgeMode.TheVariants.{None, Duplicate}
use Rattle.convolve_matrix.specs.declared.ConvolveMatrix.{ConvolveMatrix}
use Rattle.convolve_matrix.specs.Edges.{is_read, place}
use Rattle.convolve_matrix.specs.ConvolveMatrix.{in_order, row_sum, sum_at, new_alpha, colour_value, bounded_colour, to_byte, convolved_by}
use Rattle.turbulence.specs.Random.{next, positive, start_of}
use Rattle.turbulence.specs.Noise.{wrapped}
use Rattle.surface.specs.Surface.{weighted, lean, at_edge, lean_factor, normal_at}
use Rattle.lighting.specs.declared.light.LightSource.TheVariants.{Distant}
use Rattle.lighting.specs.declared.pixel.Color.{Color}
use Rattle.lighting.specs.declared.pixel.Lighting.{Lighting}
use Rattle.lighting.specs.Vectors.{dot, length}
use Rattle.lighting.specs.Light.{half_ray, flat, along}
use Rattle.lighting.specs.Lighting.{lit_colour, factor_at, small, lit, diffuse, specular}

abbrev pub Row : Type 0
Row = List ℕ × List ℕ

abbrev pub f32 : ℕ → Float
f32 bits = of_bits binary32 bits

-- a pixel for each alpha, its colours 0
unfoldable pub alphas : List ℕ → List ℕ
alphas [] = []
alphas (a ∷ l) = 0 ∷ 0 ∷ 0 ∷ a ∷ alphas l

-- the alphas 10, 200, 30 in a row, with the radius rx by 0
unfoldable pub spread : MorphologyOperator → Float → List ℕ
unfolding morphed spread_over radius round_to window extremum over tabulate alphas of_bits
spread op rx = morphed op rx (f32 0) 3 1 (alphas (10 ∷ 200 ∷ 30 ∷ []))

-- a radius in whole pixels, where no side is too short for it
unfoldable pub pixels : Float → List ℕ
unfolding radius round_to of_bits
pixels r = radius r 2048 ∷ []

-- a clear pixel composed with another by k4, the other factors 0
unfoldable pub constant : Float → List ℕ
unfolding composed calc scaled normalized near_zero tabulate alphas add mul div eq lt of_int of_bits to_bits to_unsigned
constant k4 = composed (factors (f32 0) (f32 0) (f32 0) k4) (alphas (0 ∷ [])) (alphas (0 ∷ []))

-- a sheet with the same function in all four channels
unfoldable pub alike : TransferFunction → List Float → List ℕ → List ℕ
unfolding transferred transfer discrete linear is_in numbers_of normalized from_normalized tabulate add mul div lt of_int of_bits to_unsigned
alike f pool s = transferred (transfer f pool) (transfer f pool) (transfer f pool) (transfer f pool) s

-- three numbers in a row, the target in the middle, bias 0
abbrev pub in_row : EdgeMode → Float → ConvolveMatrix
in_row mode divisor = record {
  columns = 3;
  rows = 1;
  target_x = 1;
  target_y = 0;
  matrix = record { start = 0; count = 3 };
  divisor = divisor;
  bias = f32 0;
  edge_mode = mode;
  preserve_alpha = false;
}

-- n alphas in a row, through the kernel
unfoldable pub swept : EdgeMode → Float → List Float → ℕ → List ℕ → List ℕ
unfolding convolved_by sum_at row_sum in_order is_read place new_alpha colour_value bounded_colour to_byte normalized tabulate alphas add mul div lt of_int of_bits to_unsigned
swept mode divisor kernel n l = convolved_by (in_row mode divisor) kernel n 1 (alphas l)

-- the state at which a seed starts
unfoldable pub start : ℤ → List ℕ
unfolding start_of positive
start seed = start_of seed ∷ []

-- the two states after a state
unfoldable pub states : ℕ → List ℕ
unfolding next
states s = next s ∷ next (next s) ∷ []

-- the state so many steps after a state
abbrev pub state_after : ℕ → ℕ → ℕ
unfolding next
state_after zero s = s
state_after (suc n) s = state_after n (next s)

abbrev pub white : Color
white = record { red = 255; green = 255; blue = 255 }

-- white light with the direction (0, 0, z), surface scale 1 and constant 1
abbrev pub diffuse_from : Float → Lighting
diffuse_from z = diffuse (Distant (f32 0) (f32 0) z) (f32 0x3f80_0000) (f32 0x3f80_0000) white

abbrev pub specular_from : Float → Lighting
specular_from z = specular (Distant (f32 0) (f32 0) z) (f32 0x3f80_0000) (f32 0x3f80_0000) white

-- n x n clear pixels, lit
unfoldable pub lighted : Lighting → ℕ → List ℕ
unfolding lit small factor_at lit_colour normal_at lean_factor at_edge lean weighted half_ray flat along dot length sqrt_of round_root root root_at near_zero repeated tabulate add mul div eq lt of_int of_bits to_bits to_unsigned
lighted l n = lit l n n (repeated (4 * n * n) 0)

unfoldable pub table : List Row
unfolding alphas spread pixels constant alike swept start states lighted repeated
table =
    (spread Dilate (f32 0x3f80_0000), alphas (200 ∷ 200 ∷ 200 ∷ []))  -- radius 1
    ∷ (spread Erode (f32 0x3f80_0000), alphas (10 ∷ 10 ∷ 30 ∷ []))
    ∷ (spread Erode (f32 0x4780_0000), alphas (10 ∷ 10 ∷ 10 ∷ []))  -- radius 65,536
    ∷ (pixels (f32 0x3f00_0000), 1 ∷ [])  -- radius 0.5
    ∷ (pixels (f32 0x3eff_ffff), 0 ∷ [])  -- radius 0.49999997
    ∷ (constant (f32 0x3f00_0000), 127 ∷ 127 ∷ 127 ∷ 127 ∷ [])  -- k4 0.5
    ∷ (alike (Linear (f32 0) (f32 0x3f00_0000)) [] (0 ∷ 1 ∷ 128 ∷ 255 ∷ []), 127 ∷ 127 ∷ 127 ∷ 127 ∷ [])  -- slope 0, intercept 0.5
    ∷ (alike (Discrete (record { start = 0; count = 2 })) (f32 0 ∷ f32 0x3f80_0000 ∷ []) (0 ∷ 127 ∷ 128 ∷ 255 ∷ []), 0 ∷ 0 ∷ 255 ∷ 255 ∷ [])  -- 0, 1
    ∷ (swept None (f32 0x3f80_0000) (f32 0x3f80_0000 ∷ f32 0 ∷ f32 0 ∷ []) 3 (0 ∷ 255 ∷ 0 ∷ []), alphas (255 ∷ 0 ∷ 0 ∷ []))  -- kernel 1, 0, 0
    ∷ (swept None (f32 0x4040_0000) (f32 0x3f80_0000 ∷ f32 0x3f80_0000 ∷ f32 0x3f80_0000 ∷ []) 1 (255 ∷ []), alphas (85 ∷ []))  -- kernel 1, 1, 1, divisor 3
    ∷ (swept Duplicate (f32 0x4040_0000) (f32 0x3f80_0000 ∷ f32 0x3f80_0000 ∷ f32 0x3f80_0000 ∷ []) 1 (255 ∷ []), alphas (255 ∷ []))
    ∷ (start (pos 0), 1 ∷ [])
    ∷ (start (negsuc 4), 6 ∷ [])  -- seed -5
    ∷ (start (negsuc 2147483645), 1 ∷ [])  -- seed -2147483646
    ∷ (start (negsuc 2147483646), 2 ∷ [])  -- seed -2147483647
    ∷ (start (negsuc 2147483647), 3 ∷ [])  -- seed -2147483648
    ∷ (start (pos 2147483647), 2147483646 ∷ [])
    ∷ (states 1, 16807 ∷ 282475249 ∷ [])
    ∷ (state_after 10000 1 ∷ [], 1043618065 ∷ [])
    ∷ (wrapped (negsuc 0) ∷ [], 255 ∷ [])  -- lattice -1
    ∷ (lighted (diffuse_from (f32 0x3f80_0000)) 3, repeated 36 255)  -- direction (0, 0, 1)
    ∷ (lighted (specular_from (f32 0x3f80_0000)) 3, repeated 36 255)
    ∷ (lighted (diffuse_from (f32 0xbf80_0000)) 3, alphas (repeated 9 255))  -- direction (0, 0, -1)
    ∷ (lighted (specular_from (f32 0xbf80_0000)) 3, repeated 36 0)
    ∷ (lighted (diffuse_from (f32 0x3f80_0000)) 2, repeated 16 0)
    ∷ (lighted (specular_from (f32 0x3f80_0000)) 2, repeated 16 0)
    ∷ []
