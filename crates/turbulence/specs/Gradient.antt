-- The gradients: pairs of numbers drawn, brought to length 1 in the Rust's order.
use Rattle.std.specs.Prelude.{ℕ, zero, suc, ◌+◌, ◌*◌, ◌/◌, ◌%◌, List, pos, ◌-ℤ◌, get_or, Float}
use Rattle.std.specs.Float.{nan, binary64}
use Rattle.std.specs.Float.Ieee.{of_int}
use Rattle.floats.specs.Operators.{◌⊞◌, ◌⊠◌, ◌⧄◌}
use Rattle.floats.specs.Root.{sqrt_of}
use Rattle.sheet.specs.Tabulate.{tabulate}
use Rattle.turbulence.specs.Random.{next}

-- from -1 on, below 1, in steps of 1 / 256
unfoldable pub component : ℕ → Float
component s = of_int binary64 (pos (s % 512) -ℤ pos 256) ⧄ of_int binary64 (pos 256)

-- where both are 0, so is the length, and the quotients are NaN
unfoldable pub pair_length : Float → Float → Float
pair_length u v = sqrt_of binary64 (u ⊠ u ⊞ v ⊠ v)

-- the pair that the two states after s draw
unfoldable pub gradient_x : ℕ → Float
gradient_x s = component (next s) ⧄ pair_length (component (next s)) (component (next (next s)))

unfoldable pub gradient_y : ℕ → Float
gradient_y s = component (next (next s)) ⧄ pair_length (component (next s)) (component (next (next s)))

-- the state after d pairs
unfoldable pub after_pairs : ℕ → ℕ → ℕ
after_pairs zero s = s
after_pairs (suc d) s = next (next (after_pairs d s))

-- one side of each pair, in the order of the draws: 256 for each of the four channels
unfoldable pub drawn_x : ℕ → List Float
drawn_x s = tabulate 1024 (λ d. gradient_x (after_pairs d s))

unfoldable pub drawn_y : ℕ → List Float
drawn_y s = tabulate 1024 (λ d. gradient_y (after_pairs d s))

-- where channel c's entry i, of 514, stands among the draws: the entries from 256 on repeat the first
abbrev pub draw_of : ℕ → ℕ → ℕ
draw_of c i = 256 * c + i % 256

-- the four channels' entries side by side: number 4 i + c is channel c's entry i
unfoldable pub side_by_side : List Float → List Float
side_by_side drawn = tabulate 2056 (λ k. get_or drawn (draw_of (k % 4) (k / 4)) nan)
