-- One channel of an arithmetic composition, in the Rust's order.
use Rattle.std.specs.Prelude.{ℕ, cond, eqb, Float}
use Rattle.std.specs.Float.Ieee.{to_unsigned}
use Rattle.floats.specs.Channel.{normalized}
use Rattle.floats.specs.Constants.{c0, c1, c255}
use Rattle.floats.specs.Operators.{◌⊕◌, ◌⊗◌}
use Rattle.floats.specs.Order.{near_zero, bound}
use Rattle.composite.specs.declared.pixel.Factors.{Factors}

abbrev pub factors : Float → Float → Float → Float → Factors
factors k1 k2 k3 k4 = record { k1 = k1; k2 = k2; k3 = k3; k4 = k4 }

-- k1 i1 i2 + k2 i1 + k3 i2 + k4, before it is brought to 0 to max
abbrev pub calc_value : Factors → ℕ → ℕ → Float
calc_value k c1 c2 = k.k1 ⊗ normalized c1 ⊗ normalized c2 ⊕ k.k2 ⊗ normalized c1 ⊕ k.k3 ⊗ normalized c2 ⊕ k.k4

unfoldable pub calc : Factors → ℕ → ℕ → Float → Float
calc k c1 c2 max = bound c0 (calc_value k c1 c2) max

-- the cut after the product with 255
unfoldable pub scaled : Float → ℕ
scaled x = to_unsigned 8 (x ⊗ c255)

-- a colour is at most the new alpha a
abbrev pub colour : Factors → ℕ → ℕ → Float → ℕ
colour k c1 c2 a = scaled (calc k c1 c2 a)

-- the new alpha of two alphas
abbrev pub alpha_of : Factors → ℕ → ℕ → Float
alpha_of k a1 a2 = calc k a1 a2 c1

-- a channel of two channels, where the new alpha is a; 0 where a is near zero
abbrev pub channel_of : ℕ → Factors → ℕ → ℕ → Float → ℕ
channel_of c k c1 c2 a = cond (near_zero a) 0 (cond (eqb c 3) (scaled a) (colour k c1 c2 a))
