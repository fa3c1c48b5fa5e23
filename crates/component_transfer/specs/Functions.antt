-- Each transfer function of a channel's byte c, which stands for the number C = c / 255: the entry by the Filter Effects Module's text, over whole numbers, and the arithmetic in the
-- Rust's order.
use Rattle.std.specs.Prelude.{ℕ, ◌+◌, ◌-◌, ◌*◌, ◌/◌, min, cond, List, length, get_or, eqb, pos, Float}
use Rattle.std.specs.Float.{nan, binary32}
use Rattle.std.specs.Float.Ieee.{of_int}
use Rattle.floats.specs.Channel.{normalized}
use Rattle.floats.specs.Operators.{◌⊕◌, ◌⊖◌, ◌⊗◌, ◌⊘◌}

-- `n as f32`
abbrev pub as_float : ℕ → Float
as_float n = of_int binary32 (pos n)

-- `values[i]`
abbrev pub value_at : List Float → ℕ → Float
value_at values i = get_or values i nan

-- for C < 1 the k with k / n ≤ C < (k + 1) / n, which is C n rounded down; at C = 1 the last entry
abbrev pub entry_of : (c n last : ℕ) → ℕ
entry_of c n last = min (c * n / 255) last

-- entry k, or between it and the next where k is not the last entry n
abbrev pub interpolated : List Float → (c n k : ℕ) → Float
interpolated values c n k =
    cond (eqb k n) (value_at values k)
    (value_at values k ⊕ (normalized c ⊖ as_float k ⊘ as_float n) ⊗ as_float n ⊗ (value_at values (k + 1) ⊖ value_at values k))

-- of n + 1 values
unfoldable pub table : List Float → ℕ → Float
table values c = interpolated values c (length values - 1) (entry_of c (length values - 1) (length values - 1))

-- of n values
unfoldable pub discrete : List Float → ℕ → Float
discrete values c = value_at values (entry_of c (length values) (length values - 1))

unfoldable pub linear : Float → Float → ℕ → Float
linear slope intercept c = slope ⊗ normalized c ⊕ intercept
