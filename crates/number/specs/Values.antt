-- Signed numbers of 32 bits in two's complement.
use Rattle.std.specs.Prelude.{ℕ, ◌-◌, cond, ltb, ℤ, pos, negsuc}

-- the number of which n is the two's complement
abbrev pub seed_of : ℕ → ℤ
seed_of n = cond (ltb n 2147483648) (pos n) (negsuc (4294967295 - n))

-- the two's complement of a number
abbrev pub seed_bits : ℤ → ℕ
seed_bits (pos n) = n
seed_bits (negsuc n) = 4294967295 - n
