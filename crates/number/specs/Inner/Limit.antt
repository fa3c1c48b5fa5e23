-- Words of the inner functions' contracts.
use Rattle.std.specs.Prelude.{ℕ, zero, suc, ◌*◌}

-- the first number that needs more than so many groups beside the first
abbrev pub limit : ℕ → ℕ
limit zero = 16
limit (suc more) = 128 * limit more
