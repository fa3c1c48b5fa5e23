-- What one byte of the result reads: all four channels of its pixel.
use Rattle.std.specs.Prelude.{ℕ, ◌/◌, ◌≡◌}

-- byte k reads byte j
abbrev pub Reads : ℕ → ℕ → Type 0
Reads k j = j / 4 ≡ k / 4
