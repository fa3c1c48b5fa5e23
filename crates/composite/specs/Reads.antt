-- What one byte of the result reads in either input: its channel and alpha of its pixel.
use Rattle.std.specs.Prelude.{ℕ, ◌+◌, ◌*◌, ◌/◌, ◌≡◌, ◌⊎◌}

-- byte k reads byte j
abbrev pub Reads : ℕ → ℕ → Type 0
Reads k j = (j ≡ k) ⊎ (j ≡ 4 * (k / 4) + 3)
