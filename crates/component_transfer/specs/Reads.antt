-- What one byte of the result reads: its own channel there.
use Rattle.std.specs.Prelude.{ℕ, ◌≡◌}

-- byte k reads byte j
abbrev pub Reads : ℕ → ℕ → Type 0
Reads k j = j ≡ k
