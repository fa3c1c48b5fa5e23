-- What one byte of the result reads: nothing.
use Rattle.std.specs.Prelude.{ℕ}

-- byte k reads byte j
abbrev pub Reads : ℕ → ℕ → Type 0
Reads k j = ⊥
