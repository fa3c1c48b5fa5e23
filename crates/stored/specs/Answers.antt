-- An answer in a list: its number and its step.
use Rattle.std.specs.Prelude.{ℕ, Bool, false, cond, List, ◌==◌}
use Rattle.stored.specs.Words.{word}

abbrev pub is_stored : List ℕ → ℕ → (number step : ℕ) → Bool
is_stored s at number step = cond (number == word s at 0) (step == word s at 1) false
