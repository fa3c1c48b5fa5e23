-- The Filter Effects Module's generator: a state, its next one, and the state at which a seed starts.
use Rattle.std.specs.Prelude.{ℕ, ◌*◌, ◌%◌, ◌≤◌, min, cond, ℤ, pos, neg_ℤ, nat_abs, ◌+ℤ◌}
use Rattle.std.specs.Int.Signed.{le_z, rem_z}

-- the modulus 2 ^ 31 - 1 less one
abbrev pub last_state : ℕ
last_state = 2147483646

pub record State (s : ℕ) : Type 0 where
  pub low : 1 ≤ s
  pub high : s ≤ last_state

unfoldable pub next : ℕ → ℕ
next s = 16807 * s % 2147483647

-- the Module takes a seed of 0 or less to -(seed % last_state) + 1, by C's remainder, which has the sign of the seed
unfoldable pub positive : ℤ → ℤ
positive seed = cond (le_z seed (pos 0)) (neg_ℤ (rem_z seed (pos last_state)) +ℤ pos 1) seed

-- and what is over last_state to last_state; above 0 a number is its own nat_abs
unfoldable pub start_of : ℤ → ℕ
start_of seed = min (nat_abs (positive seed)) last_state
