-- The numbers in bytes, the lowest byte first; a byte past the end counts as 0.
use Rattle.std.specs.Prelude.{ℕ, ◌+◌, ◌*◌, List, drop, ℤ, from_bits, slice_index, Float}
use Rattle.std.proofs.Common.{to_z}
use Rattle.std.specs.Int.{w32}
use Rattle.std.specs.Float.{binary32, binary64}

abbrev pub word_at : List ℕ → ℕ → ℕ
word_at s k = slice_index s (k + 0) + 256 * slice_index s (k + 1) + 65536 * slice_index s (k + 2) + 16777216 * slice_index s (k + 3)

-- word i of those from `at` on
unfoldable pub word : List ℕ → (at i : ℕ) → ℕ
word s at i = word_at (drop at s) (4 * i)

abbrev pub float : List ℕ → (at i : ℕ) → Float
float s at i = from_bits binary32 (word s at i)

-- the low word first
abbrev pub double : List ℕ → (at i : ℕ) → Float
double s at i = from_bits binary64 (word s at i + 4294967296 * word s at (i + 1))

-- the number of which n is the two's complement in 32 bits
abbrev pub signed : ℕ → ℤ
signed n = to_z w32 n
