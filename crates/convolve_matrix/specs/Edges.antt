-- Where a kernel's number falls on a side of n places: the edge modes, over the whole numbers of either sign.
use Rattle.std.specs.Prelude.{ℕ, ◌-◌, ◌%◌, min, Bool, true, false, ltb, ℤ, pos, negsuc}
use Rattle.std.proofs.Math.IntN.{sub_ℕ}
use Rattle.convolve_matrix.specs.declared.edge.EdgeMode.{EdgeMode}
use Rattle.convolve_matrix.specs.declared.edge.EdgeMode.TheVariants.{None, Duplicate, Wrap}

-- i is one of 0..=n-1
abbrev pub inside : ℕ → ℤ → Bool
inside n (pos a) = ltb a n
inside n (negsuc a) = false

-- the one of 0..=n-1 nearest to i
abbrev pub nearest : ℕ → ℤ → ℕ
nearest n (pos a) = min a (n - 1)
nearest n (negsuc a) = 0

-- the remainder of i by n, which is never negative
abbrev pub remainder : ℕ → ℤ → ℕ
remainder n (pos a) = a % n
remainder n (negsuc a) = n - 1 - a % n

-- whether place i is read: None skips what lies outside
abbrev pub read_by : EdgeMode → ℕ → ℤ → Bool
read_by None n i = inside n i
read_by Duplicate n i = true
read_by Wrap n i = true

-- which place is read for place i, where one is
abbrev pub place_by : EdgeMode → ℕ → ℤ → ℕ
place_by None n i = nearest n i
place_by Duplicate n i = nearest n i
place_by Wrap n i = remainder n i

-- the two, for the place that lies `target` before place `at`
unfoldable pub is_read : EdgeMode → (target n at : ℕ) → Bool
is_read mode target n at = read_by mode n (sub_ℕ at target)

unfoldable pub place : EdgeMode → (target n at : ℕ) → ℕ
place mode target n at = place_by mode n (sub_ℕ at target)
