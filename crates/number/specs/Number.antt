-- Numbers of a message: groups of seven bits, lowest first, the top bit set on all but the last, in the shortest form, below 2^32.
use Rattle.std.specs.Prelude.{ℕ, zero, suc, ◌+◌, ◌-◌, ◌*◌, ◌/◌, ◌%◌, ◌≡◌, cond, Result, Ok, Err, List, [], ◌∷◌, length, drop, eqb, ltb}
use Rattle.std.proofs.lemmas.List.Edits.{sets}
use Rattle.number.specs.declared.Wrong.{Wrong}

-- n, which has at most so many groups more than one
unfoldable pub groups : ℕ → ℕ → List ℕ
groups zero n = n ∷ []
groups (suc more) n = cond (ltb n 128) (n ∷ []) ((128 + n % 128) ∷ groups more (n / 128))

-- how a number below 2^32 is written
abbrev pub number_bytes : ℕ → List ℕ
number_bytes n = groups 4 n

-- a number and how many bytes it takes; or that there is none
pub data Found : Type 0 where
  found : ℕ → ℕ → Found
  none : Found

-- a group that has others above it: they are not zero, or the form is not the shortest
abbrev pub below : ℕ → Found → Found
below low (found n k) = cond (eqb n 0) none (found (low + 128 * n) (suc k))
below low none = none

-- the number that the bytes begin with, of at most so many groups more than one
unfoldable pub groups_in : ℕ → List ℕ → Found
groups_in more [] = none
groups_in zero (b ∷ l) = cond (ltb b 16) (found b 1) none
groups_in (suc more) (b ∷ l) = cond (ltb b 128) (found b 1) (below (b - 128) (groups_in more l))

-- as a result: the number with the place after it, or the place where it should begin
abbrev pub placed : ℕ → Found → Result (ℕ × ℕ) Wrong
placed at (found n k) = Ok (n, at + k)
placed at none = Err (record { at = at })

-- the number at a place, of at most so many groups more than one
unfoldable pub groups_at : ℕ → List ℕ → ℕ → Result (ℕ × ℕ) Wrong
groups_at more s at = placed at (groups_in more (drop at s))

-- the number at a place
abbrev pub number_at : List ℕ → ℕ → Result (ℕ × ℕ) Wrong
number_at s at = groups_at 4 s at

-- the bytes were stored from `at` on, no other byte changed, and `end` is where they end
pub record Put (before : List ℕ) (at : ℕ) (bytes after : List ℕ) (end : ℕ) : Type 0 where
  pub stored : after ≡ sets before at bytes
  pub ends : end ≡ at + length bytes

-- a reader took the number at its place, and stands after it; or there is none, and it stayed
abbrev pub Reads : List ℕ → ℕ → Result ℕ Wrong → ℕ → Type 0
Reads s at (Ok n) next = number_at s at ≡ Ok (n, next)
Reads s at (Err w) next = (number_at s at ≡ Err w) × (next ≡ at)
