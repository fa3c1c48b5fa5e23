-- The numbers of a message, each with its place.
use Rattle.std.specs.Prelude.{ℕ, zero, suc, ◌+◌, Result, Ok, Err, List, [], ◌∷◌, ◌++◌, length}
use Rattle.number.specs.declared.Wrong.{Wrong}
use Rattle.number.specs.Number.{number_bytes, number_at}

-- numbers with their places, then the place where no number begins
pub data Words : Type 0 where
  word : ℕ → ℕ → Words → Words
  stop : ℕ → Words

-- the number at a place, and the numbers after it
abbrev pub on_number : ℕ → (ℕ → Words) → Result (ℕ × ℕ) Wrong → Words
on_number at rest (Ok v) = word at v.0 (rest v.1)
on_number at rest (Err w) = stop w.at

-- the numbers from `at` on, so many at most
unfoldable pub words_from : ℕ → List ℕ → ℕ → Words
words_from zero s at = stop at
words_from (suc most) s at = on_number at (words_from most s) (number_at s at)

-- the numbers from `at` on: a message has no more numbers than bytes
unfoldable pub words_at : List ℕ → ℕ → Words
words_at s at = words_from (length s) s at

-- where the next number should begin
abbrev pub place_of : Words → ℕ
place_of (word p n ws) = p
place_of (stop p) = p

-- numbers as bytes
unfoldable pub bytes_of : List ℕ → List ℕ
bytes_of [] = []
bytes_of (n ∷ l) = number_bytes n ++ bytes_of l

-- the same numbers with their places, from p on
unfoldable pub laid : ℕ → List ℕ → Words
laid p [] = stop p
laid p (n ∷ l) = word p n (laid (p + length (number_bytes n)) l)

-- a value and the numbers after it; or the place of the wrong number
pub data Got (A : Type 0) : Type 0 where
  got : A → Words → Got A
  wrong : ℕ → Got A

-- what is read after a value
abbrev pub and_then : {A B : Type 0} → Got A → (A → Words → Got B) → Got B
and_then (got a ws) f = f a ws
and_then (wrong p) f = wrong p

-- what is read of the next number, with its place
abbrev pub next : {A : Type 0} → Words → (ℕ → ℕ → Words → Got A) → Got A
next (word p n ws) f = f p n ws
next (stop p) f = wrong p
