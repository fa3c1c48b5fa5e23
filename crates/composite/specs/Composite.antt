-- What arithmetic composition answers, and what byte k of its result is.
use Rattle.std.specs.Prelude.{ℕ, ◌+◌, ◌*◌, ◌/◌, ◌%◌, List, [], ◌∷◌, length, get_or, Float}
use Rattle.sheet.specs.Answer.{Answer, and_then}
use Rattle.sheet.specs.Size.{sheets_answer}
use Rattle.sheet.specs.Tabulate.{tabulate}
use Rattle.pool.specs.Pool.{numbers_answer}
use Rattle.composite.specs.declared.pixel.Factors.{Factors}
use Rattle.composite.specs.Arithmetic.{alpha_of, channel_of}

-- tests 4 and 5
unfoldable pub factors_answer : Float → Float → Float → Float → Answer
factors_answer k1 k2 k3 k4 = numbers_answer (k1 ∷ k2 ∷ k3 ∷ k4 ∷ [])

-- the whole answer, for two sheets and a destination
unfoldable pub answer : Float → Float → Float → Float → ℕ → ℕ → List ℕ → List ℕ → List ℕ → Answer
answer k1 k2 k3 k4 w h s1 s2 dest = and_then (sheets_answer w h (length s1 ∷ length s2 ∷ length dest ∷ [])) (factors_answer k1 k2 k3 k4)

-- the alpha of byte k's pixel
abbrev pub alpha_at : List ℕ → ℕ → ℕ
alpha_at s k = get_or s (4 * (k / 4) + 3) 0

-- byte k
abbrev pub composed_at : Factors → List ℕ → List ℕ → ℕ → ℕ
composed_at f s1 s2 k = channel_of (k % 4) f (get_or s1 k 0) (get_or s2 k 0) (alpha_of f (alpha_at s1 k) (alpha_at s2 k))

-- the result
unfoldable pub composed : Factors → List ℕ → List ℕ → List ℕ
composed f s1 s2 = tabulate (length s1) (composed_at f s1 s2)
