-- A message: the count of steps, then the steps.
use Rattle.std.specs.Prelude.{ℕ, zero, suc, ◌+◌, cond, List, [], ◌∷◌, ◌++◌, length, eqb, Float}
use Rattle.recipe.specs.declared.Step.{Step}
use Rattle.number.specs.Words.{Words, word, stop, words_at, bytes_of, Got, got, wrong, and_then, next}
use Rattle.message.specs.Steps.{Parts, made_of, pooled_of, words_of, read_step}

-- steps, and the numbers that they have in the pool, end to end
pub record Content : Type 0 where
  pub steps : List Step
  pub numbers : List Float

abbrev pub empty : Content
empty = record { steps = []; numbers = [] }

abbrev pub step_and : Step → List Float → Content → Content
step_and s l c = record { steps = s ∷ c.steps; numbers = l ++ c.numbers }

-- ---- writing
unfoldable pub steps_words : List Parts → List ℕ
steps_words [] = []
steps_words (q ∷ qs) = words_of q ++ steps_words qs

unfoldable pub message_bytes : List Parts → List ℕ
message_bytes qs = bytes_of (length qs ∷ steps_words qs)

-- the steps with their numbers end to end from `used` on
unfoldable pub end_to_end : ℕ → List Parts → Content
end_to_end used [] = empty
end_to_end used (q ∷ qs) = step_and (made_of used q) (pooled_of q) (end_to_end (used + length (pooled_of q)) qs)

-- ---- reading
unfoldable pub read_steps : ℕ → ℕ → Words → Got Content
read_steps zero used ws = got empty ws
read_steps (suc n) used ws =
    and_then (read_step used ws) (λ r rest.
    and_then (read_steps n (used + length r.read_numbers_lem) rest) (λ c rest'.
    got (step_and r.read_step_lem r.read_numbers_lem c) rest'))

-- what a message holds; or the place of the wrong number
pub data Outcome : Type 0 where
  good : Content → Outcome
  bad : ℕ → Outcome

-- nothing is left over
abbrev pub whole : ℕ → Got Content → Outcome
whole n (got c (stop p)) = cond (eqb p n) (good c) (bad p)
whole n (got c (word p k ws)) = bad p
whole n (wrong p) = bad p

unfoldable pub read_message : List ℕ → Outcome
read_message s = whole (length s) (next (words_at s 0) (λ p n rest. read_steps n 0 rest))
