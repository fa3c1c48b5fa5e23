-- A message that is written of parts is read back: the steps that they make, with their numbers end to end.
use Prim.Native.Nat.{ℕ, ◌+◌, ◌<◌}
use mathlib.Core.Path.{◌≡◌, refl, ◌∙◌}
use mathlib.Core.Bool.{true}
use mathlib.Core.List.{List, [], ◌∷◌, ◌++◌}
use native.Mathlib.Omega.{arith}
use borrow.Author.Tests.{eq-eqb}
use lib.ListN.{length}
use Rattle.number.specs.Number.{number_bytes}
use Rattle.number.specs.Words.{stop, bytes_of, laid, got}
use Rattle.number.proofs.Words.{Small, small_append, after, after_append, after_length, words_back}
use Rattle.message.specs.Steps.{Parts, is_code, form_of, pooled_of, words_of, read_of, read_form, read_step}
use Rattle.message.specs.Message.{steps_words, message_bytes, end_to_end, read_steps, read_message, good}
use Rattle.message.specs.RoundTrip.{EachOf}
use Rattle.message.proofs.Fields.{Fit, read_back, write_small}

-- a known code, and values that can be written
pub record Writable (q : Parts) : Type 0 where
  pub known : is_code q.code ≡ true
  pub small : q.code < 4294967296
  pub fit : Fit (form_of q.code).row q.values

parts_back :
    (q : Parts) → Writable q → (used p : ℕ) (r : List ℕ)
    → read_step used (laid p (words_of q ++ r)) ≡ got (read_of used (form_of q.code) q.values) (laid (after p (words_of q)) r)
unfolding read_step read_form words_of laid after
parts_back q h used p r =
    rw (h.known, read_back (form_of q.code).row q.values h.fit (p + length (number_bytes q.code)) r)

steps_back :
    (qs : List Parts) → EachOf Writable qs → (used p : ℕ)
    → read_steps (length qs) used (laid p (steps_words qs)) ≡ got (end_to_end used qs) (stop (after p (steps_words qs)))
unfolding read_steps steps_words end_to_end laid after
steps_back [] h used p = refl
steps_back (q ∷ qs) h used p =
    rw (
      parts_back q h.0 used p (steps_words qs),
      steps_back qs h.1 (used + length (pooled_of q)) (after p (words_of q)),
      after_append (words_of q) (steps_words qs) p,
    )

steps_small : (qs : List Parts) → EachOf Writable qs → Small (steps_words qs)
unfolding steps_words words_of
steps_small [] h = tt
steps_small (q ∷ qs) h =
    small_append (words_of q) (steps_words qs) (h.0.small, write_small (form_of q.code).row q.values h.0.fit) (steps_small qs h.1)

pub message_back : (qs : List Parts) → EachOf Writable qs → length qs < 4294967296 → read_message (message_bytes qs) ≡ good (end_to_end 0 qs)
unfolding read_message message_bytes laid after
message_back qs h k =
    let z : after (0 + length (number_bytes (length qs))) (steps_words qs) ≡ length (bytes_of (length qs ∷ steps_words qs)) = after_length (length qs ∷ steps_words qs) 0 ∙ omega arith in
    rw (
      words_back (length qs ∷ steps_words qs) (k, steps_small qs h),
      steps_back qs h 0 (0 + length (number_bytes (length qs))),
      eq-eqb (after (0 + length (number_bytes (length qs))) (steps_words qs)) (length (bytes_of (length qs ∷ steps_words qs))) z,
    )
