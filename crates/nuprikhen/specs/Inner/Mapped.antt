-- What a function makes of the elements of a slice.
use Rattle.std.specs.Prelude.{ℕ, ◌<◌, ◌≡◌, List, length, get_or}
use Rattle.sheet.specs.Answer.{Answer, Done, IsRefusal}
use Rattle.sheet.specs.Contract.{Lent, was, became}
use Rattle.nuprikhen.specs.Called.{pair_answer}

-- each of the first n elements of xs stands in R to the element in its place of out
pub record Images {A B : Type 0} (R : A → B → Type 0) (xs : List A) (out : List B) (n : ℕ) : Type 0 where
  pub same : length out ≡ length xs
  pub each : (i : ℕ) (a : A) (b : B) → i < n → R (get_or xs i a) (get_or out i b)

-- slices of two lengths are refused, and others are mapped
pub record MappedInto {A B : Type 0} (R : A → B → Type 0) (xs : Lent A) (answer : Answer) (out : Lent B) : Type 0 where
  pub answered : answer ≡ pair_answer xs out
  pub kept : IsRefusal answer → became out ≡ was out
  pub mapped : answer ≡ Done → Images R (was xs) (became out) (length (was xs))
