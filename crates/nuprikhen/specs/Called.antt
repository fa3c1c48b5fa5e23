-- The one shape of a C function's contract: the two numbers that it returns and every lent element are fixed by definitions.
use Rattle.std.specs.Prelude.{◌≡◌, List, [], ◌∷◌, length}
use Rattle.sheet.specs.Answer.{Answer, number}
use Rattle.sheet.specs.Size.{lengths_answer}
use Rattle.sheet.specs.Contract.{Lent, was, Holds}
use Rattle.nuprikhen.specs.declared.nup_answer.{nup_answer}

-- the call told `answer`, by its number; the step index is 0 in a single call
pub record Told (answer : Answer) (r : nup_answer) : Type 0 where
  pub number_told : r.number ≡ number answer
  pub step_told : r.step ≡ 0

-- the call told `answer`, and the slice holds what that says
pub record Called {A : Type 0} (answer : Answer) (r : nup_answer) (new : List A) (lent : Lent A) : Type 0 where
  pub told : Told answer r
  pub held : Holds answer new lent

-- test 2 of two slices that are to be equally long
abbrev pub pair_answer : {A B : Type 0} → Lent A → Lent B → Answer
pair_answer a b = lengths_answer (length (was a)) (length (was b) ∷ [])
