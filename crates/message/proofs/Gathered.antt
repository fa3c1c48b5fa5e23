-- What was read so far stands before what is read next.
use mathlib.Core.Path.{◌≡◌, refl}
use mathlib.Core.List.{List, [], ◌∷◌, ◌++◌, append_assoc}
use Rattle.number.specs.Words.{Words, Got, got, wrong, and_then}

module _ {A : Type 0} where
  pub same_got : (g : Got A) → g ≡ and_then g (λ a rest. got a rest)
  same_got (got a rest) = refl
  same_got (wrong p) = refl

  pub one_more :
      (done : List A) (x : A) (g : Got (List A))
      → and_then (and_then g (λ l rest. got (x ∷ l) rest)) (λ l rest. got (done ++ l) rest) ≡ and_then g (λ l rest. got ((done ++ (x ∷ [])) ++ l) rest)
  one_more done x (got l rest) = rw (append_assoc done (x ∷ []) l)
  one_more done x (wrong p) = refl

pub then_made :
    {A B C : Type 0} (g : Got A) (f : A → B) (k : B → Words → Got C) → and_then (and_then g (λ a rest. got (f a) rest)) k ≡ and_then g (λ a rest. k (f a) rest)
then_made (got a rest) f k = refl
then_made (wrong p) f k = refl
