-- Answers: docs/LAW.md's number and step index of each, and what a first refusal does.
use Rattle.std.specs.Prelude.{ℕ, ◌-◌, [], ◌∷◌, get_or, Result, Ok, Err, ⊤}
use Rattle.sheet.specs.declared.Refusal.{Refusal}
use Rattle.sheet.specs.declared.Refusal.TheVariants.{Size, Length, Shape, NotFinite, Range, Steps, Slot, Kind}

-- what a call answers: nothing more where it is done, and else a refusal
abbrev pub Answer : Type 0
Answer = Result ⊤ Refusal

abbrev pub Done : {E : Type 0} → Result ⊤ E
Done = Ok tt

abbrev pub refusal_number : Refusal → ℕ
refusal_number Size = 1
refusal_number Length = 2
refusal_number Shape = 3
refusal_number NotFinite = 4
refusal_number Range = 5
refusal_number Steps = 6
refusal_number Slot = 7
refusal_number Kind = 8

abbrev pub number : Answer → ℕ
number (Ok _) = 0
number (Err r) = refusal_number r

-- the refusal of docs/LAW.md's number n
abbrev pub refusal : ℕ → Answer
refusal n = Err (get_or (Size ∷ Length ∷ Shape ∷ NotFinite ∷ Range ∷ Steps ∷ Slot ∷ Kind ∷ []) (n - 1) Kind)

-- the answer is a refusal
abbrev pub IsRefusal : {E : Type 0} → Result ⊤ E → Type 0
IsRefusal (Ok _) = ⊥
IsRefusal (Err r) = ⊤

-- at the answer Done the first, at any refusal the second
abbrev pub on_done {ℓ} : {A : Type ℓ} {E : Type 0} → Result ⊤ E → A → A → A
on_done (Ok _) a b = a
on_done (Err r) a b = b

-- two tests in order: the first refusal stands
abbrev pub and_then : {E : Type 0} → Result ⊤ E → Result ⊤ E → Result ⊤ E
and_then p q = on_done p q p
