-- Words of private contracts over the numbers that stand for cases.
use Rattle.std.specs.Prelude.{ℕ, ◌≡◌, Float, Result, Ok, Err}
use Rattle.sheet.specs.declared.Refusal.{Refusal}
use Rattle.sheet.specs.Answer.{Answer, Done}
use Rattle.sheet.specs.Contract.{Lent, was, Filtered}
use Rattle.displacement_map.specs.DisplacementMap.{displaced}
use Rattle.nuprikhen.specs.Channels.{channel_of, named_channels, displacement_answer}

-- a number whose test answers `named` is refused, or names the case x
abbrev pub Names : {A : Type 0} → Answer → A → Result A Refusal → Type 0
Names named x (Ok y) = (named ≡ Done) × (y ≡ x)
Names named x (Err r) = named ≡ Err r

-- the filter's contract, by the two numbers
abbrev pub DisplacedBy : (x y : ℕ) → Float → Float → Float → ℕ → ℕ → Lent ℕ → Lent ℕ → Answer → Lent ℕ → Type 0
DisplacedBy x y sx sy scale w h src map r dest =
    Filtered (displacement_answer (named_channels x y) sx sy scale w h (was src) (was map) (was dest)) r
    (displaced (channel_of x) (channel_of y) sx sy scale w h (was src) (was map)) dest
