-- What holds of numbers and of those after them holds of what is left after reading.
use Prim.Native.Nat.{ℕ}
use mathlib.Core.Bool.{Bool, true, false, cond}
use Rattle.number.specs.Words.{Words, word, stop, Got, got, wrong, and_then, next}

-- P holds of what is left, if anything was read
abbrev pub Left : {A : Type 0} → (Words → Type 0) → Got A → Type 0
Left P (got a rest) = P rest
Left P (wrong p) = Unit

module _ (P : Words → Type 0) where
  pub left_then : {A B : Type 0} (g : Got A) (f : A → Words → Got B) → Left P g → ((a : A) (ws : Words) → P ws → Left P (f a ws)) → Left P (and_then g f)
  left_then (got a ws) f h i = i a ws h
  left_then (wrong p) f h i = tt

  pub left_cond : {A : Type 0} (t : Bool) (g : Got A) (p : ℕ) → Left P g → Left P (cond t g (wrong p))
  left_cond true g p h = h
  left_cond false g p h = tt

  pub left_next : {A : Type 0} (ws : Words) (f : ℕ → ℕ → Words → Got A) → P ws → ((p n : ℕ) (rest : Words) → P (word p n rest) → Left P (f p n rest)) → Left P (next ws f)
  left_next (word p n rest) f h i = i p n rest h
  left_next (stop p) f h i = tt
