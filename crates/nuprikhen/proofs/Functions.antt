-- The laws of a transfer function's number: each branch of the code is its case, and a function that passes is tested as itself.
use Prim.Native.Nat.{ℕ, zero, suc, ◌≤◌, ◌<◌}
use mathlib.Core.Path.{◌≡◌, refl, sym}
use mathlib.Core.Bool.{false}
use mathlib.Core.List.{List}
use native.Mathlib.Omega.{arith}
use borrow.Author.Tests.{eq-eqb, ne_eqb}
use lib.Dec.{eqb}
use lib.Ieee.{Float}
use lib.ListN.{length}
use Rattle.sheet.specs.Answer.{Answer, Done, refusal}
use Rattle.sheet.proofs.Answers.{cond_done}
use Rattle.component_transfer.specs.declared.TransferFunction.{TransferFunction}
use Rattle.component_transfer.specs.ComponentTransfer.{function_answer, functions_answer, transfer, answer, transferred}
use Rattle.component_transfer.proofs.Passed.{each_passes}
use Rattle.nuprikhen.specs.Numbers.{linear_of, function_of, numbered_answer}

module _ (values : List Float) where
  -- ---- the tests
  pub below_three : (kind : ℕ) → kind < 3 → function_answer (function_of kind values) values ≡ numbered_answer kind values
  below_three zero h = refl
  below_three (suc zero) h = refl
  below_three (suc (suc zero)) h = refl
  below_three (suc (suc (suc n))) h = absurd (omega arith)

  pub above_three : (kind : ℕ) → 3 ≤ kind → (kind ≡ 3 → ⊥) → refusal 5 ≡ numbered_answer kind values
  above_three zero h n = absurd (omega arith)
  above_three (suc zero) h n = absurd (omega arith)
  above_three (suc (suc zero)) h n = absurd (omega arith)
  above_three (suc (suc (suc zero))) h n = absurd (n refl)
  above_three (suc (suc (suc (suc k)))) h n = refl

  pub not_of_two : (kind : ℕ) → kind ≡ 3 → (length values ≡ 2 → ⊥) → refusal 3 ≡ numbered_answer kind values
  not_of_two kind e n = rw (e, ne_eqb (length values) 2 n) refl

  pub of_two : (kind : ℕ) → kind ≡ 3 → length values ≡ 2 → function_answer (linear_of values) values ≡ numbered_answer kind values
  of_two kind e n = rw (e, eq-eqb (length values) 2 n) refl

  -- ---- what passes
  passes : (kind : ℕ) → numbered_answer kind values ≡ Done → function_answer (function_of kind values) values ≡ Done
  passes zero e = refl
  passes (suc zero) e = e
  passes (suc (suc zero)) e = e
  passes (suc (suc (suc zero))) e = (cond_done (eqb (length values) 2) (function_answer (linear_of values) values) _ e).1
  passes (suc (suc (suc (suc n)))) e = (cond_done false (function_answer (linear_of values) values) _ e).1

  -- f is the function of this number
  same_answer : (kind : ℕ) {f : TransferFunction} → f ≡ function_of kind values → numbered_answer kind values ≡ Done → function_answer f values ≡ numbered_answer kind values
  same_answer kind e d = rw (e, passes kind d) (sym d)

-- ---- all four channels
module _ (red green blue alpha : ℕ) (r g b a : List Float) where
  abbrev tested : Answer
  tested = functions_answer (numbered_answer red r) (numbered_answer green g) (numbered_answer blue b) (numbered_answer alpha a)

  abbrev by_numbers : ℕ → ℕ → List ℕ → Answer
  by_numbers = answer (numbered_answer red r) (numbered_answer green g) (numbered_answer blue b) (numbered_answer alpha a)

  abbrev by_functions : (f₀ f₁ f₂ f₃ : TransferFunction) → ℕ → ℕ → List ℕ → Answer
  by_functions f₀ f₁ f₂ f₃ = answer (function_answer f₀ r) (function_answer f₁ g) (function_answer f₂ b) (function_answer f₃ a)

  abbrev bytes : (f₀ f₁ f₂ f₃ : TransferFunction) → List ℕ → List ℕ
  bytes f₀ f₁ f₂ f₃ = transferred (transfer f₀ r) (transfer f₁ g) (transfer f₂ b) (transfer f₃ a)

  pub all_tested : {n t₀ t₁ t₂ t₃ : Answer} → n ≡ functions_answer t₀ t₁ t₂ t₃ → t₀ ≡ numbered_answer red r → t₁ ≡ numbered_answer green g → t₂ ≡ numbered_answer blue b → t₃ ≡ numbered_answer alpha a → n ≡ tested
  all_tested e e₀ e₁ e₂ e₃ = rw (← e₀, ← e₁, ← e₂, ← e₃) e

  -- functions that pass by their numbers are tested as themselves, and give the same bytes
  pub all_same : {n : Answer} {f₀ f₁ f₂ f₃ : TransferFunction} → n ≡ tested → n ≡ Done → f₀ ≡ function_of red r → f₁ ≡ function_of green g → f₂ ≡ function_of blue b → f₃ ≡ function_of alpha a → (w h : ℕ) (src : List ℕ) → (by_functions f₀ f₁ f₂ f₃ w h src ≡ by_numbers w h src) × (bytes f₀ f₁ f₂ f₃ src ≡ bytes (function_of red r) (function_of green g) (function_of blue b) (function_of alpha a) src)
  all_same e d e₀ e₁ e₂ e₃ w h src =
      let each = each_passes e d in (
        rw (same_answer r red e₀ each.0, same_answer g green e₁ each.1, same_answer b blue e₂ each.2, same_answer a alpha e₃ each.3) refl,
        rw (e₀, e₁, e₂, e₃) refl,
      )
