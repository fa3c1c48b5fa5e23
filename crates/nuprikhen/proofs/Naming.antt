-- The laws of numbers that stand for cases: those that name one change no answer, and any other is refused after all other tests.
use native.Mathlib.Omega.{arith}
use mathlib.Core.Path.{◌≡◌, refl, sym}
use borrow.Author.Tests.{lt-ltb}
use Rattle.std.specs.Prelude.{ℕ, zero, suc, Ok, Err, is_err, ltb}
use Rattle.std.specs.Result.{result_or}
use Rattle.sheet.specs.declared.Refusal.{Refusal}
use Rattle.sheet.specs.declared.Refusal.TheVariants.{Range}
use Rattle.sheet.specs.Answer.{Answer, Done, and_then}
use Rattle.sheet.proofs.Answers.{first_err, second_err, both_ok}
use Rattle.morphology.specs.Numbered.{numbered}
use Rattle.convolve_matrix.specs.Numbered.{edge_mode_by}
use Rattle.displacement_map.specs.Numbered.{channel_by}
use Rattle.recipe.specs.Numbered.{kind_by}
use Rattle.nuprikhen.specs.Operators.{operator_of, named_operator}
use Rattle.nuprikhen.specs.Channels.{channel_of, named_channel}
use Rattle.nuprikhen.specs.Recipes.{kind_of, named_kind}
use Rattle.nuprikhen.specs.Inner.Numbered.{Names}

pub then_named : (p q : Answer) → q ≡ Done → p ≡ and_then p q
then_named (Ok _) q e = rw e
then_named (Err r) q e = refl

-- of the tests p and q and the numbers' test n, the first refusal stands
pub first_stands : (q n : Answer) {p a : Answer} {r : Refusal} → a ≡ p → a ≡ Err r → and_then (and_then p q) n ≡ Err r
first_stands q n e f = first_err n refl (first_err q e f)

pub second_stands : (n : Answer) {p q a b : Answer} {r : Refusal} → a ≡ p → a ≡ Done → b ≡ q → b ≡ Err r → and_then (and_then p q) n ≡ Err r
second_stands n e d g f = first_err n refl (second_err e d g f)

pub third_stands : {p q n a b : Answer} {r : Refusal} → a ≡ p → a ≡ Done → b ≡ q → b ≡ Done → n ≡ Err r → and_then (and_then p q) n ≡ Err r
third_stands e d g f h = second_err refl (both_ok e d g f) refl h

-- ---- the types' own conversions, where an unknown number is refused as out of range
-- an edge mode that is not named is past the last
pub edge_unnamed : (n : ℕ) → is_err (edge_mode_by n) ≡ ltb 2 n
edge_unnamed zero = refl
edge_unnamed (suc zero) = refl
edge_unnamed (suc (suc zero)) = refl
edge_unnamed (suc (suc (suc n))) = sym (lt-ltb 2 (suc (suc (suc n))) (omega arith))

pub operator_names : (n : ℕ) → Names (named_operator n) (operator_of n) (result_or (numbered n) (Err Range))
unfolding named_operator
operator_names zero = (refl, refl)
operator_names (suc zero) = (refl, refl)
operator_names (suc (suc n)) = rw (lt-ltb 1 (suc (suc n)) (omega arith)) refl

pub channel_names : (n : ℕ) → Names (named_channel n) (channel_of n) (result_or (channel_by n) (Err Range))
unfolding named_channel
channel_names zero = (refl, refl)
channel_names (suc zero) = (refl, refl)
channel_names (suc (suc zero)) = (refl, refl)
channel_names (suc (suc (suc zero))) = (refl, refl)
channel_names (suc (suc (suc (suc n)))) = rw (lt-ltb 3 (suc (suc (suc (suc n)))) (omega arith)) refl

pub kind_names : (n : ℕ) → Names (named_kind n) (kind_of n) (result_or (kind_by n) (Err Range))
unfolding named_kind
kind_names zero = (refl, refl)
kind_names (suc zero) = (refl, refl)
kind_names (suc (suc n)) = rw (lt-ltb 1 (suc (suc n)) (omega arith)) refl
