-- The round trip by the contracts of `read` and `write`: what they are answered, and what they leave.
use Prim.Native.Nat.{ℕ, zero, suc, ◌+◌, ◌≤◌, ◌<◌, min}
use mathlib.Core.Path.{◌≡◌, refl, sym, ap, ◌∙◌}
use mathlib.Core.Bool.{Bool, true, false, cond}
use mathlib.Core.List.{List, [], ◌∷◌, ◌++◌}
use native.Mathlib.Omega.{arith}
use native.Mathlib.Nat.{min-le_left, min-le_right}
use borrow.Author.Tests.{le-ltb, ltb-false}
use lib.ListN.{length, get_or, drop, replicate, length-take, get_or-append}
use lib.Seq.{sets, sets-eq, take-append_seam}
use lib.Dec.{ltb}
use lib.Ieee.{Float}
use Rattle.sheet.specs.Contract.{Lent, was, became}
use Rattle.recipe.specs.declared.Step.{Step}
use Rattle.recipe.specs.declared.Recipe.{Recipe}
use Rattle.recipe.specs.Tests.{no_step, step_of}
use Rattle.std.specs.Prelude.{Result, Ok, Err}
use Rattle.message.specs.declared.MessageError.{MessageError}
use Rattle.message.specs.declared.MessageError.TheVariants.{Steps, Room}
use Rattle.message.specs.Message.{Content, Outcome, good, bad, read_message}
use Rattle.message.specs.Answers.{done, given, blank, recipe_of, content_of, room_of, read_answer, reading_answer, ReadExactly, ranges_of, ranges_answer, message_of, write_answer}
use Rattle.message.specs.RoundTrip as says
use Rattle.message.specs.RoundTrip.{Bytes, EachOf, end_to_end_from, numbers_of_all, steps_in, Holds, FreeOfNan}
use Rattle.message.proofs.Ranges.{StepIn, in_all}
use Rattle.message.proofs.RoundTrip.{apart, reads_back, comes_back, ranges_in}

-- ---- reading what was written
end_to_end_long : (l : List Step) (used : ℕ) → length (end_to_end_from used l) ≡ length l
unfolding end_to_end_from
end_to_end_long [] used = refl
end_to_end_long (s ∷ l) used = ap suc (end_to_end_long l _)

steps_few : (r : Recipe) → r.count ≤ 16 → length (end_to_end_from 0 (steps_in r)) ≤ 16
steps_few r h = rw (end_to_end_long (steps_in r) 0, length-take) (let y = min-le_left r.count (length r.steps) in omega arith)

least : (a b n : ℕ) → n ≤ a → n ≤ b → n ≤ min a b
least a b n h k = omega arith

pub written_is_read : says.WrittenIsRead
unfolding read_answer
written_is_read r pool lent x h e k =
    let c = reads_back r pool h in
    let a : reading_answer (message_of r pool) (was lent) ≡ done =
    rw (
      c,
      le-ltb 16 (length (end_to_end_from 0 (steps_in r))) (steps_few r h.few_steps),
      le-ltb (room_of (was lent)) (length (numbers_of_all pool (steps_in r))) (least (length (was lent)) 4294967295 (length (numbers_of_all pool (steps_in r))) k h.few_numbers),
    ) in
    (e.answered ∙ rw (a, c), e.numbers ∙ rw (a, c))

-- ---- writing what was read
-- a message that is not refused
record Accepted (s : List ℕ) (pool : List Float) : Type 0 where
  content : Content
  reads : read_message s ≡ good content
  few_steps : length content.steps ≤ 16
  room : length content.numbers ≤ room_of pool

accepted : (s : List ℕ) (pool : List Float) → reading_answer s pool ≡ done → Accepted s pool
unfolding read_answer
accepted s pool h = by (read_message s) refl h
  where
    fits :
        (c : Content) → read_message s ≡ good c → (t u : Bool) → ltb 16 (length c.steps) ≡ t → ltb (room_of pool) (length c.numbers) ≡ u
        → cond t (Err Steps) (cond u (Err Room) done) ≡ done → Accepted s pool
    fits c r true u e f g = apart (cc)
    fits c r false true e f g = apart (cc)
    fits c r false false e f g = record { content = c; reads = r; few_steps = ltb-false 16 (length c.steps) e; room = ltb-false (room_of pool) (length c.numbers) f }

    by : (o : Outcome) → read_message s ≡ o → read_answer o (room_of pool) ≡ done → Accepted s pool
    by (bad p) r g = apart (cc)
    by (good c) r g = fits c r (ltb 16 (length c.steps)) (ltb (room_of pool) (length c.numbers)) refl refl g

-- what is stored at the start of a list stands there, before the rest of it
stored : {A : Type 0} (l m : List A) → length l ≤ length m → sets m 0 l ≡ l ++ drop (length l) m
stored l m h = let z : 0 + length l ≡ length l = omega arith in sets-eq l m 0 (omega arith) ∙ rw z

-- the recipe of at most sixteen steps has them
module _ (l : List Step) (h : length l ≤ 16) where
  in_recipe : (recipe_of l).steps ≡ l ++ drop (length l) (replicate 16 blank)
  in_recipe = stored l (replicate 16 blank) h

  steps_of_recipe : steps_in (recipe_of l) ≡ l
  steps_of_recipe = rw (in_recipe, take-append_seam)

  step_of_recipe : (i : ℕ) → i < length l → step_of (recipe_of l) i ≡ get_or l i no_step
  step_of_recipe i k = rw in_recipe (get_or-append l (drop (length l) (replicate 16 blank)) no_step i k)

each_at : (P : Step → Type 0) (l : List Step) → EachOf P l → (i : ℕ) → i < length l → P (get_or l i no_step)
each_at P [] h i k = absurd (omega arith)
each_at P (s ∷ l) h zero k = h.0
each_at P (s ∷ l) h (suc i) k = each_at P l h.1 i (omega arith)

ranges_done : (f : ℕ → Step) (pool : List Float) (n : ℕ) → ((i : ℕ) → i < n → StepIn pool (f i)) → ranges_answer f (length pool) n ≡ done
unfolding ranges_answer
ranges_done f pool zero h = refl
ranges_done f pool (suc n) h = rw (ranges_done f pool n (λ i k. h i (omega arith)), in_all (ranges_of (f n).work) pool (h n (omega arith)))

-- the steps and the numbers of a message, as a recipe and a pool
module _ (s : List ℕ) (c : Content) (rest : List Float) (h : Holds s c) (few : length c.steps ≤ 16) (n : FreeOfNan c) where
  same_message : message_of (recipe_of c.steps) (c.numbers ++ rest) ≡ s
  unfolding message_of
  same_message = rw (steps_of_recipe c.steps few) (comes_back s c rest h n)

  ranges_pass : ranges_answer (step_of (recipe_of c.steps)) (length (c.numbers ++ rest)) (length c.steps) ≡ done
  ranges_pass =
      ranges_done (step_of (recipe_of c.steps)) (c.numbers ++ rest) (length c.steps) (λ i k.
      rw (step_of_recipe c.steps few i k) (each_at (StepIn (c.numbers ++ rest)) c.steps (ranges_in s c h rest) i k))

  not_refused : write_answer (recipe_of c.steps) (c.numbers ++ rest) (length s) ≡ done
  unfolding write_answer
  not_refused = rw (le-ltb 16 (length c.steps) few, ranges_pass, same_message, le-ltb (length s) (length s) (omega arith))

same_ok : {r q : Recipe} → ◌≡◌ {A = Result Recipe MessageError} (Ok r) (Ok q) → r ≡ q
same_ok e = cc

given_ok : (p : Result Unit MessageError) (q r : Recipe) → given p q ≡ Ok r → p ≡ done
given_ok (Ok u) q r e = refl
given_ok (Err w) q r e = let z : ⊥ = cc in absurd z

-- what an accepted message is read as is written again
written_again_lem :
    (s : List ℕ) (lent : Lent Float) (x : Recipe) → Bytes s → ReadExactly s lent (Ok x) → reading_answer s (was lent) ≡ done → FreeOfNan (content_of (read_message s))
    → Accepted s (was lent) → (message_of x (became lent) ≡ s) × (write_answer x (became lent) (length s) ≡ done)
written_again_lem s lent x u e d n a =
    let c = a.content in
    let r = a.reads in
    let k = a.room in
    let low = min-le_left (length (was lent)) 4294967295 in
    let high = min-le_right (length (was lent)) 4294967295 in
    let h : Holds s c = record { bytes = u; reads = r; few_numbers = omega arith } in
    let clear : FreeOfNan c = rw r at n in
    let rest = drop (length c.numbers) (was lent) in
    let recipe : x ≡ recipe_of c.steps = same_ok (e.answered ∙ rw (d, r)) in
    let pool : became lent ≡ c.numbers ++ rest = e.numbers ∙ rw (d, r) (stored c.numbers (was lent) (omega arith)) in
    rw (recipe, pool) (same_message s c rest h a.few_steps clear, not_refused s c rest h a.few_steps clear)

pub read_is_written : says.ReadIsWritten
read_is_written s lent x r u e d n =
    let t : ReadExactly s lent (Ok r) = rw d at e in
    let f = given_ok (reading_answer s (was lent)) _ r (sym t.answered) in
    written_again_lem s lent r u t f n (accepted s (was lent) f)
