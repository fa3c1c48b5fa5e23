-- The round trip: the writer's parts of a recipe's steps are read back as the steps, and the parts that a reader found are those that are written.
use Prim.Native.Nat.{ℕ, zero, suc, ◌+◌, ◌≤◌, ◌<◌}
use mathlib.Core.Path.{◌≡◌, refl, sym, ap, ◌∙◌}
use mathlib.Core.Bool.{Bool, true, false, cond}
use mathlib.Core.List.{List, [], ◌∷◌, ◌++◌, map, append-nil}
use native.Mathlib.Omega.{arith}
use native.Mathlib.Nat.{min-le_left}
use borrow.Author.Tests.{eqb-false}
use borrow.Author.Count.{below_more}
use lib.ListN.{length, get_or, take, length-append, length-map, length-take}
use lib.Ieee.{Float}
use Rattle.recipe.specs.declared.Step.{Step}
use Rattle.recipe.specs.Tests.{no_step, step_of}
use Rattle.std.specs.Prelude.{Result, Ok, Err}
use Rattle.message.specs.declared.MessageError.{MessageError}
use Rattle.message.specs.declared.MessageError.TheVariants.{Shape}
use Rattle.message.specs.Steps.{Parts, parts_of, pooled_of}
use Rattle.message.specs.Message.{Content, message_bytes, end_to_end, good}
use Rattle.message.specs.Answers.{done, ranges_of, all_in_lem, and_then, ranges_answer, message_of}
use Rattle.message.specs.RoundTrip as says
use Rattle.message.specs.RoundTrip.{counted, end_to_end_from, numbers_in, numbers_of_all, EachOf, EachStep, typed, no_nan, FreeOfNan, steps_in, Holds}
use Rattle.message.proofs.Fields.{Known}
use Rattle.message.proofs.OneForm.{NoCode}
use Rattle.message.proofs.ReadBack.{Writable, message_back}
use Rattle.message.proofs.MessageForm.{ClearParts, MessageForm, message_form}
use Rattle.message.proofs.Ranges.{StepIn, all_in, numbers_long}
use Rattle.message.proofs.EachStep.{step_relaid, step_numbers, known_step}
use Rattle.message.proofs.EachValue.{step_each}
use Rattle.message.proofs.Remade.{Stands, stands_first, stands_rest, parts_remade, parts_in}

-- ---- the ranges of the steps that the writer takes lie in the pool
pub apart : {A : Type 0} → ◌≡◌ {A = ℕ} 0 1 → A
apart e = absurd (eqb-false 0 1 refl e)

-- two tests that are passed
passed : (p : Result Unit MessageError) (t : Bool) (n : ℕ) → and_then p (cond t done (Err (Shape n))) ≡ done → (p ≡ done) × (t ≡ true)
passed (Ok u) true n h = (refl, refl)
passed (Ok u) false n h = apart (cc)
passed (Err e) t n h = apart (cc)

in_below : (f : ℕ → Step) (pool : List Float) (n : ℕ) → ranges_answer f (length pool) n ≡ done → (i : ℕ) → i < n → StepIn pool (f i)
unfolding ranges_answer
in_below f pool zero h i k = absurd (omega arith)
in_below f pool (suc n) h i k =
    let p = passed (ranges_answer f (length pool) n) (all_in_lem (ranges_of (f n).work) (length pool)) n h in
    below_more (λ (j : ℕ). StepIn pool (f j)) n (in_below f pool n p.0) (all_in (ranges_of (f n).work) pool p.1) i (omega arith)

first_steps : (P : Step → Type 0) (l : List Step) (n : ℕ) → ((i : ℕ) → i < n → P (get_or l i no_step)) → EachOf P (take n l)
first_steps P l zero h = tt
first_steps P [] (suc n) h = tt
first_steps P (s ∷ l) (suc n) h = (h 0 (omega arith), first_steps P l n (λ i k. h (suc i) (omega arith)))

-- ---- what the writer takes can be written
writable : (pool : List Float) → EachOf typed.float pool → (l : List Step) → EachOf (EachStep typed) l → EachOf Writable (map (parts_of pool) l)
writable pool u [] h = tt
writable pool u (s ∷ l) h =
    let k = known_step pool s in (
      record {
        known = k.0;
        small = k.1;
        fit = step_each typed Known (omega arith) (λ n j b m. (b, omega arith)) (λ j b. (b, omega arith)) pool u s h.0;
      },
      writable pool u l h.1,
    )

-- ---- and is read as the same steps, end to end
relaid_steps :
    (pool : List Float) (used : ℕ) (l : List Step) → EachOf (StepIn pool) l → used + length (numbers_of_all pool l) ≤ 4294967295
    → end_to_end used (map (parts_of pool) l) ≡ record { steps = end_to_end_from used l; numbers = numbers_of_all pool l }
unfolding end_to_end end_to_end_from numbers_of_all
relaid_steps pool used [] h k = refl
relaid_steps pool used (s ∷ l) h k =
    let n = numbers_long pool (ranges_of s.work) h.0 in
    let t = length-append (numbers_in pool (ranges_of s.work)) (numbers_of_all pool l) in
    rw (
      step_relaid pool used s h.0 (omega arith),
      step_numbers pool s,
      n,
      relaid_steps pool (used + counted (ranges_of s.work)) l h.1 (omega arith),
    )

pub reads_back : says.ReadsBack
unfolding message_of
reads_back r pool h =
    let l = steps_in r in
    let i = first_steps (StepIn pool) r.steps r.count (in_below (step_of r) pool r.count h.in_pool) in
    let few : length (map (parts_of pool) l) < 4294967296 = rw (length-map, length-take) (let z = h.few_steps in let y = min-le_left r.count (length r.steps) in omega arith) in
    message_back (map (parts_of pool) l) (writable pool h.pool_typed l h.steps_typed) few ∙ ap good (relaid_steps pool 0 l i (let z = h.few_numbers in omega arith))

-- ---- what a message holds is written of the parts that were read
remade_steps :
    (pool : List Float) (used : ℕ) (qs : List Parts) → EachOf Writable qs → Stands used pool (end_to_end used qs).numbers
    → map (parts_of pool) (end_to_end used qs).steps ≡ qs
unfolding end_to_end
remade_steps pool used [] h k = refl
remade_steps pool used (q ∷ qs) h k =
    let later = used + length (pooled_of q) in
    let l = (end_to_end later qs).numbers in
    rw (
      parts_remade pool used q h.0.known h.0.fit (stands_first (pooled_of q) l k),
      remade_steps pool later qs h.1 (stands_rest (pooled_of q) l k),
    )

remade_as : (pool : List Float) (c : Content) (qs : List Parts) → EachOf Writable qs → end_to_end 0 qs ≡ c → Stands 0 pool c.numbers → map (parts_of pool) c.steps ≡ qs
remade_as pool c qs h e k = let k' : Stands 0 pool (end_to_end 0 qs).numbers = rw e k in rw (← e) (remade_steps pool 0 qs h k')

steps_in_lem : (pool : List Float) (used : ℕ) (qs : List Parts) → Stands used pool (end_to_end used qs).numbers → EachOf (StepIn pool) (end_to_end used qs).steps
unfolding end_to_end
steps_in_lem pool used [] k = tt
steps_in_lem pool used (q ∷ qs) k =
    let later = used + length (pooled_of q) in
    let l = (end_to_end later qs).numbers in
    (parts_in pool used q (stands_first (pooled_of q) l k), steps_in_lem pool later qs (stands_rest (pooled_of q) l k))

in_as : (pool : List Float) (c : Content) (qs : List Parts) → end_to_end 0 qs ≡ c → Stands 0 pool c.numbers → EachOf (StepIn pool) c.steps
in_as pool c qs e k = let k' : Stands 0 pool (end_to_end 0 qs).numbers = rw e k in rw (← e) (steps_in_lem pool 0 qs k')

clear_steps : (pool : List Float) → EachOf no_nan.float pool → (l : List Step) → EachOf (EachStep no_nan) l → EachOf ClearParts (map (parts_of pool) l)
clear_steps pool u [] h = tt
clear_steps pool u (s ∷ l) h = (step_each no_nan NoCode tt (λ n k b m. tt) (λ k b. tt) pool u s h.0, clear_steps pool u l h.1)

module _ (s : List ℕ) (c : Content) (h : Holds s c) where
  found : MessageForm s c
  found = message_form s h.bytes c h.reads

  -- wherever the numbers stand at the start of a pool
  stands : (rest : List Float) → Stands 0 (c.numbers ++ rest) c.numbers
  stands rest = let few = h.few_numbers in record { front = []; rest = rest; is = refl; at = refl; low = omega arith }

  remade : (rest : List Float) → map (parts_of (c.numbers ++ rest)) c.steps ≡ found.parts
  remade rest = remade_as (c.numbers ++ rest) c found.parts found.fit found.made (stands rest)

  pub ranges_in : (rest : List Float) → EachOf (StepIn (c.numbers ++ rest)) c.steps
  ranges_in rest = in_as (c.numbers ++ rest) c found.parts found.made (stands rest)

  clear : FreeOfNan c → EachOf ClearParts found.parts
  clear n =
      let k = clear_steps (c.numbers ++ []) (rw append-nil n.1) c.steps n.0 in
      rw (remade []) at k

pub comes_back : says.ComesBack
comes_back s c rest h n = ap message_bytes (remade s c h rest) ∙ (found s c h).form (clear s c h n)

pub holds_the_same : says.HoldsTheSame
holds_the_same s c rest h =
    let m = found s c h in
    rw (remade s c h rest) (message_back m.parts m.fit m.few ∙ ap good m.made)

pub comes_back_but_nan : says.ComesBackButNan
comes_back_but_nan s c rest h = rw (remade s c h rest) (found s c h).nearly

pub one_message : says.OneMessage
one_message s s' c h h' n = sym (comes_back s c [] h n) ∙ comes_back s' c [] h' n
