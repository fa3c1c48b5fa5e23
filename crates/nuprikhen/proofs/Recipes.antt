-- A refused message stops the call; one that is taken is run, with its recipe and its numbers.
use Prim.Native.Nat.{ℕ, ◌<◌}
use mathlib.Core.Path.{◌≡◌, refl, sym, ap, ◌∙◌, subst}
use mathlib.Core.Bool.{Bool, true, false, cond, true≢false}
use mathlib.Core.List.{List}
use native.Mathlib.Omega.{arith}
use borrow.Author.Tests.{eqb-false}
use lib.ListN.{replicate, length-replicate}
use lib.Dec.{ltb}
use lib.Ieee.{Float}
use Rattle.floats.specs.Constants.{c0}
use Rattle.sheet.specs.Contract.{read_only, Lent, was, became}
use Rattle.std.specs.Prelude.{Result, Ok, Err}
use Rattle.sheet.specs.declared.Refusal.{Refusal}
use Rattle.sheet.specs.Answer.{Done, refusal}
use Rattle.recipe.specs.declared.Recipe.{Recipe}
use Rattle.recipe.specs.declared.Refused.{Refused}
use Rattle.recipe.specs.Tests.{RunAnswer, whole, number, step_index, step_of, run_answer}
use Rattle.filter.specs.Slots.{Slots, slots, acts}
use Rattle.filter.specs.Call.{Call, call, slots_were, slots_became, lengths, answer, all_steps, Ran}
use Rattle.filter.specs.Reach.{Reach, step_reads, result, yes_of, Reaching, ReachesExactly}
use Rattle.message.specs.declared.MessageError.{MessageError}
use Rattle.message.specs.Answers.{done, given, room_of, reading_answer, ReadExactly}
use Rattle.nuprikhen.specs.declared.nup_recipes.nup_run_answer.{nup_run_answer}
use Rattle.nuprikhen.specs.declared.nup_recipes.nup_reach_answer.{nup_reach_answer}
use Rattle.nuprikhen.specs.Recipes.{message_answer, recipe_in, pool_in, kind_of, named_kind, kind_answer, ToldBoth, RunFrom, ReachingFrom, ReachFrom}
use Rattle.nuprikhen.specs.Inner.Recipes.{MessageTold, RunTold, answer_by_kind, RanByKind, ReachedByKind, one_if, ReachTold}

-- ---- the message
room : (pool : List Float) → pool ≡ replicate 16384 c0 → room_of pool ≡ 16384
room pool e = rw (e, length-replicate 16384 c0)

given_err : {A : Type 0} {p : Result Unit MessageError} (a : A) {e : MessageError} → given p a ≡ Err e → p ≡ Err e
given_err {p = Ok u} a d = cc
given_err {p = Err e} a d = cc

given_ok : {A : Type 0} {p : Result Unit MessageError} {a b : A} → given p a ≡ Ok b → (p ≡ done) × (b ≡ a)
given_ok {p = Ok u} d = (refl, cc)
given_ok {p = Err e} d = cc

module _ {s : List ℕ} {pool : Lent Float} {r : Result Recipe MessageError} (x : ReadExactly s pool r) (z : was pool ≡ replicate 16384 c0) where
  told_by : reading_answer s (was pool) ≡ message_answer s
  told_by = rw (room (was pool) z)

  pub message_refused : {e : MessageError} → r ≡ Err e → message_answer s ≡ Err e
  message_refused d = sym told_by ∙ given_err _ (sym x.answered ∙ d)

  module _ {recipe : Recipe} (d : r ≡ Ok recipe) where
    taken : (reading_answer s (was pool) ≡ done) × (recipe ≡ recipe_in s)
    taken = given_ok (sym x.answered ∙ d)

    pub message_taken : message_answer s ≡ done
    message_taken = sym told_by ∙ taken.0

    pub recipe_read : recipe ≡ recipe_in s
    recipe_read = taken.1

    pub pool_read : became pool ≡ pool_in s
    pool_read = let t = taken.0 in x.numbers ∙ rw (t, z)

-- ---- two calls of one run, by what they are lent and leave
pub record Same (c d : Call) : Type 0 where
  pub same : answer c ≡ answer d
  pub steps : all_steps c ≡ all_steps d
  pub were : slots_were c ≡ slots_were d
  pub leaves : slots_became d ≡ slots_became c
  pub scratch : was c.scratch ≡ was d.scratch
  pub clears : became d.scratch ≡ became c.scratch

-- ---- a run by a kind's number
kind_passed : (kind : ℕ) → named_kind kind ≡ Done → ltb 1 kind ≡ false
unfolding named_kind
kind_passed kind e = by (ltb 1 kind) e
  where
    by : (t : Bool) → cond t (refusal 5) Done ≡ Done → t ≡ false
    by true e = cc
    by false e = refl

kind_refused : (kind : ℕ) {r : Refusal} → named_kind kind ≡ Err r → (ltb 1 kind ≡ true) × (whole (refusal 5) ≡ Err (record { refusal = r; step = 0 }))
unfolding named_kind
kind_refused kind e = by (ltb 1 kind) e
  where
    by : (t : Bool) {r : Refusal} → cond t (refusal 5) Done ≡ Err r → (t ≡ true) × (whole (refusal 5) ≡ Err (record { refusal = r; step = 0 }))
    by true e = (refl, ap whole e)
    by false e = cc

module _ (kind : ℕ) (c : Call) where
  pub by_no_kind : {r : Refusal} {a : RunAnswer} → named_kind kind ≡ Err r → a ≡ Err (record { refusal = r; step = 0 }) → slots_became c ≡ slots_were c → became c.scratch ≡ was c.scratch → RanByKind kind c a
  by_no_kind n p s z =
      let e = (kind_refused kind n).0 in
      record { answered = rw e (p ∙ sym (kind_refused kind n).1); sheets = rw e s; cleared = rw e (record { elements = z }) }

  pub by_kind :
      {c' : Call} {a : RunAnswer} → named_kind kind ≡ Done → Ran c' a → Same c' c → RanByKind kind c a
  by_kind n r m =
      let e = kind_passed kind n in
      record {
        answered = rw e (r.answered ∙ m.same);
        sheets = rw e (m.leaves ∙ (r.sheets ∙ rw (m.same, m.steps, m.were)));
        cleared = rw e (record { elements = m.clears ∙ (r.cleared.elements ∙ rw (m.same, m.scratch)) });
      }

  pub reaches_no_kind : {r : Refusal} {a : Result Bool Refused} → named_kind kind ≡ Err r → a ≡ Err (record { refusal = r; step = 0 }) → ReachedByKind kind c a
  reaches_no_kind n p =
      let e = (kind_refused kind n).0 in
      rw p (record { answered = rw e (sym (kind_refused kind n).1); only = λ y. absurd (true≢false (sym y)); always = λ f x. absurd (true≢false (sym e ∙ f)) })

  pub reaches_kind : {r : Result Bool Refused} → named_kind kind ≡ Done → ReachesExactly c r → ReachedByKind kind c r
  reaches_kind n r =
      let e = kind_passed kind n in
      record { answered = rw e r.answered; only = λ y. (e, r.only y); always = λ f x. r.always x }

-- ---- a yes or no
few : (b : Bool) → one_if b < 2
few true = omega arith
few false = omega arith

is_one : (b : Bool) → one_if b ≡ 1 → b ≡ true
is_one true e = refl
is_one false e = absurd (eqb-false 0 1 refl e)

-- ---- a message that is taken
carried : (F : Recipe → List Float → Type 0) {r r' : Recipe} {p p' : List Float} → r ≡ r' → p ≡ p' → F r p → F r' p'
carried F {r} {r'} {p} {p'} e g x = subst (λ (q : Recipe). F q p') e (subst (λ (q : List Float). F r q) g x)

module _ {A : Type 0} (f : Recipe → List Float → A) {r r' : Recipe} {p p' : List Float} where
  both : r ≡ r' → p ≡ p' → f r p ≡ f r' p'
  both e g = rw (e, g)

module _ {s : List ℕ} {pool : Lent Float} {rd : Result Recipe MessageError} {recipe : Recipe} (x : ReadExactly s pool rd) (z : was pool ≡ replicate 16384 c0) (d : rd ≡ Ok recipe) (kind w h : ℕ) (source slot1 slot2 slot3 scratch : Lent ℕ) (lent : Lent Float) (l : was lent ≡ became pool) where
  abbrev run : Call
  run = call recipe (kind_of kind) lent (record { width = w; height = h }) source slot1 slot2 slot3 scratch

  abbrev sheets : Slots
  sheets = slots (was source) (was slot1) (was slot2) (was slot3)

  abbrev told : RunAnswer
  told = kind_answer s kind w h sheets (was scratch)

  lent_pool : was lent ≡ pool_in s
  lent_pool = l ∙ pool_read x z d

  same_answer : answer_by_kind kind run ≡ told
  unfolding kind_answer
  same_answer = both (λ r p. cond (ltb 1 kind) (whole (refusal 5)) (run_answer r (kind_of kind) p w h (lengths sheets (was scratch)))) (recipe_read x z d) lent_pool

  same_steps : all_steps run ≡ acts (pool_in s) w h (step_of (recipe_in s)) (recipe_in s).count sheets
  same_steps = both (λ r p. acts p w h (step_of r) r.count sheets) (recipe_read x z d) lent_pool

  told_taken : {a : RunAnswer} {n step at : ℕ} → a ≡ answer_by_kind kind run → RunTold a n step at → ToldBoth (message_answer s) told n step at
  told_taken e t =
      let f = e ∙ same_answer in
      rw (message_taken x z d) (record {
        number_told = t.0 ∙ ap number f;
        step_told = t.1 ∙ ap step_index f;
        offset_told = t.2;
      })

  pub run_taken :
      {a : RunAnswer} {c : Call} (r : nup_run_answer) → RanByKind kind c a → RunTold a r.number r.step r.offset
      → Same c run → RunFrom s kind w h source slot1 slot2 slot3 scratch told r
  run_taken {a} {c} r y t m =
      let e : answer_by_kind kind c ≡ told = ap (λ (b : RunAnswer). cond (ltb 1 kind) (whole (refusal 5)) b) m.same ∙ same_answer in
      record {
        told = told_taken (y.answered ∙ ap (λ (b : RunAnswer). cond (ltb 1 kind) (whole (refusal 5)) b) m.same) t;
        sheets = rw (message_taken x z d) (m.leaves ∙ (y.sheets ∙ rw (e, m.steps, same_steps, m.were)));
        cleared = rw (message_taken x z d) (m.clears ∙ (y.cleared.elements ∙ rw (e, m.scratch)));
      }

  -- a byte's way to the source, by a recipe and a pool
  abbrev Way : ℕ → ℕ → Recipe → List Float → Type 0
  Way k j r p = Reach (step_reads p w h) (step_of r) r.count (result r) k j

  reach_forth : (ltb 1 kind ≡ false) × Reaching run → ReachingFrom s w h told
  reach_forth g = record {
    read = message_taken x z d;
    accepted = sym same_answer ∙ rw g.0 g.1.accepted;
    byte = g.1.byte;
    inside = g.1.inside;
    origin = g.1.origin;
    way = carried (Way g.1.byte g.1.origin) (recipe_read x z d) lent_pool g.1.way;
  }

  reach_back : ltb 1 kind ≡ false → ReachingFrom s w h told → Reaching run
  reach_back f g = record {
    accepted = rw f at (same_answer ∙ g.accepted);
    byte = g.byte;
    inside = g.inside;
    origin = g.origin;
    way = carried (Way g.byte g.origin) (sym (recipe_read x z d)) (sym lent_pool) g.way;
  }

  -- a run that is answered Done has a kind with a name
  named : told ≡ Done → ltb 1 kind ≡ false
  unfolding kind_answer
  named e = by (ltb 1 kind) refl e
    where
      by : (b : Bool) → ltb 1 kind ≡ b → cond b (whole (refusal 5)) (run_answer (recipe_in s) (kind_of kind) (pool_in s) w h (lengths sheets (was scratch))) ≡ Done → ltb 1 kind ≡ false
      by false f g = f
      by true f g = cc

  pub reach_taken : {y : Result Bool Refused} (r : nup_reach_answer) → ReachedByKind kind run y → ReachTold y r → ReachFrom s w h told r
  reach_taken {y} r k t = record {
    told = told_taken k.answered t.0;
    yes_or_no = rw t.1 (few (yes_of y));
    only = λ e. reach_forth (k.only (is_one (yes_of y) (sym t.1 ∙ e)));
    always = λ g. t.1 ∙ rw (k.always (named g.accepted) (reach_back (named g.accepted) g));
  }

-- the pool as it was left, lent for reading
abbrev pub left : Lent Float → Lent Float
left pool = read_only (became pool)

module _ {s : List ℕ} {pool : Lent Float} {rd : Result Recipe MessageError} {recipe : Recipe} (x : ReadExactly s pool rd) (z : was pool ≡ replicate 16384 c0) (d : rd ≡ Ok recipe) (kind w h : ℕ) (source slot1 slot2 slot3 scratch : Lent ℕ) where
  pub run_left :
      {a : RunAnswer} {c : Call} (r : nup_run_answer) → RanByKind kind c a → RunTold a r.number r.step r.offset
      → Same c (call recipe (kind_of kind) (left pool) (record { width = w; height = h }) source slot1 slot2 slot3 scratch)
      → RunFrom s kind w h source slot1 slot2 slot3 scratch (kind_answer s kind w h (slots (was source) (was slot1) (was slot2) (was slot3)) (was scratch)) r
  run_left r y t m = run_taken x z d kind w h source slot1 slot2 slot3 scratch (left pool) refl r y t m

-- ---- a message that is refused
module _ (s : List ℕ) (w h : ℕ) {a : RunAnswer} {e : MessageError} (m : message_answer s ≡ Err e) where
  refused_told : {n step at : ℕ} → MessageTold e n step at → ToldBoth (message_answer s) a n step at
  refused_told t = rw m (record { number_told = t.0; step_told = t.1; offset_told = t.2 })

  pub reach_refused : {r : nup_reach_answer} → MessageTold e r.number r.step r.offset × (r.reaches ≡ 0) → ReachFrom s w h a r
  reach_refused t = record {
    told = refused_told t.0;
    yes_or_no = let z = t.1 in omega arith;
    only = λ f. let z = t.1 in absurd (omega arith);
    always = λ g. never (sym m ∙ g.read);
  }
    where
      never : {A : Type 0} → ◌≡◌ {A = Result Unit MessageError} (Err e) done → A
      never d = cc

  pub run_refused : (kind : ℕ) (source slot1 slot2 slot3 scratch : Lent ℕ) {r : nup_run_answer} → MessageTold e r.number r.step r.offset
      → slots (was source) (became slot1) (became slot2) (became slot3) ≡ slots (was source) (was slot1) (was slot2) (was slot3) → became scratch ≡ was scratch
      → RunFrom s kind w h source slot1 slot2 slot3 scratch a r
  run_refused kind source slot1 slot2 slot3 scratch t f g = record { told = refused_told t; sheets = rw m f; cleared = rw m g }
