-- Steps that were taken are a message where they end with it, are few enough, and their numbers fit.
use Prim.Native.Nat.{ℕ, zero, suc, ◌+◌, ◌≤◌, ◌<◌}
use mathlib.Core.Path.{◌≡◌, refl, sym, ap, ◌∙◌}
use mathlib.Core.Bool.{Bool, true, false}
use mathlib.Core.List.{List}
use native.Mathlib.Omega.{arith}
use borrow.Author.Tests.{eqb-true, eqb-false, eq-eqb, ne_eqb, lt-ltb, le-ltb}
use lib.Dec.{eqb}
use lib.ListN.{length, replicate}
use lib.Seq.{sets}
use lib.Ieee.{Float}
use Rattle.std.specs.Prelude.{Result, Ok, Err}
use Rattle.sheet.specs.Contract.{lent}
use Rattle.recipe.specs.declared.Recipe.{Recipe}
use Rattle.recipe.specs.declared.Step.{Step}
use Rattle.number.specs.declared.Wrong.{Wrong}
use Rattle.number.specs.declared.reader.Reader.{Reader}
use Rattle.number.specs.Number.{Reads}
use Rattle.number.specs.Words.{Words, word, stop, place_of, Got, got, wrong, and_then}
use Rattle.number.proofs.Words.{place_of_lem, no_words}
use Rattle.message.specs.declared.MessageError.{MessageError}
use Rattle.message.specs.declared.MessageError.TheVariants.{Steps, Malformed, Room}
use Rattle.message.specs.declared.lists.Pool.{Pool}
use Rattle.message.specs.Steps.{Read, read_step}
use Rattle.message.specs.Message.{Content, empty, step_and, read_steps, good, bad, whole, read_message}
use Rattle.message.specs.Answers.{done, blank, room_of, read_answer, reading_answer, ReadExactly}
use Rattle.message.specs.Inner.Reading.{words, StepsTaken}
use Rattle.message.proofs.Taking.{here, nothing}

nothing_got : {A B : Type 0} {a : A} {ws : Words} {p : ℕ} → wrong p ≡ got a ws → B
nothing_got e = let z : ⊥ = cc in absurd z

pub steps_long : (n used : ℕ) (ws : Words) (c : Content) (rest : Words) → read_steps n used ws ≡ got c rest → length c.steps ≡ n
unfolding read_steps
steps_long zero used ws c rest e = let z : empty ≡ c = cc in rw (← z)
steps_long (suc n) used ws c rest e = first (λ u v. steps_long n u v) (read_step used ws) e
  where
    second :
        (r : Read) (g : Got Content) → ((c : Content) (rest : Words) → g ≡ got c rest → length c.steps ≡ n)
        → and_then g (λ d rest'. got (step_and r.read_step_lem r.read_numbers_lem d) rest') ≡ got c rest → length c.steps ≡ suc n
    second r (got d rest') i f = let z : step_and r.read_step_lem r.read_numbers_lem d ≡ c = cc in rw (← z) (ap suc (i d rest' refl))
    second r (wrong p) i f = nothing_got f

    first :
        ((u : ℕ) (v : Words) (c : Content) (rest : Words) → read_steps n u v ≡ got c rest → length c.steps ≡ n) → (g : Got Read)
        → and_then g (λ r rest. and_then (read_steps n (used + length r.read_numbers_lem) rest) (λ d rest'. got (step_and r.read_step_lem r.read_numbers_lem d) rest')) ≡ got c rest
        → length c.steps ≡ suc n
    first i (got r v) f = second r (read_steps n (used + length r.read_numbers_lem) v) (i (used + length r.read_numbers_lem) v) f
    first i (wrong p) f = nothing_got f

-- bytes are left over
over : (c : Content) (n end : ℕ) (ws : Words) → place_of ws ≡ end → (end ≡ n → ⊥) → whole n (got c ws) ≡ bad end
over c n end (word p k ws) e h = rw e
over c n end (stop p) e h = rw (e, ne_eqb end n h)

-- ---- a message begins with its count of steps
module _ (r m : Reader) (z : r.at ≡ 0) where
  pub no_count : {w : ℕ} → words r ≡ stop w → read_message r.message.now ≡ bad w
  unfolding read_message
  no_count e = let f = rw z at e in rw f

  pub message_begins : {n : ℕ} → words r ≡ word r.at n (words m) → read_message r.message.now ≡ whole (length r.message.now) (read_steps n 0 (words m))
  unfolding read_message
  message_begins e = let f = rw z at e in rw f

-- ---- then its steps
module _ (s : List ℕ) (count : ℕ) (m : Reader) {n : Reader} {pool last : Pool} {t : Result (List Step) Wrong} (at_message : n.message.now ≡ s) (empty_pool : pool.used ≡ 0) (h : StepsTaken count m n pool last t) where
  pub steps_wrong : {w : Wrong} → t ≡ Err w → whole (length s) (read_steps count 0 (words m)) ≡ bad w.at
  steps_wrong {w} e = let f = rw empty_pool at (h.ill w e) in rw f

  module _ {l : List Step} (e : t ≡ Ok l) where
    abbrev pub content : Content
    content = (h.well l e).value

    steps_read : read_steps count 0 (words m) ≡ got content (words n)
    steps_read = rw empty_pool at (h.well l e).took.reading

    pub count_is : length content.steps ≡ count
    count_is = steps_long count 0 (words m) content (words n) steps_read

    pub used_is : length content.numbers ≡ last.used
    used_is = let k = (h.well l e).took.counted in rw (h.well l e).fits.1 (omega arith)

    pub steps_over : (n.at ≡ length s → ⊥) → whole (length s) (read_steps count 0 (words m)) ≡ bad n.at
    steps_over g = rw steps_read (over content (length s) n.at (words n) (place_of_lem n.message.now n.at) g)

    pub steps_whole : n.at ≡ length s → whole (length s) (read_steps count 0 (words m)) ≡ good content
    steps_whole g = rw (steps_read, no_words n.message.now n.at (rw at_message (omega arith)), eq-eqb n.at (length s) g)

-- ---- what is answered
module _ (s : List ℕ) (room : ℕ) where
  pub test_malformed : {w : ℕ} → read_message s ≡ bad w → Err (Malformed w) ≡ read_answer (read_message s) room
  unfolding read_answer
  test_malformed e = rw e

  module _ {c : Content} (e : read_message s ≡ good c) {count : ℕ} (k : length c.steps ≡ count) where
    pub test_steps : 16 < count → Err Steps ≡ read_answer (read_message s) room
    unfolding read_answer
    test_steps h = rw (e, k, lt-ltb 16 count h)

    module _ {used : ℕ} (l : length c.numbers ≡ used) (h : count ≤ 16) where
      pub test_room : room < used → Err Room ≡ read_answer (read_message s) room
      unfolding read_answer
      test_room f = rw (e, k, le-ltb 16 count h, l, lt-ltb room used f)

      pub test_done : used ≤ room → done ≡ read_answer (read_message s) room
      unfolding read_answer
      test_done f = rw (e, k, le-ltb 16 count h, l, le-ltb room used f)

-- a message that is taken is whole
pub not_bad : (s : List ℕ) (room : ℕ) {w : ℕ} → read_answer (read_message s) room ≡ done → read_message s ≡ bad w → ⊥
unfolding read_answer
not_bad s room d e = let z = rw e at d in apart z
  where
    apart : {e : MessageError} → Err e ≡ done → ⊥
    apart f = cc

-- ---- what `read` leaves
same_sets : {a b : List Float} {m n : ℕ} {l k : List Float} → a ≡ b → m ≡ n → l ≡ k → sets a m l ≡ sets b n k
same_sets e f g = rw (e, f, g)

same_recipe : {a b : List Step} {n m : ℕ} → a ≡ b → n ≡ m → ◌≡◌ {A = Recipe} (record { steps = a; count = n }) (record { steps = b; count = m })
same_recipe e f = rw (e, f)

module _ (s : List ℕ) (pool : List Float) where
  pub read_refused : {e : MessageError} {r : Result Recipe MessageError} → reading_answer s pool ≡ Err e → r ≡ Err e → ReadExactly s (lent pool pool) r
  read_refused f g = rw g (record { answered = rw f; numbers = rw f })

  pub read_done :
      {c : Content} {after : List Float} {l : List Step} {n : ℕ} → reading_answer s pool ≡ done → read_message s ≡ good c → length c.steps ≡ n
      → l ≡ sets (replicate 16 blank) 0 c.steps → after ≡ sets pool 0 c.numbers → ReadExactly s (lent pool after) (Ok (record { steps = l; count = n }))
  read_done f e k g b = record {
    answered = rw (f, e) (ap Ok (same_recipe g (sym k)));
    numbers = rw (f, e) b;
  }

-- ---- the whole message, by its count and its steps
module _ (s : List ℕ) (r m : Reader) (a : r.message.now ≡ s) (z : r.at ≡ 0) {t : Result ℕ Wrong} (sm : m.message ≡ r.message) (nm : Reads r.message.now r.at t m.at) where
  pub count_wrong : {w : Wrong} → t ≡ Err w → read_message s ≡ bad w.at
  count_wrong e = rw a at (no_count r m z (nothing r m sm nm e))

  module _ {count : ℕ} (e : t ≡ Ok count) {n : Reader} {p q : Pool} {u : Result (List Step) Wrong} (pz : p.used ≡ 0) (sn : n.message ≡ m.message) (h : StepsTaken count m n p q u) where
    begins : read_message s ≡ whole (length s) (read_steps count 0 (words m))
    begins = rw a at (message_begins r m z (here r m sm nm e))

    pub at_message : n.message.now ≡ s
    at_message = ap (λ x. x.now) (sn ∙ sm) ∙ a

    pub all_wrong : {w : Wrong} → u ≡ Err w → read_message s ≡ bad w.at
    all_wrong f = begins ∙ steps_wrong s count m at_message pz h f

    module _ {l : List Step} (f : u ≡ Ok l) where
      pub all_over : (n.at ≡ length s → ⊥) → read_message s ≡ bad n.at
      all_over g = begins ∙ steps_over s count m at_message pz h f g

      pub all_good : n.at ≡ length s → read_message s ≡ good (content s count m at_message pz h f)
      all_good g = begins ∙ steps_whole s count m at_message pz h f g

      pub all_steps : length (content s count m at_message pz h f).steps ≡ count
      all_steps = count_is s count m at_message pz h f

      pub all_numbers : length (content s count m at_message pz h f).numbers ≡ q.used
      all_numbers = used_is s count m at_message pz h f

      -- where it is taken, it ends with the steps
      pub ends_with : (room : ℕ) → read_answer (read_message s) room ≡ done → n.at ≡ length s
      ends_with room d = by (eqb n.at (length s)) refl
        where
          by : (b : Bool) → eqb n.at (length s) ≡ b → n.at ≡ length s
          by true g = eqb-true n.at (length s) g
          by false g = absurd (not_bad s room d (all_over (eqb-false n.at (length s) g)))

      pub read_all :
          (pool after : List Float) → reading_answer s pool ≡ done → p.numbers.now ≡ pool → q.numbers.now ≡ after
          → ReadExactly s (lent pool after) (Ok (record { steps = l; count = count }))
      read_all pool after d g k =
          let w = h.well l f in
          read_done s pool d (all_good (ends_with (room_of pool) d)) all_steps w.fits.0 (sym k ∙ (w.took.stored ∙ same_sets g pz (sym w.fits.1)))
