-- The steps of a message one after the other: what was read so far stands before what the rest gives.
use Prim.Native.Nat.{ℕ, suc, ◌+◌, ◌-◌, ◌≤◌, ◌<◌}
use mathlib.Core.Path.{◌≡◌, refl, sym, ◌∙◌}
use mathlib.Core.List.{List, [], ◌∷◌, ◌++◌, append-nil, append_assoc}
use native.Mathlib.Nat.{sub-zero, add-zero}
use native.Mathlib.Omega.{arith}
use lib.ListN.{length, set, replicate, length-append}
use lib.Ieee.{Float}
use lib.Seq.{sets, set_out, length-sets}
use Rattle.std.specs.Prelude.{Result, Ok, Err}
use Rattle.recipe.specs.declared.Step.{Step}
use Rattle.number.specs.declared.Wrong.{Wrong}
use Rattle.number.specs.declared.reader.Reader.{Reader}
use Rattle.number.specs.Words.{Got, got, wrong, and_then}
use Rattle.number.proofs.Stores.{sets_append}
use Rattle.message.specs.declared.lists.Pool.{Pool}
use Rattle.message.specs.Message.{Content, empty, step_and, read_steps}
use Rattle.message.specs.Answers.{blank}
use Rattle.message.specs.Inner.Reading.{words, Fitting, StepTaken}
use Rattle.message.proofs.Gathered.{same_got}

-- both contents, one after the other
abbrev pub joined : Content → Content → Content
joined a b = record { steps = a.steps ++ b.steps; numbers = a.numbers ++ b.numbers }

-- i steps were taken, and their numbers stored
pub record Going (wanted : Got Content) (count : ℕ) (r : Reader) (pool after : Pool) (steps : List Step) (i : ℕ) : Type 0 where
  pub done : Content
  pub long : length done.steps ≡ i
  pub gives : wanted ≡ and_then (read_steps (count - i) after.used (words r)) (λ c rest. got (joined done c) rest)
  pub laid : steps ≡ sets (replicate 16 blank) 0 done.steps
  pub kept : after.numbers.now ≡ sets pool.numbers.now pool.used done.numbers
  pub counted : after.used ≡ pool.used + length done.numbers
  pub room : after.used ≤ r.at

one_more :
    (done : Content) (x : Step) (l : List Float) (g : Got Content)
    → and_then (and_then g (λ c rest. got (step_and x l c) rest)) (λ c rest. got (joined done c) rest)
    ≡ and_then g (λ c rest. got (joined (joined done (record { steps = x ∷ []; numbers = l })) c) rest)
one_more done x l (got c rest) = rw (append_assoc done.steps (x ∷ []) c.steps, append_assoc done.numbers l c.numbers)
one_more done x l (wrong p) = refl

module _ {wanted : Got Content} {count : ℕ} {r : Reader} {pool : Pool} where
  pub going_first : {steps : List Step} → wanted ≡ read_steps count pool.used (words r) → pool.used ≤ r.at → steps ≡ replicate 16 blank → Going wanted count r pool pool steps 0
  going_first {steps} e h l = record {
    done = empty;
    long = refl;
    gives = rw (sub-zero, e) (same_got (read_steps count pool.used (words r)));
    laid = l;
    kept = refl;
    counted = sym (add-zero pool.used);
    room = h;
  }

  module _ {after : Pool} {steps : List Step} {i : ℕ} (g : Going wanted count r pool after steps i) where
    one_left : i < count → count - i ≡ suc (count - (i + 1))
    one_left h = omega arith

    pub steps_long : length steps ≡ 16
    steps_long = rw (g.laid) (simp length-sets)

    module _ (h : i < count) {n : Reader} {last : Pool} {t : Result Step Wrong} (s : StepTaken r n after last t) where
      pub going_wrong : {w : Wrong} → t ≡ Err w → wanted ≡ wrong w.at
      unfolding read_steps
      going_wrong {w} e = g.gives ∙ rw (one_left h, s.ill w e)

      pub going_next : {x : Step} → t ≡ Ok x → {steps' : List Step} → steps' ≡ set steps i x → Going wanted count n pool last steps' (i + 1)
      unfolding read_steps
      going_next {x} e {steps'} f =
          let k = s.well x e in
          let o = k.took in
          let c = g.counted in
          let d = o.counted in
          record {
            done = joined g.done (record { steps = x ∷ []; numbers = k.list });
            long = length-append g.done.steps (x ∷ []) ∙ rw g.long;
            gives = g.gives ∙ rw (one_left h, o.reading, ← k.fits.0, k.fits.1, ← d) (one_more g.done x k.list (read_steps (count - (i + 1)) last.used (words n)));
            laid = f ∙ rw g.laid steps_stored;
            kept = o.stored ∙ rw (g.kept, g.counted) (sets_append g.done.numbers pool.numbers.now pool.used k.list);
            counted = rw (length-append g.done.numbers k.list) (omega arith);
            room = o.room;
          }
        where
          steps_stored : set (sets (replicate 16 blank) 0 g.done.steps) i x ≡ sets (replicate 16 blank) 0 (g.done.steps ++ (x ∷ []))
          steps_stored = let z : i ≡ 0 + length g.done.steps = (let l = g.long in omega arith) in rw z (sets_append g.done.steps (replicate 16 blank) 0 (x ∷ []))

      -- past the sixteenth no step is kept
      pub going_past : {x : Step} → t ≡ Ok x → {steps' : List Step} → steps' ≡ steps → 16 ≤ i → Going wanted count n pool last steps' (i + 1)
      going_past {x} e {steps'} f l =
          let z = steps_long in
          going_next e (f ∙ sym (set_out steps i x (omega arith)))

    pub going_done : count ≤ i → i ≤ count → Fitting wanted (λ c l. (steps ≡ sets (replicate 16 blank) 0 c.steps) × (c.numbers ≡ l)) r pool after
    unfolding read_steps
    going_done h k =
        let z : count - i ≡ 0 = omega arith in
        record {
          value = g.done;
          list = g.done.numbers;
          took = record {
            reading = g.gives ∙ rw (z, append-nil g.done.steps, append-nil g.done.numbers);
            stored = g.kept;
            counted = g.counted;
            room = g.room;
          };
          fits = (g.laid, refl);
        }
