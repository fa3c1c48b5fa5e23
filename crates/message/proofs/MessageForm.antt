-- A message that is read is written of the parts that were read, byte for byte where nothing is NaN.
use Prim.Native.Nat.{ℕ, zero, suc, ◌+◌, ◌<◌}
use mathlib.Core.Path.{◌≡◌, refl, sym, ap, ◌∙◌}
use mathlib.Core.Bool.{Bool, true, false, cond}
use mathlib.Core.List.{List, [], ◌∷◌, append-nil}
use borrow.Author.Tests.{eqb-true, eqb-false}
use lib.ListN.{length}
use lib.Dec.{eqb}
use Rattle.number.specs.Words.{Words, word, stop, Got, got, and_then, next, words_at}
use Rattle.number.proofs.Words.{Small}
use Rattle.number.proofs.Form.{plain, end_of, words_reads, words_form}
use Rattle.message.specs.Fields.{write}
use Rattle.message.specs.Steps.{Parts, is_code, form_of, made_of, pooled_of, words_of, Read, read_of, read_form, read_step}
use Rattle.message.specs.Message.{Content, step_and, steps_words, message_bytes, end_to_end, read_steps, good, bad, whole, read_message}
use Rattle.message.specs.RoundTrip.{EachOf, Bytes, no_more, SameButNan}
use Rattle.message.proofs.OneForm as one
use Rattle.message.proofs.OneForm.{OnGot, is_got, is_wrong, on_then, on_cond, on_same, Clear, near, after_one, nothing_yet, joined, read_form_lem}
use Rattle.message.proofs.ReadBack.{Writable}

abbrev pub ClearParts : Parts → Type 0
ClearParts q = Clear (form_of q.code).row q.values

-- a step that was read of parts
pub record StepForm (used : ℕ) (ws : Words) (r : Read) (rest : Words) : Type 0 where
  pub parts : Parts
  pub made : read_of used (form_of parts.code) parts.values ≡ r
  pub read_as : one.Form (Writable parts) (ClearParts parts) ws (words_of parts) rest

step_form : (used : ℕ) (ws : Words) → Small (plain ws) → OnGot (StepForm used ws) (read_step used ws)
unfolding read_step read_form words_of plain
step_form used (stop p) h = is_wrong
step_form used (word p c ws) h =
    on_cond (is_code c) p (λ e.
    on_then (λ v r. got (read_of used (form_of c) v) r) (read_form_lem (form_of c).row ws h.1) (λ v r k. is_got (record {
      parts = record { code = c; values = v };
      made = refl;
      read_as = after_one p c ws r c (write (form_of c).row v) k (record { known = e; small = h.0; fit = k.fit }) (near c) (λ d. (refl, d));
    })))

-- steps that were read of parts
pub record StepsForm (n used : ℕ) (ws : Words) (c : Content) (rest : Words) : Type 0 where
  pub parts : List Parts
  pub long : length parts ≡ n
  pub made : end_to_end used parts ≡ c
  pub read_as : one.Form (EachOf Writable parts) (EachOf ClearParts parts) ws (steps_words parts) rest

one_more :
    (n used : ℕ) (ws : Words) (r : Read) (rest : Words) (c : Content) (rest' : Words) → StepForm used ws r rest
    → StepsForm n (used + length r.read_numbers_lem) rest c rest' → StepsForm (suc n) used ws (step_and r.read_step_lem r.read_numbers_lem c) rest'
unfolding steps_words end_to_end
one_more n used ws r rest c rest' k l =
    let m : made_of used k.parts ≡ r.read_step_lem = ap (λ (x : Read). x.read_step_lem) k.made in
    let i : pooled_of k.parts ≡ r.read_numbers_lem = ap (λ (x : Read). x.read_numbers_lem) k.made in
    let e = l.made in
    record {
      parts = k.parts ∷ l.parts;
      long = ap suc l.long;
      made = rw (m, i, e);
      read_as = joined k.read_as l.read_as;
    }

steps_form : (n used : ℕ) (ws : Words) → Small (plain ws) → OnGot (StepsForm n used ws) (read_steps n used ws)
unfolding read_steps end_to_end steps_words
steps_form zero used ws h =
    is_got (record { parts = []; long = refl; made = refl; read_as = nothing_yet ws h })
steps_form (suc n) used ws h =
    on_then (λ r rest. and_then (read_steps n (used + length r.read_numbers_lem) rest) (λ c rest'. got (step_and r.read_step_lem r.read_numbers_lem c) rest')) (step_form used ws h) (λ r rest k.
    on_then (λ c rest'. got (step_and r.read_step_lem r.read_numbers_lem c) rest') (steps_form n (used + length r.read_numbers_lem) rest k.read_as.small) (λ c rest' l.
    is_got (one_more n used ws r rest c rest' k l)))

-- what is whole was read to its end
not_good : {A : Type 0} {p : ℕ} {c : Content} → bad p ≡ good c → A
not_good e = let z : ◌≡◌ {A = ℕ} 0 1 = cc in absurd (eqb-false 0 1 refl z)

at_end : {Q : Content → Words → Type 0} (n : ℕ) {g : Got Content} (c : Content) → OnGot Q g → whole n g ≡ good c → Q c (stop n)
at_end {Q} n c (is_got {a} {rest} h) e = left rest h e
  where
    by : (p : ℕ) (t : Bool) → eqb p n ≡ t → Q a (stop p) → cond t (good a) (bad p) ≡ good c → Q c (stop n)
    by p true f i j = let x : a ≡ c = cc in let y = eqb-true p n f in rw (← x, ← y) i
    by p false f i j = not_good j

    left : (r : Words) → Q a r → whole n (got a r) ≡ good c → Q c (stop n)
    left (stop p) i j = by p (eqb p n) refl i j
    left (word p k r) i j = not_good j
at_end n c is_wrong e = not_good e

-- the count and the steps
record CountedForm (ws : Words) (c : Content) (rest : Words) : Type 0 where
  parts : List Parts
  made : end_to_end 0 parts ≡ c
  few : length parts < 4294967296
  read_as : one.Form (EachOf Writable parts) (EachOf ClearParts parts) ws (length parts ∷ steps_words parts) rest

counted_form : (ws : Words) → Small (plain ws) → OnGot (CountedForm ws) (next ws (λ p n rest. read_steps n 0 rest))
unfolding plain
counted_form (stop p) h = is_wrong
counted_form (word p n ws) h =
    on_same (steps_form n 0 ws h.1) (λ c r k.
    let e = k.long in
    record {
      parts = k.parts;
      made = k.made;
      few = rw e h.0;
      read_as = after_one p n ws r (length k.parts) (steps_words k.parts) k.read_as k.read_as.fit (rw e (near n)) (λ d. (sym e, d));
    })

-- a message that was read of parts
pub record MessageForm (s : List ℕ) (c : Content) : Type 0 where
  pub parts : List Parts
  pub made : end_to_end 0 parts ≡ c
  pub few : length parts < 4294967296
  pub fit : EachOf Writable parts
  pub form : EachOf ClearParts parts → message_bytes parts ≡ s
  pub nearly : SameButNan s (message_bytes parts)

pub message_form : (s : List ℕ) → Bytes s → (c : Content) → read_message s ≡ good c → MessageForm s c
unfolding read_message message_bytes plain end_of
message_form s u c e =
    let k = at_end (length s) c (counted_form (words_at s 0) (words_reads s u 0).small) e in
    let w = words_form s u 0 k.read_as.ends in
    record {
      parts = k.parts;
      made = k.made;
      few = k.few;
      fit = k.read_as.fit;
      form = λ d.
          let x : plain (words_at s 0) ≡ length k.parts ∷ steps_words k.parts = k.read_as.form d ∙ append-nil (length k.parts ∷ steps_words k.parts) in
          rw (← x) (sym w.0);
      nearly = record {
        numbers = plain (words_at s 0);
        numbers' = length k.parts ∷ steps_words k.parts;
        first = w.0;
        second = refl;
        same = rw append-nil at (k.read_as.nearly [] no_more);
      };
    }
