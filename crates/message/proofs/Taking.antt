-- What is taken in parts: a wrong number ends it, and parts that were taken stand one after the other.
use Prim.Native.Nat.{ℕ, zero, suc, ◌≤◌, ◌<◌}
use mathlib.Core.Path.{◌≡◌, refl, sym, ◌∙◌}
use mathlib.Core.Bool.{Bool, true, false}
use mathlib.Core.List.{List, [], ◌∷◌, ◌++◌}
use native.Mathlib.Nat.{add-zero}
use borrow.Author.Tests.{ltb-true}
use lib.Dec.{ltb}
use native.Mathlib.Omega.{arith}
use lib.ListN.{length-append}
use lib.Ieee.{Float}
use Rattle.std.specs.Prelude.{Result, Ok, Err}
use Rattle.number.specs.declared.Wrong.{Wrong}
use Rattle.number.specs.declared.reader.Reader.{Reader}
use Rattle.number.specs.Number.{Reads}
use Rattle.number.specs.Words.{Words, word, stop, Got, got, wrong, and_then}
use Rattle.number.proofs.Stores.{sets_append}
use Rattle.number.proofs.Words.{word_here, stop_here, further, wrong_at}
use Rattle.message.specs.declared.lists.Pool.{Pool}
use Rattle.message.specs.Fields.{Field, Value, Values, apply, read_field, read, pooled}
use Rattle.recipe.specs.declared.Step.{Step}
use Rattle.message.specs.Steps.{form_of, is_code, read_form, read_of, read_step}
use Rattle.message.specs.Inner.Reading.{words, Took, Fitting, Taken, read_block, StepFine, PlainTaken}
use Rattle.message.proofs.PlainRows.{after, bounds_of, bounded, values_of, row_read, row_pooled}

-- ---- a number at a reader's place
module _ (r n : Reader) {t : Result ℕ Wrong} (m : n.message ≡ r.message) (h : Reads r.message.now r.at t n.at) where
  pub here : {k : ℕ} → t ≡ Ok k → words r ≡ word r.at k (words n)
  here {k} e = let z = rw e at h in word_here r.message.now r.at k n.at z ∙ rw m

  pub on : {k : ℕ} → t ≡ Ok k → r.at < n.at
  on {k} e = let z = rw e at h in further r.message.now r.at k n.at z

  pub nothing : {w : Wrong} → t ≡ Err w → words r ≡ stop w.at
  nothing {w} e = let z = rw e at h in stop_here r.message.now r.at w z.0 ∙ rw (wrong_at r.message.now r.at w (sym z.0))

-- ---- results
module _ {A T : Type 0} {wanted : Got A} {fine : T → A → List Float → Type 0} {next : Reader} {pool last : Pool} where
  pub well_taken : (t : T) → Fitting wanted (fine t) next pool last → Taken wanted fine next pool last (Ok t)
  well_taken t f = record {
    well = λ u e. let z : t ≡ u = cc in rw (← z) f;
    ill = λ w e. let z : ⊥ = cc in absurd z;
  }

  pub ill_taken : {r : Result T Wrong} {w : Wrong} → r ≡ Err w → wanted ≡ wrong w.at → Taken wanted fine next pool last r
  ill_taken {r} {w} e f = rw e (record {
    well = λ u g. let z : ⊥ = cc in absurd z;
    ill = λ v g. let z : w ≡ v = cc in rw (← z) f;
  })

-- ---- one part, then the rest
module _ {A : Type 0} {first : Got A} {v : A} {l : List Float} {mid : Reader} {p q : Pool} (t : Took first v l mid p q) where
  pub then_took :
      {B C : Type 0} (rest : Words → Got B) {w : B} {m : List Float} {next : Reader} {s : Pool} → Took (rest (words mid)) w m next q s
      → (f : A → B → C) → Took (and_then first (λ a ws. and_then (rest ws) (λ b ws'. got (f a b) ws'))) (f v w) (l ++ m) next p s
  then_took {B} {C} rest {w} {m} {next} {s} u f = record {
    reading = rw (t.reading, u.reading);
    stored = u.stored ∙ rw (t.stored, t.counted) (sets_append l p.numbers.now p.used m);
    counted = let a = t.counted in let b = u.counted in rw length-append (omega arith);
    room = u.room;
  }

  pub made_took : {C : Type 0} (f : A → C) → Took (and_then first (λ a ws. got (f a) ws)) (f v) l mid p q
  made_took f = record { reading = rw t.reading; stored = t.stored; counted = t.counted; room = t.room }

-- nothing is taken
pub none_took : {A : Type 0} {g : Got A} {v : A} {next : Reader} {p : Pool} → g ≡ got v (words next) → p.used ≤ next.at → Took g v [] next p p
none_took {A} {g} {v} {next} {p} e r = record { reading = e; stored = refl; counted = sym (add-zero p.used); room = r }

pub took_as : {A : Type 0} {g g' : Got A} {v : A} {l : List Float} {next : Reader} {p q : Pool} → g' ≡ g → Took g v l next p q → Took g' v l next p q
took_as e t = record { reading = e ∙ t.reading; stored = t.stored; counted = t.counted; room = t.room }

-- ---- fields one after the other
module _ (f : Field) (fs : List Field) (ws : Words) where
  pub field_wrong : {w : ℕ} → read_field f ws ≡ wrong w → read (f ∷ fs) ws ≡ wrong w
  unfolding read
  field_wrong e = rw e

  module _ {v : Value f} {l : List Float} {mid : Reader} {p q : Pool} (t : Took (read_field f ws) v l mid p q) where
    pub fields_wrong : {w : ℕ} → read fs (words mid) ≡ wrong w → read (f ∷ fs) ws ≡ wrong w
    unfolding read
    fields_wrong e = rw (t.reading, e)

    pub fields_took : {vs : Values fs} {m : List Float} {next : Reader} {s : Pool} → Took (read fs (words mid)) vs m next q s → Took (read (f ∷ fs) ws) (v, vs) (l ++ m) next p s
    unfolding read
    fields_took u = then_took t (read fs) u (λ a b. (a, b))

pub no_fields : {next : Reader} {p : Pool} → p.used ≤ next.at → Took (read [] (words next)) tt [] next p p
unfolding read
no_fields r = none_took refl r

-- ---- a step: a row of numbers, then the fields from the first list on
abbrev row_of : ℕ → List Field
row_of code = (form_of code).row

module _ (code : ℕ) (small : bounded (row_of code) ≡ true) (used : ℕ) (ws : Words) where
  pub head_wrong : {w : ℕ} → read_block (bounds_of (row_of code)) ws ≡ wrong w → read_form used (form_of code) ws ≡ wrong w
  unfolding read_form
  head_wrong e = rw (row_read (row_of code) small ws, e)

  module _ {h : List ℕ} (mid : Reader) (e : read_block (bounds_of (row_of code)) ws ≡ got h (words mid)) where
    pub tail_wrong : {w : ℕ} → read (after (row_of code)) (words mid) ≡ wrong w → read_form used (form_of code) ws ≡ wrong w
    unfolding read_form
    tail_wrong f = rw (row_read (row_of code) small ws, e, f)

    pub form_taken :
        {vs : Values (after (row_of code))} {l : List Float} {next : Reader} {p q : Pool} {s : Step} → Took (read (after (row_of code)) (words mid)) vs l next p q → used ≡ p.used
        → s ≡ apply (row_of code) ((form_of code).made used) (values_of (row_of code) h vs) → pooled (after (row_of code)) vs ≡ l → Taken (read_form used (form_of code) ws) StepFine next p q (Ok s)
    unfolding read_form
    form_taken {vs} {l} {next} {p} {q} {s} t u f g = well_taken s (record {
      value = read_of used (form_of code) (values_of (row_of code) h vs);
      list = l;
      took = record { reading = rw (row_read (row_of code) small ws, e, t.reading); stored = t.stored; counted = t.counted; room = t.room };
      fits = (f, row_pooled (row_of code) h vs ∙ g);
    })

-- ---- a step without lists
pub plain_takes :
    (code : ℕ) {r n : Reader} {p : Pool} {t : Result Step Wrong} → PlainTaken code r n t → p.used ≤ r.at → Taken (read_form p.used (form_of code) (words r)) StepFine n p p t
plain_takes code {r} {n} {p} {t} h k = record {
  well = λ s e. let w = h.well s e p.used in record {
    value = record { read_step_lem = s; read_numbers_lem = [] };
    list = [];
    took = none_took w.0 (let a = w.1 in omega arith);
    fits = (refl, refl);
  };
  ill = λ w e. h.ill w e p.used;
}

-- ---- a code, then its fields
module _ (code : ℕ) (known : is_code code ≡ true) (r m : Reader) {k : ℕ} (here' : words r ≡ word r.at k (words m)) (is : k ≡ code) where
  pub code_taken : {n : Reader} {p q : Pool} {t : Result Step Wrong} → Taken (read_form p.used (form_of code) (words m)) StepFine n p q t → Taken (read_step p.used (words r)) StepFine n p q t
  unfolding read_step
  code_taken t = rw (here', is, known) t

module _ (used : ℕ) (r : Reader) where
  pub no_code : {w : ℕ} → words r ≡ stop w → read_step used (words r) ≡ wrong w
  unfolding read_step
  no_code e = rw e

  pub unknown_code : {k : ℕ} (m : Reader) → words r ≡ word r.at k (words m) → is_code k ≡ false → read_step used (words r) ≡ wrong r.at
  unfolding read_step
  unknown_code m e f = rw (e, f)

pub not_a_code : (k : ℕ) → ((i : ℕ) → 1 ≤ i → i ≤ 9 → k ≡ i → ⊥) → is_code k ≡ false
not_a_code zero h = refl
not_a_code (suc i) h = by (ltb i 9) refl
  where
    by : (t : Bool) → ltb i 9 ≡ t → t ≡ false
    by true e = let l = ltb-true i 9 e in absurd (h (suc i) (omega arith) (omega arith) refl)
    by false e = refl
