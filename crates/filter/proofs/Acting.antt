-- What the runner's loop keeps: sheets of the sizes' length, and the slots as the steps so far left them.
use Prim.Native.Nat.{ℕ, zero, suc, ◌+◌, ◌*◌, ◌≤◌, ◌<◌, zero-le}
use mathlib.Core.Path.{◌≡◌, refl, sym, ap, ◌∙◌}
use mathlib.Core.Bool.{Bool, true, false, cond}
use mathlib.Core.List.{List, [], ◌∷◌}
use native.Mathlib.Nat.{not-suc-le-zero, le_of_suc-le-suc}
use native.Mathlib.Numerals.{add-one}
use native.Mathlib.Omega.{arith}
use borrow.Author.Tests.{ne_eqb}
use lib.ListN.{length}
use lib.Dec.{eqb}
use lib.Ieee.{Float}
use Rattle.sheet.specs.Answer.{Answer, Done, and_then}
use Rattle.sheet.specs.Size.{sheets_answer}
use Rattle.sheet.specs.Tabulate.{copied}
use Rattle.sheet.proofs.Answers.{sheets_first, sheets_add}
use Rattle.sheet.proofs.Tabulated.{copied_all}
use Rattle.recipe.specs.declared.Step.{Step}
use Rattle.recipe.specs.Tests.{step_limit}
use Rattle.filter.specs.Slots.{Slots, slots, slot_of, put, made, act, acts}
use Rattle.filter.specs.Inner.Engine.{Fits, Legal}
use Rattle.filter.proofs.Works.{made_same, length_made}

pub passed : {p q : Answer} → p ≡ Done → q ≡ Done → and_then p q ≡ Done
passed {p} {q} d e = rw d e

-- ---- lengths
past_three : {A : Type 0} {s : ℕ} → suc (suc (suc (suc s))) ≤ 3 → A
past_three h = absurd (not-suc-le-zero (le_of_suc-le-suc (le_of_suc-le-suc (le_of_suc-le-suc h))))

every_length : {n : ℕ} (a b c d : List ℕ) → length a ≡ n → length b ≡ n → length c ≡ n → length d ≡ n → (s : ℕ) → s ≤ 3 → length (slot_of (slots a b c d) s) ≡ n
every_length a b c d p q r t zero h = p
every_length a b c d p q r t (suc zero) h = q
every_length a b c d p q r t (suc (suc zero)) h = r
every_length a b c d p q r t (suc (suc (suc zero))) h = t
every_length a b c d p q r t (suc (suc (suc (suc s)))) h = past_three h

put_length : {n : ℕ} (o : ℕ) (new : List ℕ) (x : Slots) → length new ≡ n → ((s : ℕ) → s ≤ 3 → length (slot_of x s) ≡ n) → (s : ℕ) → s ≤ 3 → length (slot_of (put o new x) s) ≡ n
put_length {n} o new (slots a b c d) e l s h = go (eqb o 1) (eqb o 2) (eqb o 3)
  where
    go : (t u v : Bool) → length (slot_of (cond t (slots a new c d) (cond u (slots a b new d) (cond v (slots a b c new) (slots a b c d)))) s) ≡ n
    go true u v = every_length a new c d (l 0 zero-le) e (l 2 (omega arith)) (l 3 (omega arith)) s h
    go false true v = every_length a b new d (l 0 zero-le) (l 1 (omega arith)) e (l 3 (omega arith)) s h
    go false false true = every_length a b c new (l 0 zero-le) (l 1 (omega arith)) (l 2 (omega arith)) e s h
    go false false false = l s h

pub acts_length : (pool : List Float) (w h : ℕ) (f : ℕ → Step) (x : Slots) → ((s : ℕ) → s ≤ 3 → length (slot_of x s) ≡ 4 * w * h) → (n : ℕ) → ((i : ℕ) → i < n → Legal (f i) pool) → (s : ℕ) → s ≤ 3 → length (slot_of (acts pool w h f n x) s) ≡ 4 * w * h
unfolding acts act
acts_length pool w h f x l zero g s q = l s q
acts_length pool w h f x l (suc n) g s q =
    let e = acts_length pool w h f x l n (λ i t. g i (omega arith)) in
    put_length (f n).output _ (acts pool w h f n x) (length_made pool w h (f n).work _ (λ a i. e a ((g n (omega arith)).low a i))) e s q

module _ {w h : ℕ} where
  pub fits_of : {a b c d s : List ℕ} → sheets_answer w h [] ≡ Done → length a ≡ 4 * w * h → length b ≡ 4 * w * h → length c ≡ 4 * w * h → length d ≡ 4 * w * h → length s ≡ 4 * w * h → Fits w h (slots a b c d) s
  fits_of {a} {b} {c} {d} z p q r t l = record { sized = z; slot = every_length a b c d p q r t; spare = l }

  -- two picked sheets, the output and the scratch pass the tests 1 and 2
  pub all_fit : {x : Slots} {scratch l l' : List ℕ} {n : ℕ} → Fits w h x scratch → n ≡ 4 * w * h → (s s' : ℕ) → s ≤ 3 → s' ≤ 3 → l ≡ slot_of x s → l' ≡ slot_of x s' → sheets_answer w h (length l ∷ length l' ∷ n ∷ length scratch ∷ []) ≡ Done
  all_fit f o s s' q q' e e' =
      let out = sheets_add w h _ _ (sheets_add w h _ _ f.sized f.spare) o in
      sheets_add w h _ _ (sheets_add w h _ _ out (ap length e' ∙ f.slot s' q')) (ap length e ∙ f.slot s q)

-- and so do fewer of them
module _ (w h a b n s : ℕ) (e : sheets_answer w h (a ∷ b ∷ n ∷ s ∷ []) ≡ Done) where
  after_first : (a ≡ 4 * w * h) × (sheets_answer w h (b ∷ n ∷ s ∷ []) ≡ Done)
  after_first = sheets_first w h a _ e

  after_second : (b ≡ 4 * w * h) × (sheets_answer w h (n ∷ s ∷ []) ≡ Done)
  after_second = sheets_first w h b _ after_first.1

  pub none_fits : sheets_answer w h (n ∷ []) ≡ Done
  none_fits = let out = sheets_first w h n _ after_second.1 in sheets_add w h n _ (sheets_first w h s _ out.1).1 out.0

  pub lone_fits : sheets_answer w h (a ∷ n ∷ []) ≡ Done
  lone_fits = sheets_add w h a _ none_fits after_first.0

  pub one_fits : sheets_answer w h (a ∷ n ∷ s ∷ []) ≡ Done
  one_fits = sheets_add w h a _ after_second.1 after_first.0

  pub two_fit : sheets_answer w h (a ∷ b ∷ n ∷ []) ≡ Done
  two_fit = sheets_add w h a _ (sheets_add w h b _ none_fits after_second.0) after_first.0

-- a filter that works in place, on a copy of the sheet a in the sheet b
module _ (w h : ℕ) (a b : List ℕ) (l : List ℕ) (e : sheets_answer w h (length a ∷ length b ∷ l) ≡ Done) where
  pub copied_whole : copied a b ≡ a
  copied_whole = let x = sheets_first w h (length a) (length b ∷ l) e in copied_all a b (x.0 ∙ sym (sheets_first w h (length b) l x.1).0)

  pub copy_fits : {d : List ℕ} → d ≡ a → sheets_answer w h (length d ∷ l) ≡ Done
  copy_fits d = let x = sheets_first w h (length a) (length b ∷ l) e in sheets_add w h _ _ (sheets_first w h (length b) l x.1).1 (ap length d ∙ x.0)

-- what the loop over the steps keeps: the lengths, and the count
pub record Keeping (n1 n2 n3 ns : ℕ) (a b c s : List ℕ) (i count : ℕ) : Type 0 where
  pub within : i ≤ count
  pub few : count ≤ step_limit
  pub one : length a ≡ n1
  pub two : length b ≡ n2
  pub three : length c ≡ n3
  pub spare : length s ≡ ns

-- ---- slots that are read back
pub slot_same : (o : ℕ) (new : List ℕ) (x : Slots) → 1 ≤ o → o ≤ 3 → slot_of (put o new x) o ≡ new
slot_same zero new (slots a b c d) h l = absurd (not-suc-le-zero h)
slot_same (suc zero) new (slots a b c d) h l = refl
slot_same (suc (suc zero)) new (slots a b c d) h l = refl
slot_same (suc (suc (suc zero))) new (slots a b c d) h l = refl
slot_same (suc (suc (suc (suc o)))) new (slots a b c d) h l = past_three l

pub slot_other : (o : ℕ) (new : List ℕ) (x : Slots) (s : ℕ) → 1 ≤ o → o ≤ 3 → (s ≡ o → ⊥) → slot_of (put o new x) s ≡ slot_of x s
slot_other zero new (slots a b c d) s h l n = absurd (not-suc-le-zero h)
slot_other (suc zero) new (slots a b c d) s h l n = simp (ne_eqb s 1 n)
slot_other (suc (suc zero)) new (slots a b c d) s h l n = simp (ne_eqb s 2 n)
slot_other (suc (suc (suc zero))) new (slots a b c d) s h l n = simp (ne_eqb s 3 n)
slot_other (suc (suc (suc (suc o)))) new (slots a b c d) s h l n = past_three l

-- ---- steps
-- where its inputs are read, the slot that a step writes may hold any sheet
pub step_acts : (pool : List Float) (w h : ℕ) (st : Step) (x : Slots) (o : ℕ) (any : List ℕ) {new : List ℕ} → Legal st pool → st.output ≡ o → new ≡ made st.work pool w h (slot_of (put o any x)) → put o new x ≡ act pool w h st x
unfolding act
step_acts pool w h st x o any {new} legal z e =
    let f = legal.first in
    let l = legal.last in
    let m = made_same pool w h st.work (slot_of (put o any x)) (slot_of x) (λ s i. slot_other o any x s (omega arith) (omega arith) (λ q. legal.apart s i (q ∙ sym z))) in
    rw z (ap (λ (n : List ℕ). put o n x) (e ∙ m))

pub acts_none : (pool : List Float) (w h : ℕ) (f : ℕ → Step) (x : Slots) → acts pool w h f 0 x ≡ x
unfolding acts
acts_none pool w h f x = refl

pub acts_more : (pool : List Float) (w h : ℕ) (f : ℕ → Step) (i : ℕ) (x : Slots) → acts pool w h f (i + 1) x ≡ act pool w h (f i) (acts pool w h f i x)
unfolding acts
acts_more pool w h f i x = rw add-one
