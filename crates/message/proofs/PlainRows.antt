-- The fields of a row before its first list are a block of numbers, of which their values are made.
use Prim.Native.Nat.{ℕ, ◌+◌, ◌*◌, ◌≤◌}
use mathlib.Core.Path.{◌≡◌, refl, sym, ◌∙◌}
use mathlib.Core.Bool.{Bool, true, false, cond, true≢false}
use mathlib.Core.List.{List, [], ◌∷◌}
use native.Mathlib.Nat.{mod-eq_of_lt}
use native.Mathlib.Omega.{arith}
use borrow.Author.Tests.{eqb-true, ltb-false}
use lib.Dec.{eqb, ltb}
use lib.ListN.{drop, get_or}
use lib.Ieee.{binary32, binary64, of_bits}
use Rattle.recipe.specs.declared.Step.{Step}
use Rattle.number.specs.Words.{Words, word, stop, Got, got, wrong, and_then}
use Rattle.number.specs.Values.{seed_of}
use Rattle.std.specs.Prelude.{Result, Ok, Err}
use Rattle.number.specs.declared.Wrong.{Wrong}
use Rattle.number.specs.declared.reader.Reader.{Reader}
use Rattle.message.specs.Fields.{Field, number, up_to, float, double, seed, numbers, choice, Values, apply, read_field, read, pooled}
use Rattle.message.specs.Steps.{form_of, read_form}
use Rattle.message.specs.Inner.Reading.{words, read_block, PlainTaken, low_byte}
use Rattle.message.proofs.Gathered.{same_got}

-- the fields from the first list on
abbrev pub after : List Field → List Field
after [] = []
after (number ∷ fs) = after fs
after (up_to m ∷ fs) = after fs
after (float ∷ fs) = after fs
after (double ∷ fs) = after fs
after (seed ∷ fs) = after fs
after (numbers ∷ fs) = numbers ∷ fs
after (choice shapes ∷ fs) = choice shapes ∷ fs

-- the bounds of the numbers before it
abbrev pub bounds_of : List Field → List ℕ
bounds_of [] = []
bounds_of (number ∷ fs) = 4294967295 ∷ bounds_of fs
bounds_of (up_to m ∷ fs) = m ∷ bounds_of fs
bounds_of (float ∷ fs) = 4294967295 ∷ bounds_of fs
bounds_of (double ∷ fs) = 4294967295 ∷ 4294967295 ∷ bounds_of fs
bounds_of (seed ∷ fs) = 4294967295 ∷ bounds_of fs
bounds_of (numbers ∷ fs) = []
bounds_of (choice shapes ∷ fs) = []

-- 4294967295 bounds no code
abbrev pub bounded : List Field → Bool
bounded [] = true
bounded (number ∷ fs) = bounded fs
bounded (up_to m ∷ fs) = cond (eqb m 4294967295) false (bounded fs)
bounded (float ∷ fs) = bounded fs
bounded (double ∷ fs) = bounded fs
bounded (seed ∷ fs) = bounded fs
bounded (numbers ∷ fs) = true
bounded (choice shapes ∷ fs) = true

-- a byte is taken by its lowest eight bits
abbrev pub code_of : ℕ → ℕ → ℕ
code_of m n = cond (eqb m 255) (low_byte n) n

-- the values of a row, of its first numbers and of the values from the first list on
abbrev pub values_of : (row : List Field) → List ℕ → Values (after row) → Values row
values_of [] l vs = vs
values_of (number ∷ fs) l vs = (get_or l 0 0, values_of fs (drop 1 l) vs)
values_of (up_to m ∷ fs) l vs = (code_of m (get_or l 0 0), values_of fs (drop 1 l) vs)
values_of (float ∷ fs) l vs = (of_bits binary32 (get_or l 0 0), values_of fs (drop 1 l) vs)
values_of (double ∷ fs) l vs = (of_bits binary64 (get_or l 0 0 + 4294967296 * get_or l 1 0), values_of fs (drop 2 l) vs)
values_of (seed ∷ fs) l vs = (seed_of (get_or l 0 0), values_of fs (drop 1 l) vs)
values_of (numbers ∷ fs) l vs = vs
values_of (choice shapes ∷ fs) l vs = vs

-- ---- a value after the other
pub twice :
    {A B C : Type 0} (f : A → B) (h : B → C) (g : Got A)
    → and_then (and_then g (λ a rest. got (f a) rest)) (λ b rest. got (h b) rest) ≡ and_then g (λ a rest. got (h (f a)) rest)
twice f h (got a rest) = refl
twice f h (wrong p) = refl

-- a row is a block, and what follows it
abbrev pub Divides : List Field → Words → Type 0
Divides row ws =
    read row ws ≡ and_then (read_block (bounds_of row) ws) (λ l rest. and_then (read (after row) rest) (λ vs rest'. got (values_of row l vs) rest'))

-- a value before the others, and its numbers before theirs
module _ {A : Type 0} (fs : List Field) (v : A) (more : List ℕ → List ℕ) (w : List ℕ → Values (after fs) → A × Values fs) where
  value_before :
      (ws : Words) → Divides fs ws → ((l : List ℕ) (vs : Values (after fs)) → (v, values_of fs l vs) ≡ w (more l) vs)
      → and_then (read fs ws) (λ vs rest. got (v, vs) rest)
      ≡ and_then (and_then (read_block (bounds_of fs) ws) (λ l rest. got (more l) rest)) (λ l rest. and_then (read (after fs) rest) (λ vs rest'. got (w l vs) rest'))
  value_before ws e same = rw e (go (read_block (bounds_of fs) ws))
    where
      inner :
          (l : List ℕ) (g : Got (Values (after fs)))
          → and_then (and_then g (λ vs rest. got (values_of fs l vs) rest)) (λ vs rest. got (v, vs) rest) ≡ and_then g (λ vs rest. got (w (more l) vs) rest)
      inner l (got vs rest) = rw (same l vs)
      inner l (wrong p) = refl

      go :
          (g : Got (List ℕ))
          → and_then (and_then g (λ l rest. and_then (read (after fs) rest) (λ vs rest'. got (values_of fs l vs) rest'))) (λ vs rest. got (v, vs) rest)
          ≡ and_then (and_then g (λ l rest. got (more l) rest)) (λ l rest. and_then (read (after fs) rest) (λ vs rest'. got (w l vs) rest'))
      go (got l rest) = inner l (read (after fs) rest)
      go (wrong p) = refl

code_of_lem : (m n : ℕ) → n ≤ m → code_of m n ≡ n
code_of_lem m n h = go (eqb m 255) (eqb-true m 255)
  where
    go : (b : Bool) → (b ≡ true → m ≡ 255) → cond b (low_byte n) n ≡ n
    go true e = let d = e refl in mod-eq_of_lt (omega arith)
    go false e = refl

both : (b c : Bool) → cond b false c ≡ true → (b ≡ false) × (c ≡ true)
both true c e = absurd (true≢false (sym e))
both false c e = (refl, e)

pub row_read : (row : List Field) → bounded row ≡ true → (ws : Words) → Divides row ws
unfolding read read_field read_block
row_read [] e ws = refl
row_read (number ∷ fs) e (word p n ws) = value_before fs _ (λ l. n ∷ l) _ ws (row_read fs e ws) (λ l vs. refl)
row_read (number ∷ fs) e (stop p) = refl
row_read (up_to m ∷ fs) e (word p n ws) =
    rw (both (eqb m 4294967295) (bounded fs) e).0 (go (row_read fs (both (eqb m 4294967295) (bounded fs) e).1 ws) (ltb m n) (ltb-false m n))
  where
    go :
        Divides fs ws → (b : Bool) → (b ≡ false → n ≤ m)
        → and_then (cond b (wrong p) (got n ws)) (λ v rest. and_then (read fs rest) (λ vs rest'. got (v, vs) rest'))
        ≡ and_then (cond b (wrong p) (and_then (read_block (bounds_of fs) ws) (λ l rest. got (n ∷ l) rest)))
        (λ l rest. and_then (read (after fs) rest) (λ vs rest'. got (values_of (up_to m ∷ fs) l vs) rest'))
    go d true h = refl
    go d false h = value_before fs n (λ l. n ∷ l) _ ws d (λ l vs. rw (code_of_lem m n (h refl)))
row_read (up_to m ∷ fs) e (stop p) = refl
row_read (float ∷ fs) e (word p n ws) = value_before fs _ (λ l. n ∷ l) _ ws (row_read fs e ws) (λ l vs. refl)
row_read (float ∷ fs) e (stop p) = refl
row_read (double ∷ fs) e (word p n (word q k ws)) =
    rw (twice (λ l. k ∷ l) (λ l. n ∷ l) (read_block (bounds_of fs) ws)) (value_before fs _ (λ l. n ∷ k ∷ l) _ ws (row_read fs e ws) (λ l vs. refl))
row_read (double ∷ fs) e (word p n (stop q)) = refl
row_read (double ∷ fs) e (stop p) = refl
row_read (seed ∷ fs) e (word p n ws) = value_before fs _ (λ l. n ∷ l) _ ws (row_read fs e ws) (λ l vs. refl)
row_read (seed ∷ fs) e (stop p) = refl
row_read (numbers ∷ fs) e ws = same_got (read (numbers ∷ fs) ws)
row_read (choice shapes ∷ fs) e ws = same_got (read (choice shapes ∷ fs) ws)

pub row_pooled : (row : List Field) (l : List ℕ) (vs : Values (after row)) → pooled row (values_of row l vs) ≡ pooled (after row) vs
unfolding pooled
row_pooled [] l vs = refl
row_pooled (number ∷ fs) l vs = row_pooled fs (drop 1 l) vs
row_pooled (up_to m ∷ fs) l vs = row_pooled fs (drop 1 l) vs
row_pooled (float ∷ fs) l vs = row_pooled fs (drop 1 l) vs
row_pooled (double ∷ fs) l vs = row_pooled fs (drop 2 l) vs
row_pooled (seed ∷ fs) l vs = row_pooled fs (drop 1 l) vs
row_pooled (numbers ∷ fs) l vs = refl
row_pooled (choice shapes ∷ fs) l vs = refl

-- ---- a row without lists
abbrev pub Nothing : List Field → Type 0
Nothing [] = Unit
Nothing (f ∷ fs) = ⊥

abbrev pub no_values : (fs : List Field) → Nothing fs → Values fs
no_values [] h = tt
no_values (f ∷ fs) h = absurd h

nothing_read : (fs : List Field) (h : Nothing fs) (ws : Words) → read fs ws ≡ got (no_values fs h) ws
unfolding read
nothing_read [] h ws = refl
nothing_read (f ∷ fs) h ws = absurd h

nothing_pooled : (fs : List Field) (h : Nothing fs) → pooled fs (no_values fs h) ≡ []
unfolding pooled
nothing_pooled [] h = refl
nothing_pooled (f ∷ fs) h = absurd h

abbrev row_of : ℕ → List Field
row_of code = (form_of code).row

abbrev pub plain_values : (code : ℕ) → Nothing (after (row_of code)) → List ℕ → Values (row_of code)
plain_values code h l = values_of (row_of code) l (no_values (after (row_of code)) h)

module _ (code : ℕ) (small : bounded (row_of code) ≡ true) (none : Nothing (after (row_of code))) where
  plain_read : (ws : Words) → read (row_of code) ws ≡ and_then (read_block (bounds_of (row_of code)) ws) (λ l rest. got (plain_values code none l) rest)
  plain_read ws = row_read (row_of code) small ws ∙ go (read_block (bounds_of (row_of code)) ws)
    where
      go :
          (g : Got (List ℕ))
          → and_then g (λ l rest. and_then (read (after (row_of code)) rest) (λ vs rest'. got (values_of (row_of code) l vs) rest'))
          ≡ and_then g (λ l rest. got (plain_values code none l) rest)
      go (got l rest) = rw (nothing_read (after (row_of code)) none rest)
      go (wrong p) = refl

  module _ {r n : Reader} where
    pub plain_well :
        {h : List ℕ} → (read_block (bounds_of (row_of code)) (words r) ≡ got h (words n)) × (r.at ≤ n.at) → (s : Step)
        → ((used : ℕ) → s ≡ apply (row_of code) ((form_of code).made used) (plain_values code none h)) → PlainTaken code r n (Ok s)
    unfolding read_form
    plain_well {h} e s f = record {
      well = λ t g used.
          let z : s ≡ t = cc in
          let p = row_pooled (row_of code) h (no_values (after (row_of code)) none) ∙ nothing_pooled (after (row_of code)) none in
          (rw (plain_read (words r), e.0, p, ← f used, z), e.1);
      ill = λ w g. let z : ⊥ = cc in absurd z;
    }

    pub plain_ill : {t : Result Step Wrong} {w : Wrong} → t ≡ Err w → read_block (bounds_of (row_of code)) (words r) ≡ wrong w.at → PlainTaken code r n t
    unfolding read_form
    plain_ill {t} {w} e f = rw e (record {
      well = λ s g. let z : ⊥ = cc in absurd z;
      ill = λ v g used. let z : w ≡ v = cc in rw (plain_read (words r), f, z);
    })
