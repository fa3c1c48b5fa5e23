-- Numbers that are written one after the other are one list of numbers: stores compose, and so do bytes.
use Prim.Native.Nat.{ℕ, ◌+◌, ◌≤◌, ◌<◌}
use mathlib.Core.Path.{◌≡◌, refl, sym, ◌∙◌}
use mathlib.Core.List.{List, [], ◌∷◌, ◌++◌, map, append_assoc, append-nil, map-append}
use native.Mathlib.Omega.{arith}
use native.Mathlib.Numerals.{add-one}
use lib.ListN.{length, take, get_or, length-append, length-map}
use lib.Ieee.{Float}
use lib.Seq.{take-suc, take_all, length-take-le}
use Rattle.recipe.specs.declared.Step.{Step}
use Rattle.recipe.specs.declared.Recipe.{Recipe}
use Rattle.number.specs.Number.{number_bytes, Put}
use Rattle.number.specs.Words.{bytes_of}
use Rattle.number.proofs.Stores.{sets_append}
use Rattle.number.proofs.Places.{groups_few}
use Rattle.message.specs.Fields.{bits, write_numbers}
use Rattle.message.specs.Steps.{Parts, parts_of, words_of}
use Rattle.message.specs.Message.{steps_words, message_bytes}
use Rattle.message.specs.Answers.{message_of}
use Rattle.message.specs.declared.writer.Writer.{Writer}
use Rattle.message.specs.Inner.Writing.{Wrote}

pub bytes_append : (a b : List ℕ) → bytes_of (a ++ b) ≡ bytes_of a ++ bytes_of b
unfolding bytes_of
bytes_append [] b = refl
bytes_append (n ∷ a) b = rw (bytes_append a b) (sym (append_assoc (number_bytes n) (bytes_of a) (bytes_of b)))

put_then : {l k m : List ℕ} {at p e : ℕ} {a b : List ℕ} → Put l at a k p → Put k p b m e → Put l at (a ++ b) m e
put_then {l} {k} {m} {at} {p} {e} {a} {b} x y = record {
  stored = y.stored ∙ rw (x.stored, x.ends) (sets_append a l at b);
  ends = let u = x.ends in let v = y.ends in rw length-append (omega arith);
}

pub put_as : {l k l' k' : List ℕ} {at at' e : ℕ} {a : List ℕ} → Put l at a k e → l ≡ l' → at ≡ at' → k ≡ k' → Put l' at' a k' e
put_as p e f g = rw (← e, ← f, ← g) p

module _ {b m : Writer} where
  pub wrote_then : {i j : ℕ} {a : Writer} {x y : List ℕ} → Wrote i x b m → Wrote j y m a → Wrote (i + j) (x ++ y) b a
  wrote_then {i} {j} {a} {x} {y} f g = record {
    put = rw bytes_append (put_then f.put g.put);
    bounded = let u = f.bounded in let v = g.bounded in omega arith;
  }

  pub wrote_as : {i j : ℕ} {x y : List ℕ} → Wrote i x b m → x ≡ y → i ≤ j → Wrote j y b m
  wrote_as {i} {j} {x} {y} f e h = record {
    put = rw (← e) f.put;
    bounded = let u = f.bounded in omega arith;
  }

  pub wrote_number : {n : ℕ} → Put b.out.now b.at (number_bytes n) m.out.now m.at → Wrote 5 (n ∷ []) b m
  unfolding bytes_of
  wrote_number {n} x = record {
    put = rw append-nil x;
    bounded = let u = x.ends in let v = groups_few n in omega arith;
  }

pub wrote_none : (b : Writer) → Wrote 0 [] b b
unfolding bytes_of
wrote_none b = record { put = record { stored = refl; ends = omega arith }; bounded = omega arith }

-- ---- one more of a list
pub take_more : {A : Type 0} (l : List A) (i : ℕ) (d : A) → i < length l → take i l ++ (get_or l i d ∷ []) ≡ take (i + 1) l
take_more l i d h = rw add-one (sym (take-suc l i d h))

module _ (l : List Float) (i : ℕ) where
  pub bits_more : (d : Float) {b : ℕ} → b ≡ bits (get_or l i d) → i < length l → map bits (take i l) ++ (b ∷ []) ≡ map bits (take (i + 1) l)
  bits_more d e h = rw (e, ← take_more l i d h, map-append)

  pub bits_all : length l ≤ i → length l ∷ map bits (take i l) ≡ write_numbers l
  unfolding write_numbers
  bits_all h = rw (take_all i l h)

words_append : (a b : List Parts) → steps_words (a ++ b) ≡ steps_words a ++ steps_words b
unfolding steps_words
words_append [] b = refl
words_append (q ∷ a) b = rw (words_append a b) (sym (append_assoc (words_of q) (steps_words a) (steps_words b)))

pub steps_more : (f : Step → Parts) (l : List Step) (i : ℕ) (d : Step) → i < length l → steps_words (map f (take i l)) ++ words_of (f (get_or l i d)) ≡ steps_words (map f (take (i + 1) l))
unfolding steps_words
steps_more f l i d h = rw (← take_more l i d h, map-append, words_append, append-nil)

pub message_bytes_lem :
    (r : Recipe) (pool : List Float) (i : ℕ) → length (take r.count r.steps) ≤ i → r.count ≤ length r.steps
    → bytes_of (r.count ∷ steps_words (map (parts_of pool) (take i (take r.count r.steps)))) ≡ message_of r pool
unfolding message_of message_bytes
message_bytes_lem r pool i e h = rw (take_all i (take r.count r.steps) e, length-map, length-take-le r.count r.steps h)
