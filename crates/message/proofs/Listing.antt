-- A list is read number by number, and each is stored after those before it.
use Prim.Native.Nat.{ℕ, suc, ◌+◌, ◌-◌, ◌≤◌, ◌<◌}
use mathlib.Core.Path.{◌≡◌, refl, sym, ◌∙◌}
use mathlib.Core.List.{List, [], ◌∷◌, ◌++◌, append-nil}
use native.Mathlib.Nat.{sub-zero, add-zero}
use native.Mathlib.Omega.{arith}
use lib.ListN.{length, set, length-append}
use lib.Seq.{sets}
use lib.Ieee.{Float, binary32, of_bits}
use Rattle.number.specs.Words.{word, stop, Got, got, wrong, and_then}
use Rattle.number.specs.declared.reader.Reader.{Reader}
use Rattle.number.proofs.Stores.{sets_append}
use Rattle.message.specs.declared.lists.Pool.{Pool}
use Rattle.message.specs.Fields.{read_floats, read_numbers}
use Rattle.message.specs.Inner.Reading.{words, Took}
use Rattle.message.proofs.Gathered.{same_got, one_more}

-- i numbers were taken and stored
pub record Going (wanted : Got (List Float)) (count : ℕ) (r : Reader) (pool after : Pool) (i : ℕ) : Type 0 where
  pub done : List Float
  pub long : length done ≡ i
  pub gives : wanted ≡ and_then (read_floats (count - i) (words r)) (λ l rest. got (done ++ l) rest)
  pub kept : after.numbers.now ≡ sets pool.numbers.now pool.used done
  pub counted : after.used ≡ pool.used + i
  pub room : after.used ≤ r.at

module _ {wanted : Got (List Float)} {count : ℕ} {r : Reader} {pool : Pool} where
  pub going_first : wanted ≡ read_floats count (words r) → pool.used ≤ r.at → Going wanted count r pool pool 0
  going_first e h = record {
    done = [];
    long = refl;
    gives = rw (sub-zero, e) (same_got (read_floats count (words r)));
    kept = refl;
    counted = sym (add-zero pool.used);
    room = h;
  }

  module _ {after : Pool} {i : ℕ} (g : Going wanted count r pool after i) where
    one_left : i < count → count - i ≡ suc (count - (i + 1))
    one_left h = omega arith

    pub going_stop : i < count → {w : ℕ} → words r ≡ stop w → wanted ≡ wrong w
    unfolding read_floats
    going_stop h e = g.gives ∙ rw (one_left h, e)

    pub going_done : count ≤ i → i ≤ count → Took wanted g.done g.done r pool after
    unfolding read_floats
    going_done h k =
        let z : count - i ≡ 0 = omega arith in
        record {
          reading = g.gives ∙ rw (z, append-nil g.done);
          stored = g.kept;
          counted = rw g.long g.counted;
          room = g.room;
        }

    pub going_next :
        i < count → {n : ℕ} (m : Reader) → words r ≡ word r.at n (words m) → r.at < m.at → {last : Pool}
        → last.numbers.now ≡ set after.numbers.now after.used (of_bits binary32 n) → last.used ≡ after.used + 1 → Going wanted count m pool last (i + 1)
    unfolding read_floats
    going_next h {n} m e f {last} s u =
        let c = g.counted in
        let o = g.room in
        record {
          done = g.done ++ (of_bits binary32 n ∷ []);
          long = length-append g.done (of_bits binary32 n ∷ []) ∙ rw g.long;
          gives = g.gives ∙ rw (one_left h, e) (one_more g.done (of_bits binary32 n) (read_floats (count - (i + 1)) (words m)));
          kept = s ∙ rw (g.kept, c, ← g.long) (sets_append g.done pool.numbers.now pool.used (of_bits binary32 n ∷ []));
          counted = omega arith;
          room = omega arith;
        }

-- ---- a count and so many numbers
pub numbers_here : (r m : Reader) {n : ℕ} → words r ≡ word r.at n (words m) → read_numbers (words r) ≡ read_floats n (words m)
unfolding read_numbers
numbers_here r m e = rw e

pub no_numbers : (r : Reader) {w : ℕ} → words r ≡ stop w → read_numbers (words r) ≡ wrong w
unfolding read_numbers
no_numbers r e = rw e
