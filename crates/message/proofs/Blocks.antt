-- A row is read number by number: what is read so far stands before what the rest of the row gives.
use Prim.Native.Nat.{ℕ, zero, suc, ◌+◌, ◌≤◌, ◌<◌}
use mathlib.Core.Path.{◌≡◌, refl, ◌∙◌}
use mathlib.Core.Bool.{Bool, true, false, cond}
use mathlib.Core.List.{List, ◌++◌, append-nil}
use native.Mathlib.Numerals.{add-one}
use native.Mathlib.Omega.{arith}
use borrow.Author.Tests.{ne_eqb, lt-ltb, le-ltb}
use lib.Dec.{eqb, ltb}
use lib.ListN.{length, take, drop, get_or, set, drop_of_length-le}
use lib.Seq.{drop-cons, take-suc-set}
use Rattle.std.specs.Prelude.{Result, Ok, Err}
use Rattle.number.specs.declared.Wrong.{Wrong}
use Rattle.number.specs.declared.reader.Reader.{Reader}
use Rattle.number.specs.Words.{word, stop, Got, got, wrong, and_then}
use Rattle.message.proofs.Gathered.{same_got, one_more}
use Rattle.message.specs.Inner.Reading.{words, too_large, read_block, firsts, RowRead}

firsts_from : (l : List ℕ) (k n : ℕ) → k + n ≤ length l → take n (drop k l) ≡ firsts k n l
unfolding firsts
firsts_from l k zero h = refl
firsts_from l k (suc n) h =
    let i : k < length l = omega arith in
    rw (drop-cons l k 0 i, firsts_from l (suc k) n (omega arith))

pub take_firsts : (l : List ℕ) (n : ℕ) → n ≤ length l → take n l ≡ firsts 0 n l
take_firsts l n h = firsts_from l 0 n (omega arith)

-- ---- the bound of a number
pub not_too_large : (m n : ℕ) → n ≤ m → too_large m n ≡ false
not_too_large m n h = by (eqb m 4294967295)
  where
    by : (t : Bool) → cond t false (ltb m n) ≡ false
    by true = refl
    by false = le-ltb m n h

pub is_too_large : (m n : ℕ) → m < n → n ≤ 4294967295 → too_large m n ≡ true
is_too_large m n h k = rw (ne_eqb m 4294967295 (λ e. omega arith), lt-ltb m n h)

-- ---- what was read, then the rest of the row
pub record Going (row : List ℕ) (wanted : Got (List ℕ)) (words' : List ℕ) (r : Reader) (i : ℕ) : Type 0 where
  pub gives : wanted ≡ and_then (read_block (drop i row) (words r)) (λ l rest. got (take i words' ++ l) rest)

module _ {row : List ℕ} {wanted : Got (List ℕ)} {words' : List ℕ} {r : Reader} where
  pub going_first : wanted ≡ read_block row (words r) → Going row wanted words' r 0
  going_first e = record { gives = rw e (same_got (read_block row (words r))) }

  module _ {i : ℕ} (g : Going row wanted words' r i) where
    pub going_stop : i < length row → {w : ℕ} → words r ≡ stop w → wanted ≡ wrong w
    unfolding read_block
    going_stop h e = g.gives ∙ rw (drop-cons row i 0 h, e)

    pub going_done : length row ≤ i → i ≤ length row → length row ≤ length words' → wanted ≡ got (firsts 0 (length row) words') (words r)
    unfolding read_block
    going_done h k w =
        let z : i ≡ length row = omega arith in
        g.gives ∙ rw (drop_of_length-le row h, append-nil (take i words'), z, take_firsts words' (length row) w)

    module _ (h : i < length row) {n : ℕ} (m : Reader) (e : words r ≡ word r.at n (words m)) where
      pub going_wrong : get_or row i 0 < n → n ≤ 4294967295 → wanted ≡ wrong r.at
      unfolding read_block
      going_wrong l k = g.gives ∙ rw (drop-cons row i 0 h, e, is_too_large (get_or row i 0) n l k)

      pub going_next : n ≤ get_or row i 0 → i < length words' → Going row wanted (set words' i n) m (i + 1)
      unfolding read_block
      going_next l k = record {
        gives = g.gives ∙ rw (drop-cons row i 0 h, e, not_too_large (get_or row i 0) n l, add-one i, take-suc-set words' i n k)
            (one_more (take i words') n (read_block (drop (suc i) row) (words m)));
      }

-- ---- results
module _ {most : List ℕ} {r n : Reader} where
  pub row_well : (l : List ℕ) → read_block most (words r) ≡ got (firsts 0 (length most) l) (words n) → r.at ≤ n.at → RowRead most r n (Ok l)
  row_well l e h = record { well = λ m f. let z : l ≡ m = cc in rw (← z) (e, h); ill = λ w f. let z : ⊥ = cc in absurd z }

  pub row_ill : {t : Result (List ℕ) Wrong} {w : Wrong} → t ≡ Err w → read_block most (words r) ≡ wrong w.at → RowRead most r n t
  row_ill {t} {w} e f = rw e (record { well = λ l g. let z : ⊥ = cc in absurd z; ill = λ v g. let z : w ≡ v = cc in rw (← z) f })
