-- An exchange reads the list through the swap of two places, which undoes itself; so it keeps a permutation.
use Prim.Native.Nat.{ℕ, zero, suc, ◌-◌, ◌%◌, ◌≤◌, ◌<◌}
use mathlib.Core.Path.{◌≡◌, refl, sym, ◌∙◌}
use mathlib.Core.Bool.{Bool, true, false, cond}
use mathlib.Core.List.{List}
use native.Mathlib.Nat.{not-suc-le-zero}
use native.Mathlib.Omega.{arith}
use borrow.Author.Tests.{eqb-true, eqb-false, eq-eqb, ne_eqb}
use lib.Dec.{eqb}
use lib.ListN.{length, get_or, set, length-set}
use lib.Seq.{lt-length-set, get_or-set_same, get_or-set_other}
use Rattle.turbulence.specs.Random.{next}
use Rattle.turbulence.specs.Selector.{exchange, shuffle, Permutation}

-- i for j, j for i
unfoldable pub swap : ℕ → ℕ → ℕ → ℕ
swap i j k = cond (eqb k j) i (cond (eqb k i) j k)

-- the three places that k can be
data Place (i j k : ℕ) : Type 0 where
  at_j : k ≡ j → Place i j k
  at_i : (k ≡ j → ⊥) → k ≡ i → Place i j k
  other : (k ≡ j → ⊥) → (k ≡ i → ⊥) → Place i j k

placed : (i j k : ℕ) → Place i j k
placed i j k = go (eqb k j) (eqb k i) refl refl
  where
    go : (a b : Bool) → eqb k j ≡ a → eqb k i ≡ b → Place i j k
    go true b e f = at_j (eqb-true k j e)
    go false true e f = at_i (eqb-false k j e) (eqb-true k i f)
    go false false e f = other (eqb-false k j e) (eqb-false k i f)

module _ (i j k : ℕ) where
  swap_j : k ≡ j → swap i j k ≡ i
  unfolding swap
  swap_j e = rw (eq-eqb k j e)

  swap_i : (k ≡ j → ⊥) → k ≡ i → swap i j k ≡ j
  unfolding swap
  swap_i n e = rw (ne_eqb k j n, eq-eqb k i e)

  swap_other : (k ≡ j → ⊥) → (k ≡ i → ⊥) → swap i j k ≡ k
  unfolding swap
  swap_other n m = rw (ne_eqb k j n, ne_eqb k i m)

-- one turn of the shuffle, and its end
pub shuffle_turn : (i s r : ℕ) (l o : List ℕ) → 0 < i → r ≡ next s → shuffle i s l ≡ o → shuffle (i - 1) r (exchange l i (r % 256)) ≡ o
unfolding shuffle
shuffle_turn zero s r l o h e f = absurd (not-suc-le-zero h)
shuffle_turn (suc i) s r l o h e f = let less : suc i - 1 ≡ i = omega arith in rw (e, less) f

pub shuffle_end : (i s : ℕ) (l o : List ℕ) → i ≤ 0 → shuffle i s l ≡ o → l ≡ o
unfolding shuffle
shuffle_end zero s l o h f = f
shuffle_end (suc i) s l o h f = absurd (not-suc-le-zero h)

-- the swap undoes itself
swap_swap : (i j k : ℕ) → swap i j (swap i j k) ≡ k
swap_swap i j k = go (placed i j k)
  where
    back : Place i j i → swap i j i ≡ j
    back (at_j e) = swap_j i j i e ∙ e
    back (at_i n e) = swap_i i j i n e
    back (other n m) = absurd (m refl)

    go : Place i j k → swap i j (swap i j k) ≡ k
    go (at_j e) = rw (swap_j i j k e) (back (placed i j i) ∙ sym e)
    go (at_i n e) = rw (swap_i i j k n e) (swap_j i j j refl ∙ sym e)
    go (other n m) = rw (swap_other i j k n m) (swap_other i j k n m)

swap_inside : (n i j k : ℕ) → i < n → j < n → k < n → swap i j k < n
swap_inside n i j k p q r = go (placed i j k)
  where
    go : Place i j k → swap i j k < n
    go (at_j e) = rw (swap_j i j k e) p
    go (at_i m e) = rw (swap_i i j k m e) q
    go (other m o) = rw (swap_other i j k m o) r

exchanged : (l : List ℕ) (i j : ℕ) → i < length l → j < length l → (k : ℕ) → get_or (exchange l i j) k 0 ≡ get_or l (swap i j k) 0
unfolding exchange
exchanged l i j p q k = go (placed i j k)
  where
    go : Place i j k → get_or (set (set l i (get_or l j 0)) j (get_or l i 0)) k 0 ≡ get_or l (swap i j k) 0
    go (at_j e) = rw (swap_j i j k e, e) (get_or-set_same (set l i (get_or l j 0)) j (get_or l i 0) 0 (lt-length-set l i (get_or l j 0) q))
    go (at_i n e) = rw (swap_i i j k n e) (get_or-set_other (set l i (get_or l j 0)) j k (get_or l i 0) 0 n ∙ rw e (get_or-set_same l i (get_or l j 0) 0 p))
    go (other n m) = rw (swap_other i j k n m) (get_or-set_other (set l i (get_or l j 0)) j k (get_or l i 0) 0 n ∙ get_or-set_other l i k (get_or l j 0) 0 m)

length_exchange : (l : List ℕ) (i j : ℕ) → length (exchange l i j) ≡ length l
unfolding exchange
length_exchange l i j = length-set (set l i (get_or l j 0)) j (get_or l i 0) ∙ length-set l i (get_or l j 0)

-- an exchange keeps a permutation
exchange_keeps : (n : ℕ) (l : List ℕ) (i j : ℕ) → n ≤ length l → i < n → j < n → Permutation n l → Permutation n (exchange l i j)
exchange_keeps n l i j h p q r =
    let at : (k : ℕ) → get_or (exchange l i j) k 0 ≡ get_or l (swap i j k) 0 = exchanged l i j (omega arith) (omega arith) in
    record {
      inside = λ k b. rw (at k) (r.inside (swap i j k) (swap_inside n i j k p q b));
      place = λ v. swap i j (r.place v);
      place_inside = λ v b. swap_inside n i j (r.place v) p q (r.place_inside v b);
      there = λ v b. rw (at (swap i j (r.place v)), swap_swap i j (r.place v)) (r.there v b);
      only_there = λ k b. rw (at k, r.only_there (swap i j k) (swap_inside n i j k p q b)) (swap_swap i j k);
    }

pub shuffle_keeps : (i s : ℕ) (l : List ℕ) → i < 256 → 256 ≤ length l → Permutation 256 l → Permutation 256 (shuffle i s l)
unfolding shuffle
shuffle_keeps zero s l h b r = r
shuffle_keeps (suc i) s l h b r =
    shuffle_keeps i (next s) (exchange l (suc i) (next s % 256)) (omega arith) (rw length_exchange b) (exchange_keeps 256 l (suc i) (next s % 256) b h (omega arith) r)
