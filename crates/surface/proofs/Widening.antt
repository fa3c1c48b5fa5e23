-- A row's columns with the one before them and the one after them: their leans are the sheet's.
use Prim.Native.Nat.{ℕ, ◌+◌, ◌-◌, ◌≤◌, ◌<◌, min}
use mathlib.Core.Path.{◌≡◌, sym, ◌∙◌}
use mathlib.Core.List.{List}
use native.Mathlib.Omega.{arith}
use native.Mathlib.Decide.{dec_lt, ℕ_discrete}
use borrow.Author.Tests.{eq-eqb, ne_eqb, lt-ltb, le-ltb}
use lib.ListN.{length, get_or, set}
use lib.Seq.{get_or-set_same, get_or-set_other}
use Rattle.surface.specs.declared.strip.Row.{Row}
use Rattle.surface.specs.Surface.{before, after, weighted, behind, ahead, lean, normal_at}
use Rattle.surface.specs.Inner.Leans.{weighted_in}
use Rattle.surface.specs.Inner.Rows.{alpha_in, wide_sum, wide_alpha, Holds, normal_in, normal_of}

-- ---- one column
module _ (row : Row) (v i : ℕ) where
  -- the sheet's own
  alpha_own : (x : ℕ) → row.strip.left + i ≡ x + 1 → x < row.strip.width → alpha_in row x v ≡ wide_alpha row v i
  unfolding wide_alpha
  alpha_own x e p =
      let z : row.strip.left + i - 1 ≡ x = omega arith in
      sym (rw (ne_eqb (row.strip.left + i) 0 (λ q. omega arith), z, lt-ltb x row.strip.width p))

  -- those beyond the edges
  pub alpha_first : row.strip.left + i ≡ 0 → 0 ≡ wide_alpha row v i
  unfolding wide_alpha
  alpha_first e = sym (rw (eq-eqb (row.strip.left + i) 0 e))

  pub alpha_last : row.strip.width < row.strip.left + i → 0 ≡ wide_alpha row v i
  unfolding wide_alpha
  alpha_last p = sym (rw (ne_eqb (row.strip.left + i) 0 (λ q. omega arith), le-ltb (row.strip.left + i - 1) row.strip.width (omega arith)))

module _ (row : Row) (i : ℕ) where
  sum_of : (x : ℕ) → min (row.strip.left + i - 1) (row.strip.width - 1) ≡ x → weighted row.strip.height (alpha_in row x) row.y ≡ wide_sum row i
  unfolding wide_sum
  sum_of x e = rw e

  pub same_sum : (j : ℕ) → min (row.strip.left + i - 1) (row.strip.width - 1) ≡ min (row.strip.left + j - 1) (row.strip.width - 1) → wide_sum row i ≡ wide_sum row j
  unfolding wide_sum
  same_sum j e = rw e

-- ---- one column more is stored
set_as : (P : ℕ → ℕ → Type 0) (l : List ℕ) (k v : ℕ) → k < length l → P k v → (i : ℕ) → ((i ≡ k → ⊥) → P i (get_or l i 0)) → P i (get_or (set l k v) i 0)
set_as P l k v h e i r = go (ℕ_discrete i k)
  where
    go : Dec (i ≡ k) → P i (get_or (set l k v) i 0)
    go (yes z) = rw (z, get_or-set_same l k v 0 h) e
    go (no d) = rw (get_or-set_other l k i v 0 (omega arith)) (r d)

module _ {row : Row} {a b : ℕ} {sums above below : List ℕ} (r : Holds row a b sums above below) (k : ℕ) (p : k < length sums) (q : k < length above) (t : k < length below) (a' b' : ℕ) (held : (i : ℕ) → a' ≤ i → i < b' → (i ≡ k → ⊥) → (a ≤ i) × (i < b)) where
  pub stored : (s u v : ℕ) → s ≡ wide_sum row k → s ≤ 1020 → u ≡ wide_alpha row (behind row.y) k → v ≡ wide_alpha row (ahead row.strip.height row.y) k → Holds row a' b' (set sums k s) (set above k u) (set below k v)
  stored s u v e small f g = record {
    sums_are = λ i l m. set_as (λ j n. n ≡ wide_sum row j) sums k s p e i (λ d. let z = held i l m d in r.sums_are i z.0 z.1);
    small = λ i l m. set_as (λ j n. n ≤ 1020) sums k s p small i (λ d. let z = held i l m d in r.small i z.0 z.1);
    above_are = λ i l m. set_as (λ j n. n ≡ wide_alpha row (behind row.y) j) above k u q f i (λ d. let z = held i l m d in r.above_are i z.0 z.1);
    below_are = λ i l m. set_as (λ j n. n ≡ wide_alpha row (ahead row.strip.height row.y) j) below k v t g i (λ d. let z = held i l m d in r.below_are i z.0 z.1);
  }

  -- the sheet's own
  pub stored_own : (x : ℕ) → row.strip.left + k ≡ x + 1 → x < row.strip.width → weighted row.strip.height (alpha_in row x) row.y ≤ 1020 → Holds row a' b' (set sums k (weighted row.strip.height (alpha_in row x) row.y)) (set above k (alpha_in row x (behind row.y))) (set below k (alpha_in row x (ahead row.strip.height row.y)))
  stored_own x e l small = stored _ _ _ (sum_of row k x (omega arith)) small (alpha_own row _ k x e l) (alpha_own row _ k x e l)

-- ---- the leans
module _ (row : Row) (i v : ℕ) (p : row.strip.left + i < row.strip.width) where
  abbrev alphas : ℕ → ℕ
  alphas x = alpha_in row x v

  alpha_before : wide_alpha row v i ≡ before alphas (row.strip.left + i)
  alpha_before = go (ℕ_discrete (row.strip.left + i) 0)
    where
      go : Dec (row.strip.left + i ≡ 0) → wide_alpha row v i ≡ before alphas (row.strip.left + i)
      go (yes z) = rw (eq-eqb (row.strip.left + i) 0 z) (sym (alpha_first row v i z))
      go (no z) = rw (ne_eqb (row.strip.left + i) 0 z) (sym (alpha_own row v i (row.strip.left + i - 1) (omega arith) (omega arith)))

  alpha_after : wide_alpha row v (i + 2) ≡ after row.strip.width alphas (row.strip.left + i)
  alpha_after = go (dec_lt (row.strip.left + i + 1) row.strip.width)
    where
      go : Dec (row.strip.left + i + 1 < row.strip.width) → wide_alpha row v (i + 2) ≡ after row.strip.width alphas (row.strip.left + i)
      go (yes z) = rw (lt-ltb (row.strip.left + i + 1) row.strip.width z) (sym (alpha_own row v (i + 2) (row.strip.left + i + 1) (omega arith) z))
      go (no z) = rw (le-ltb (row.strip.left + i + 1) row.strip.width (omega arith)) (sym (alpha_last row v (i + 2) (omega arith)))

  weighted_across : (l : List ℕ) → get_or l i 0 ≡ wide_alpha row v i → get_or l (i + 1) 0 ≡ wide_alpha row v (i + 1) → get_or l (i + 2) 0 ≡ wide_alpha row v (i + 2) → weighted_in l i ≡ weighted row.strip.width alphas (row.strip.left + i)
  unfolding weighted
  weighted_across l e f g = rw (e, f, g, alpha_before, sym (alpha_own row v (i + 1) (row.strip.left + i) (omega arith) p), alpha_after)

module _ {row : Row} {sums above below : List ℕ} (r : Holds row 0 (row.strip.count + 2) sums above below) (i : ℕ) (p : i < row.strip.count) where
  inside : row.strip.left + i < row.strip.width
  inside = let z = row.strip.inside in omega arith

  across : (v : ℕ) (l : List ℕ) → ((j : ℕ) → 0 ≤ j → j < row.strip.count + 2 → get_or l j 0 ≡ wide_alpha row v j) → weighted_in l i ≡ weighted row.strip.width (λ x. alpha_in row x v) (row.strip.left + i)
  across v l f = weighted_across row i v inside l (f i (omega arith) (omega arith)) (f (i + 1) (omega arith) (omega arith)) (f (i + 2) (omega arith) (omega arith))

  sum_at : (j x : ℕ) → j < row.strip.count + 2 → min (row.strip.left + j - 1) (row.strip.width - 1) ≡ x → get_or sums j 0 ≡ weighted row.strip.height (alpha_in row x) row.y
  sum_at j x l e = r.sums_are j (omega arith) l ∙ sym (sum_of row j x e)

  pub leans_are : normal_in row.strip sums above below i row.y ≡ normal_of row i
  unfolding normal_at lean
  leans_are =
      let z = inside in
      rw (
        sum_at (i + 2) (ahead row.strip.width (row.strip.left + i)) (omega arith) (omega arith),
        sum_at i (behind (row.strip.left + i)) (omega arith) (omega arith),
        across (behind row.y) above r.above_are,
        across (ahead row.strip.height row.y) below r.below_are,
      )
