-- A loop that fills a list of any type in order.
use Prim.Native.Nat.{ℕ, zero, suc, ◌+◌, ◌≤◌, ◌<◌}
use mathlib.Core.Path.{◌≡◌, refl, sym, subst, ◌∙◌}
use mathlib.Core.List.{List}
use native.Mathlib.Nat.{not-suc-le-zero, le_of_suc-le-suc}
use native.Mathlib.Omega.{arith}
use borrow.Author.Count.{below_more}
use lib.ListN.{length, get_or, set, length-set}
use lib.Seq.{get_or-set_same, get_or-set_other, ext_get_or}
use Rattle.sheet.specs.Tabulate.{tabulate}
use Rattle.sheet.proofs.Tabulated.{length_tabulate}

pub element : {A : Type 0} (z : A) (n : ℕ) (f : ℕ → A) (i : ℕ) → i < n → get_or (tabulate n f) i z ≡ f i
unfolding tabulate
element z zero f i h = absurd (not-suc-le-zero h)
element z (suc n) f zero h = refl
element z (suc n) f (suc i) h = element z n (λ k. f (suc k)) i (le_of_suc-le-suc h)

-- l has n elements, and f k stands at each k below i; z is what is read beyond the end
pub record Filled {A : Type 0} (z : A) (f : ℕ → A) (n : ℕ) (l : List A) (i : ℕ) : Type 0 where
  pub long : length l ≡ n
  pub stored : (k : ℕ) → k < i → get_or l k z ≡ f k

module _ {A : Type 0} {z : A} {f : ℕ → A} {n : ℕ} {l : List A} where
  pub filled_none : length l ≡ n → Filled z f n l 0
  filled_none e = record { long = e; stored = λ k h. absurd (not-suc-le-zero h) }

  pub filled_more : {i : ℕ} (v : A) → Filled z f n l i → i < n → v ≡ f i → Filled z f n (set l i v) (i + 1)
  filled_more {i} v r h e =
      let here : i < length l = rw r.long h in
      record {
        long = length-set l i v ∙ r.long;
        stored = below_more (λ k. get_or (set l i v) k z ≡ f k) i (λ k b. get_or-set_other l i k v z (omega arith) ∙ r.stored k b) (get_or-set_same l i v z here ∙ e);
      }

  pub filled_all : {i : ℕ} → Filled z f n l i → n ≤ i → l ≡ tabulate n f
  filled_all {i} r h =
      ext_get_or z l (tabulate n f) (r.long ∙ sym (length_tabulate n f))
      (λ k b. let b' : k < n = rw r.long at b in r.stored k (omega arith) ∙ sym (element z n f k b'))

-- P holds of each stored element, and of one more
pub stored_more : {A : Type 0} (P : ℕ → A → Type 0) (l : List A) (i : ℕ) (v : A) → i < length l → ((k : ℕ) (z : A) → k < i → P k (get_or l k z)) → P i v → (k : ℕ) (z : A) → k < i + 1 → P k (get_or (set l i v) k z)
stored_more P l i v h r p k z b =
    below_more (λ j. P j (get_or (set l i v) j z)) i
    (λ j c. subst (P j) (sym (get_or-set_other l i j v z (omega arith))) (r j z c))
    (subst (P i) (sym (get_or-set_same l i v z h)) p) k b
