-- The laws of `tabulate`: its length, its elements, and that lists which agree on their elements are equal.
use Prim.Native.Nat.{ℕ, zero, suc, ◌+◌, ◌-◌, ◌≤◌, ◌<◌, min}
use mathlib.Core.Path.{◌≡◌, refl, sym, ap, ◌∙◌}
use mathlib.Core.List.{List, ◌∷◌, ◌++◌}
use native.Mathlib.Nat.{not-suc-le-zero, le_of_suc-le-suc}
use native.Mathlib.Omega.{arith}
use native.Mathlib.Decide.{dec_lt}
use lib.ListN.{length, get_or, take, drop, replicate}
use Rattle.std.proofs.lemmas.List.{length-append, length-take, length-take-le, length-drop, get_or_append_left, get_or-append_right, get_or-take, get_or-drop}
use lib.Seq.{ext_get_or}
use borrow.Author.Tests.{lt-ltb, le-ltb}
use Rattle.sheet.specs.Tabulate.{tabulate, repeated, zeros, copied_at, copied}

pub length_tabulate : {A : Type 0} (n : ℕ) (f : ℕ → A) → length (tabulate n f) ≡ n
unfolding tabulate
length_tabulate zero f = refl
length_tabulate (suc n) f = ap suc (length_tabulate n (λ k. f (suc k)))

pub get_d_tabulate : (n : ℕ) (f : ℕ → ℕ) (i : ℕ) → i < n → get_or (tabulate n f) i 0 ≡ f i
unfolding tabulate
get_d_tabulate zero f i h = absurd (not-suc-le-zero h)
get_d_tabulate (suc n) f zero h = refl
get_d_tabulate (suc n) f (suc i) h = get_d_tabulate n (λ k. f (suc k)) i (le_of_suc-le-suc h)

-- a list is the table of its elements
pub tabulated : (l : List ℕ) (n : ℕ) (f : ℕ → ℕ) → length l ≡ n → ((i : ℕ) → i < n → get_or l i 0 ≡ f i) → l ≡ tabulate n f
tabulated l n f e h =
    ext_get_or 0 l (tabulate n f) (e ∙ sym (length_tabulate n f))
    (λ i b. let b' : i < n = rw e at b in h i b' ∙ sym (get_d_tabulate n f i b'))

-- two tables are equal where their functions agree below n
pub tabulate_ext : (n : ℕ) (f g : ℕ → ℕ) → ((i : ℕ) → i < n → f i ≡ g i) → tabulate n f ≡ tabulate n g
tabulate_ext n f g e = tabulated (tabulate n f) n g (length_tabulate n f) (λ i b. get_d_tabulate n f i b ∙ e i b)

pub tabulate_self : (l : List ℕ) (n : ℕ) → length l ≡ n → tabulate n (λ k. get_or l k 0) ≡ l
tabulate_self l n e = sym (tabulated l n (λ k. get_or l k 0) e (λ i b. refl))

pub length_zeros : (n : ℕ) → length (zeros n) ≡ n
unfolding repeated
length_zeros n = length_tabulate n (λ k. 0)

pub get_d_zeros : (n i : ℕ) → i < n → get_or (zeros n) i 0 ≡ 0
unfolding repeated
get_d_zeros n i h = get_d_tabulate n (λ k. 0) i h

-- a copy between sheets of one length is the source
pub copied_all : (src dst : List ℕ) → length src ≡ length dst → copied src dst ≡ src
unfolding copied
copied_all src dst e = sym (tabulated src (length dst) (copied_at src dst) e (λ k l. sym (rw (lt-ltb k (length src) (rw e l)))))

-- n times z is the table of z
pub replicated : (n z : ℕ) → replicate n z ≡ repeated n z
unfolding repeated tabulate
replicated zero z = refl
replicated (suc n) z = ap (◌∷◌ z) (replicated n z)

-- a copy of as many bytes as both have, as a stretch of src and what is left of dst
module _ (src dst : List ℕ) where
  pub copied_front : (n : ℕ) → n ≡ min (length src) (length dst) → take n src ++ drop n dst ≡ copied src dst
  unfolding copied
  copied_front n e =
      tabulated _ (length dst) (copied_at src dst) (simp (length-append, length-take, length-drop) (omega arith)) (λ k l. go k l (dec_lt k n))
    where
      go : (k : ℕ) → k < length dst → Dec (k < n) → get_or (take n src ++ drop n dst) k 0 ≡ copied_at src dst k
      go k l (yes h) =
          let t : length (take n src) ≡ n = length-take-le n src (omega arith) in
          let m : k < length src = omega arith in
          get_or_append_left (take n src) (drop n dst) 0 k (omega arith) ∙ (get_or-take n src k 0 h ∙ sym (rw (lt-ltb k (length src) m)))
      go k l (no h) =
          let t : length (take n src) ≡ n = length-take-le n src (omega arith) in
          let m : length src ≤ k = omega arith in
          let e : n + (k - n) ≡ k = omega arith in
          get_or-append_right (take n src) (drop n dst) n k 0 t (omega arith) ∙ (get_or-drop n dst (k - n) 0 ∙ (ap (λ (j : ℕ). get_or dst j 0) e ∙ sym (rw (le-ltb k (length src) m))))
