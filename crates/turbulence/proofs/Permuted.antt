-- The table's first 256 entries are a permutation of 0..=255, and the others repeat them, from every state.
use Prim.Native.Nat.{ℕ, ◌+◌, ◌%◌, ◌≤◌, ◌<◌}
use mathlib.Core.Path.{◌≡◌, sym, ap, ◌∙◌}
use mathlib.Core.List.{List}
use native.Mathlib.Omega.{arith}
use lib.ListN.{get_or}
use Rattle.sheet.specs.Tabulate.{tabulate}
use Rattle.sheet.proofs.Tabulated.{length_tabulate, get_d_tabulate}
use Rattle.turbulence.specs.Selector.{order, selector, Permutation}
use Rattle.turbulence.proofs.Exchange.{shuffle_keeps}

counted : (n : ℕ) → Permutation n (tabulate n (λ k. k))
counted n =
    let at : (k : ℕ) → k < n → get_or (tabulate n (λ k. k)) k 0 ≡ k = get_d_tabulate n (λ k. k) in
    record {
      inside = λ k b. rw (at k b) b;
      place = λ v. v;
      place_inside = λ v b. b;
      there = at;
      only_there = at;
    }

order_permutes : (s : ℕ) → Permutation 256 (order s)
unfolding order
order_permutes s = shuffle_keeps 255 s (tabulate 256 (λ k. k)) (omega arith) (omega (arith, length_tabulate 256 (λ k. k))) (counted 256)

entry : (s k : ℕ) → k < 514 → get_or (selector s) k 0 ≡ get_or (order s) (k % 256) 0
unfolding selector
entry s k h = get_d_tabulate 514 (λ k. get_or (order s) (k % 256) 0) k h

pub selector_repeats : (s i : ℕ) → i ≤ 257 → get_or (selector s) (256 + i) 0 ≡ get_or (selector s) i 0
selector_repeats s i h =
    entry s (256 + i) (omega arith) ∙ ap (λ (k : ℕ). get_or (order s) k 0) (let e : (256 + i) % 256 ≡ i % 256 = omega arith in e) ∙ sym (entry s i (omega arith))

-- lists that agree on n places
permutes_as : (n : ℕ) (l m : List ℕ) → ((k : ℕ) → k < n → get_or m k 0 ≡ get_or l k 0) → Permutation n l → Permutation n m
permutes_as n l m e r =
    record {
      inside = λ k b. rw (e k b) (r.inside k b);
      place = r.place;
      place_inside = r.place_inside;
      there = λ v b. e (r.place v) (r.place_inside v b) ∙ r.there v b;
      only_there = λ k b. rw (e k b) (r.only_there k b);
    }

pub selector_permutes : (s : ℕ) → Permutation 256 (selector s)
selector_permutes s =
    permutes_as 256 (order s) (selector s)
    (λ k b. entry s k (omega arith) ∙ ap (λ (k : ℕ). get_or (order s) k 0) (let e : k % 256 ≡ k = omega arith in e))
    (order_permutes s)

-- no value stands twice
pub selector_once : (s i j : ℕ) → i < 256 → j < 256 → get_or (selector s) i 0 ≡ get_or (selector s) j 0 → i ≡ j
selector_once s i j p q e =
    let r = selector_permutes s in
    sym (r.only_there i p) ∙ ap r.place e ∙ r.only_there j q
