-- What docs/LAW.md says of the tables, for every seed.
use Prim.Native.Nat.{ℕ, zero, suc, ◌+◌, ◌*◌, ◌/◌, ◌%◌, ◌≤◌, ◌<◌}
use mathlib.Core.Path.{◌≡◌, ap, ◌∙◌, sym}
use native.Mathlib.Omega.{arith}
use lib.IntN.{ℤ}
use lib.ListN.{get_or}
use lib.Ieee.{nan}
use Rattle.turbulence.specs.Random.{State, start_of}
use Rattle.turbulence.specs.Selector.{Permutation}
use Rattle.turbulence.specs.Gradient.{gradient_x, gradient_y, after_pairs, drawn_x, drawn_y, draw_of, side_by_side}
use Rattle.turbulence.specs.Tables.{selector_of, gradients_x, gradients_y}
use Rattle.turbulence.proofs.States.{next_state}
use Rattle.turbulence.proofs.Permuted.{selector_permutes, selector_repeats}
use Rattle.turbulence.proofs.Filled.{element}

-- every state that the setup draws is within 1..=2147483646
pub states_stay : (d s : ℕ) → State s → State (after_pairs d s)
unfolding after_pairs
states_stay zero s h = h
states_stay (suc d) s h = next_state (next_state (states_stay d s h))

pub selector_permutation : (seed : ℤ) → Permutation 256 (selector_of seed)
unfolding selector_of
selector_permutation seed = selector_permutes (after_pairs 1024 (start_of seed))

pub selector_again : (seed : ℤ) (i : ℕ) → i ≤ 257 → get_or (selector_of seed) (256 + i) 0 ≡ get_or (selector_of seed) i 0
unfolding selector_of
selector_again seed i h = selector_repeats (after_pairs 1024 (start_of seed)) i h

-- channel c's entry i is the pair of draw 256 c + i, and the entries from 256 on repeat the first
module _ (seed : ℤ) (c i : ℕ) (hc : c < 4) (hi : i < 514) where
  place : (4 * i + c) % 4 ≡ c
  place = omega arith

  number : (4 * i + c) / 4 ≡ i
  number = omega arith

  pub entry_x : get_or (gradients_x seed) (4 * i + c) nan ≡ gradient_x (after_pairs (draw_of c i) (start_of seed))
  unfolding gradients_x side_by_side drawn_x
  entry_x = element nan 2056 _ (4 * i + c) (omega arith) ∙ rw (place, number) (element nan 1024 _ (draw_of c i) (omega arith))

  pub entry_y : get_or (gradients_y seed) (4 * i + c) nan ≡ gradient_y (after_pairs (draw_of c i) (start_of seed))
  unfolding gradients_y side_by_side drawn_y
  entry_y = element nan 2056 _ (4 * i + c) (omega arith) ∙ rw (place, number) (element nan 1024 _ (draw_of c i) (omega arith))

module _ (seed : ℤ) (c i : ℕ) (hc : c < 4) (hi : i ≤ 257) where
  same : draw_of c (256 + i) ≡ draw_of c i
  same = omega arith

  pub gradient_x_again : get_or (gradients_x seed) (4 * (256 + i) + c) nan ≡ get_or (gradients_x seed) (4 * i + c) nan
  gradient_x_again = entry_x seed c (256 + i) hc (omega arith) ∙ ap (λ (d : ℕ). gradient_x (after_pairs d (start_of seed))) same ∙ sym (entry_x seed c i hc (omega arith))

  pub gradient_y_again : get_or (gradients_y seed) (4 * (256 + i) + c) nan ≡ get_or (gradients_y seed) (4 * i + c) nan
  gradient_y_again = entry_y seed c (256 + i) hc (omega arith) ∙ ap (λ (d : ℕ). gradient_y (after_pairs d (start_of seed))) same ∙ sym (entry_y seed c i hc (omega arith))
