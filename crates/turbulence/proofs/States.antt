-- The next of a state is a state, and Schrage's way to it.
use Prim.Native.Nat.{ℕ, ◌+◌, ◌*◌, ◌-◌, ◌/◌, ◌%◌, ◌≤◌, ◌<◌}
use mathlib.Core.Path.{◌≡◌, sym, ap, ◌∙◌}
use native.Mathlib.Nat.{mul-add-mod_self_right, mod-eq_of_lt}
use native.Mathlib.Omega.{arith}
use Rattle.turbulence.specs.Random.{State, next}

-- no multiple of 16807 by a state is one of the modulus, for 16807 * 1407677000 ≡ 1 + 11017 * 2147483647
no_multiple : (s k : ℕ) → State s → 16807 * s ≡ k * 2147483647 → ⊥
no_multiple s k h e = small s (1407677000 * k - 11017 * s) h (omega arith)
  where
    small : (s u : ℕ) → State s → s ≡ u * 2147483647 → ⊥
    small s u h f = omega arith

pub next_state : {s : ℕ} → State s → State (next s)
unfolding next
next_state {s} h =
    let no = no_multiple s (16807 * s / 2147483647) h in
    record { low = omega arith; high = omega arith }

-- what stands over a multiple of the modulus
next_is : (s q r : ℕ) → 16807 * s ≡ q * 2147483647 + r → r < 2147483647 → r ≡ next s
unfolding next
next_is s q r e l = sym (ap (λ (n : ℕ). n % 2147483647) e ∙ mul-add-mod_self_right q 2147483647 r ∙ mod-eq_of_lt l)

-- 2147483647 is 16807 * 127773 + 2836
pub schrage_up : (s : ℕ) → State s → 2836 * (s / 127773) < 16807 * (s % 127773) → 16807 * (s % 127773) - 2836 * (s / 127773) ≡ next s
schrage_up s h l = next_is s (s / 127773) _ (omega arith) (omega arith)

pub schrage_down : (s : ℕ) → State s → 16807 * (s % 127773) ≤ 2836 * (s / 127773) → 16807 * (s % 127773) + 2147483647 - 2836 * (s / 127773) ≡ next s
schrage_down s h l = let no = no_multiple s (s / 127773) h in next_is s (s / 127773 - 1) _ (omega arith) (omega arith)
