-- The laws of the edge modes: a place below the target lies before the first, and what is read lies on the side.
use Prim.Native.Nat.{ℕ, suc, ◌+◌, ◌-◌, ◌%◌, ◌≤◌, ◌<◌, zero-le}
use mathlib.Core.Path.{◌≡◌, refl, sym, ◌∙◌}
use mathlib.Core.Bool.{true, false}
use mathlib.Core.Logic.{◌⊎◌, ⊎_elim}
use native.Mathlib.Nat.{mod-lt, mod-eq_of_lt}
use native.Mathlib.Omega.{arith}
use native.Mathlib.Decide.{dec_lt}
use borrow.Author.Tests.{lt-ltb, le-ltb}
use lib.Dec.{ltb}
use lib.IntN.{sub_ℕ}
use Rattle.convolve_matrix.specs.declared.edge.EdgeMode.{EdgeMode}
use Rattle.convolve_matrix.specs.declared.edge.EdgeMode.TheVariants.{None, Duplicate, Wrap}
use Rattle.convolve_matrix.specs.Edges.{nearest, remainder, place_by, is_read, place}
use Rattle.convolve_matrix.specs.Inner.Rows.{less_within, Span}

module _ (target n at : ℕ) where
  pub nearest_low : at < target → 0 ≡ nearest n (sub_ℕ at target)
  nearest_low h = rw (lt-ltb at target h)

  pub nearest_mid : target ≤ at → at - target ≤ n - 1 → at - target ≡ nearest n (sub_ℕ at target)
  nearest_mid h l = rw (le-ltb at target h) (omega arith)

  pub remainder_low : at < target → n - 1 - (target - at - 1) % n ≡ remainder n (sub_ℕ at target)
  remainder_low h =
      let z : target - suc at ≡ target - at - 1 = omega arith in
      rw (lt-ltb at target h, z)

  pub remainder_high : target ≤ at → (at - target) % n ≡ remainder n (sub_ℕ at target)
  remainder_high h = rw (le-ltb at target h)

  pub read_low : at < target → false ≡ is_read None target n at
  unfolding is_read
  read_low h = rw (lt-ltb at target h)

  pub read_high : target ≤ at → ltb (at - target) n ≡ is_read None target n at
  unfolding is_read
  read_high h = rw (le-ltb at target h)

  -- what is read lies on the side
  pub placed : 0 < n → (mode : EdgeMode) → place mode target n at < n
  unfolding place
  placed p = go (dec_lt at target)
    where
      near : Dec (at < target) → nearest n (sub_ℕ at target) < n
      near (yes h) = rw (← nearest_low h) p
      near (no h) = let g : target ≤ at = omega arith in rw (le-ltb at target g) (omega arith)

      rest : Dec (at < target) → remainder n (sub_ℕ at target) < n
      rest (yes h) = rw (← remainder_low h) (omega arith)
      rest (no h) = let g : target ≤ at = omega arith in rw (← remainder_high g) (mod-lt (at - target) p)

      go : Dec (at < target) → (mode : EdgeMode) → place_by mode n (sub_ℕ at target) < n
      go d None = near d
      go d Duplicate = near d
      go d Wrap = rest d

  -- a place on the side is its own
  pub own_place : target ≤ at → at - target < n → (mode : EdgeMode) → place mode target n at ≡ at - target
  unfolding place
  own_place h l None = sym (nearest_mid h (omega arith))
  own_place h l Duplicate = sym (nearest_mid h (omega arith))
  own_place h l Wrap = sym (remainder_high h) ∙ mod-eq_of_lt l

-- what is worked out for a mode is the place
pub by_nearest : (mode : EdgeMode) (target n at : ℕ) {r : ℕ} → (mode ≡ None) ⊎ (mode ≡ Duplicate) → r ≡ nearest n (sub_ℕ at target) → r ≡ place mode target n at
unfolding place
by_nearest mode target n at m e = ⊎_elim (λ d. rw d e) (λ d. rw d e) m

pub by_remainder : (mode : EdgeMode) (target n at : ℕ) {r : ℕ} → mode ≡ Wrap → r ≡ remainder n (sub_ℕ at target) → r ≡ place mode target n at
unfolding place
by_remainder mode target n at m e = rw m e

-- ---- the span of n places from `at` on
pub span_none : (target w n at : ℕ) → Span None target w n at (less_within target at n) (less_within (w + target) at n)
span_none target w n at = record {
  ordered = omega arith;
  within = omega arith;
  read = λ i l h. sym (read_high target w (i + at) (omega arith)) ∙ lt-ltb (i + at - target) w (omega arith);
  left = λ i l. sym (read_low target w (i + at) (omega arith));
  right = λ i l h. sym (read_high target w (i + at) (omega arith)) ∙ le-ltb (i + at - target) w (omega arith);
}

pub span_all : (mode : EdgeMode) (target w n at : ℕ) → ((k : ℕ) → is_read mode target w k ≡ true) → Span mode target w n at 0 n
span_all mode target w n at all = record {
  ordered = zero-le;
  within = omega arith;
  read = λ i l h. all (i + at);
  left = λ i l. absurd (omega arith);
  right = λ i l h. absurd (omega arith);
}

pub read_duplicate : (target n at : ℕ) → is_read Duplicate target n at ≡ true
unfolding is_read
read_duplicate target n at = refl

pub read_wrap : (target n at : ℕ) → is_read Wrap target n at ≡ true
unfolding is_read
read_wrap target n at = refl

-- the target reads its own place
pub own_read : (mode : EdgeMode) (target n i : ℕ) → i < n → is_read mode target n (i + target) ≡ true
own_read None target n i h = sym (read_high target n (i + target) (omega arith)) ∙ lt-ltb (i + target - target) n (omega arith)
own_read Duplicate target n i h = read_duplicate target n (i + target)
own_read Wrap target n i h = read_wrap target n (i + target)
