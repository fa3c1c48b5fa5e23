-- The laws of rounding half away: the nearest whole number keeps every whole bound. And order, from the test that decides it.
use Rattle.std.proofs.Common.{◌≡◌, ℕ, suc, ◌+◌, ◌*◌, ◌/◌, ◌<◌, ◌≤◌, Bool, true, false, ◌&&◌, ◌||◌, T, eqb, ltb, le_of_eq, le_of_lt, div-lt_iff_lt-mul, le_antisymm, le-div_iff_mul-le, arith, eqb→eq, ltb→lt}
use native.Mathlib.Nat.{div-eq_of_lt}
use Rattle.floats.specs.Round.{away}

pub le_of_lt_suc : {a b : ℕ} → a < suc b → a ≤ b
le_of_lt_suc h = omega arith

pub div_at : (n d k : ℕ) → 0 < d → k * d ≤ n → n < suc k * d → n / d ≡ k
div_at n d k D lo hi = le_antisymm (le_of_lt_suc ((div-lt_iff_lt-mul D).1 hi)) ((le-div_iff_mul-le D).1 lo)

pub twice_pos : (d : ℕ) → 0 < d → 0 < 2 * d
twice_pos d h = omega arith

pub away_ge : (n d k : ℕ) → 0 < d → k * d ≤ n → k ≤ away n d
away_ge n d k D h = (le-div_iff_mul-le (twice_pos d D)).1 (go (k * d) (k * (2 * d)) same h)
  where
    same : k * (2 * d) ≡ 2 * (k * d)
    same = omega arith

    go : (a b : ℕ) → b ≡ 2 * a → a ≤ n → b ≤ 2 * n + d
    go a b e l = omega arith

pub away_le : (n d k : ℕ) → 0 < d → n ≤ k * d → away n d ≤ k
away_le n d k D h = le_of_lt_suc ((div-lt_iff_lt-mul (twice_pos d D)).1 (go (k * d) (suc k * (2 * d)) same h))
  where
    same : suc k * (2 * d) ≡ 2 * (k * d) + 2 * d
    same = omega arith

    go : (a b : ℕ) → b ≡ 2 * a + 2 * d → n ≤ a → 2 * n + d < b
    go a b e l = omega arith

pub away_zero : (n d : ℕ) → 0 < d → n ≡ 0 → away n d ≡ 0
away_zero n d D h = div-eq_of_lt (go n d D h)
  where
    go : (n d : ℕ) → 0 < d → n ≡ 0 → 2 * n + d < 2 * d
    go n d p h = omega arith

-- an order that is decided by `<`, or by equality and a condition
pub le_cross : (p q : ℕ) (b : Bool) → T (ltb p q || (eqb p q && b)) → p ≤ q
le_cross p q b t = go (ltb p q) (eqb p q) (ltb→lt p q) (eqb→eq p q) t
  where
    go : (u v : Bool) → (T u → p < q) → (T v → p ≡ q) → T (u || (v && b)) → p ≤ q
    go true v f g t = le_of_lt (f tt)
    go false true f g t = le_of_eq (g tt)
    go false false f g t = absurd t
