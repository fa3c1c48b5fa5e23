-- A float cut toward zero to a signed integer of h bits and a sign, by where it lies. Assumes nothing.
use Rattle.std.proofs.Common.{◌≡◌, ℕ, zero, suc, ◌+◌, ◌-◌, ◌*◌, ◌/◌, ◌^◌, ◌<◌, ◌≤◌, Bool, true, false, not, ◌&&◌, ◌||◌, T, eqb, ltb, pos, neg_ℤ, sym, refl, ap, ◌∙◌, le_trans, lt_trans, lt_of_lt_of_le, lt_of_le_of_lt, div-lt_iff_lt-mul, mul-lt-mul_of_pos_right, mul-pos, one-mul, le-div_iff_mul-le, arith, eqb→eq, ltb→lt, lt→ltb, nltb→le, pow_pos, pow_mono}
use native.Mathlib.Nat.{zero-div, min-eq_left, min-eq_right}
use lib.Pow.{pow-lt}
use lib.Ieee.{Float, nan, inf, fin, up, down, lt, le, eq, to_signed}
use lib.Ieee.Fits.{down_pos}
use Rattle.floats.proofs.Fractions.{nought}

-- -2 ^ h and 2 ^ h
abbrev pub lowest : ℕ → Float
lowest h = fin true 1 (pos h)

abbrev pub past : ℕ → Float
past h = fin false 1 (pos h)

or_left : (p q : Bool) → T (not (p || q)) → T (not p)
or_left true q t = absurd t
or_left false q t = tt

not_less : (x y : Float) → T (not (le x y)) → T (not (lt x y))
unfolding le
not_less x y t = or_left (lt x y) (eq x y) t

-- q = n / d against P, a power of two
module _ (n d P : ℕ) (D : 0 < d) where
  below : n * 1 < 1 * P * d → n / d < P
  below h = (div-lt_iff_lt-mul D).1 (tidy n (1 * P * d) (P * d) (ap (λ (x : ℕ). x * d) (one-mul P)) h)
    where
      tidy : (n a b : ℕ) → a ≡ b → n * 1 < a → n < b
      tidy n a b e h = omega arith

  up_to_lem : n * 1 ≤ 1 * P * d → n / d ≤ P
  up_to_lem h = le_of_div (n / d) P ((div-lt_iff_lt-mul D).1 (tidy n (1 * P * d) d D h (next P)))
    where
      le_of_div : (q P : ℕ) → q < suc P → q ≤ P
      le_of_div q P h = omega arith

      next : (P : ℕ) → suc P * d ≡ 1 * P * d + d
      next P = omega arith

      tidy : (n a d : ℕ) → 0 < d → n * 1 ≤ a → suc P * d ≡ a + d → n < suc P * d
      tidy n a d D h e = omega arith

  from : 1 * P * d ≤ n * 1 → P ≤ n / d
  from h = (le-div_iff_mul-le D).1 (tidy n (1 * P * d) (P * d) (ap (λ (x : ℕ). x * d) (one-mul P)) h)
    where
      tidy : (n a b : ℕ) → a ≡ b → a ≤ n * 1 → b ≤ n
      tidy n a b e h = omega arith

no_more : (P d n : ℕ) → 0 < P * d → T (not (ltb 0 (n + 1 * P * d))) → ⊥
no_more P d n h t = go (1 * P * d) (P * d) (ap (λ (x : ℕ). x * d) (one-mul P)) h (nltb→le 0 (n + 1 * P * d) t)
  where
    go : (a b : ℕ) → a ≡ b → 0 < b → n + a ≤ 0 → ⊥
    go a b e p l = omega arith

less_one : (P : ℕ) → 0 < P → (q : ℕ) → q < P → q ≤ P - 1
less_one P h q l = omega arith

one_less : (P q : ℕ) → P ≤ q → P - 1 ≤ q
one_less P q h = omega arith

at_most : (p q : ℕ) → T (ltb p q || (eqb q p && true)) → p ≤ q
at_most p q t = go (ltb p q) (eqb q p) (ltb→lt p q) (eqb→eq q p) t
  where
    go : (a b : Bool) → (T a → p < q) → (T b → q ≡ p) → T (a || (b && true)) → p ≤ q
    go true b y z t = let l = y tt in omega arith
    go false true y z t = let l = z tt in omega arith
    go false false y z t = absurd t

-- from -2 ^ h on, below 2 ^ h: as in any wider type
pub inside : (h k : ℕ) (x : Float) → h ≤ k → T (le (lowest h) x) → T (lt x (past h)) → to_signed k x ≡ to_signed h x
unfolding le lt to_signed eq
inside h k nan g a b = absurd b
inside h k (inf true) g a b = absurd a
inside h k (inf false) g a b = absurd b
inside h k (fin false m e) g a b =
    let q = below (m * up e) (down e) (2 ^ h) (down_pos e) (ltb→lt (m * up e * 1) (1 * 2 ^ h * down e) b) in
    ap pos (min-eq_left (less_one (2 ^ k) (pow_pos k) (m * up e / down e) (lt_of_lt_of_le q (pow_mono g))) ∙ sym (min-eq_left (less_one (2 ^ h) (pow_pos h) (m * up e / down e) q)))
inside h k (fin true m e) g a b =
    let q = up_to_lem (m * up e) (down e) (2 ^ h) (down_pos e) (at_most (m * up e * 1) (1 * 2 ^ h * down e) a) in
    ap (λ (n : ℕ). neg_ℤ (pos n)) (min-eq_left (le_trans q (pow_mono g)) ∙ sym (min-eq_left q))

pub above : (h : ℕ) (x : Float) → T (le (lowest h) x) → T (not (lt x (past h))) → pos (2 ^ h - 1) ≡ to_signed h x
unfolding le lt to_signed eq
above h nan a b = absurd a
above h (inf true) a b = absurd a
above h (inf false) a b = refl
above h (fin false m e) a b =
    let q = from (m * up e) (down e) (2 ^ h) (down_pos e) (nltb→le (m * up e * 1) (1 * 2 ^ h * down e) b) in
    ap pos (sym (min-eq_right (one_less (2 ^ h) (m * up e / down e) q)))
above h (fin true m e) a b = absurd (no_more (2 ^ h) (down e) (m * up e * 1) (mul-pos (pow_pos h) (down_pos e)) b)

pub under : (h : ℕ) (x : Float) → T (not (le (lowest h) x)) → T (lt x nought) → neg_ℤ (pos (2 ^ h)) ≡ to_signed h x
unfolding le lt to_signed eq
under h nan a b = absurd b
under h (inf true) a b = refl
under h (inf false) a b = absurd b
under h (fin false m e) a b = absurd (none (m * up e) (down e) (ltb→lt (m * up e * 1) (0 * 1 * down e) b))
  where
    none : (n d : ℕ) → n * 1 < 0 * 1 * d → ⊥
    none n d h = omega arith
under h (fin true m e) a b =
    let q = from (m * up e) (down e) (2 ^ h) (down_pos e) (nltb→le (m * up e * 1) (1 * 2 ^ h * down e) (not_less (lowest h) (fin true m e) a)) in
    ap (λ (n : ℕ). neg_ℤ (pos n)) (sym (min-eq_right q))

pub neither : (h : ℕ) (x : Float) → T (not (le (lowest h) x)) → T (not (lt x nought)) → pos 0 ≡ to_signed h x
unfolding le lt to_signed eq
neither h nan a b = refl
neither h (inf true) a b = absurd b
neither h (inf false) a b = absurd a
neither h (fin false m e) a b = absurd (no_more' (2 ^ h) (down e) (m * up e * 1) (mul-pos (pow_pos h) (down_pos e)) (not_less (lowest h) (fin false m e) a))
  where
    no_more' : (P d n : ℕ) → 0 < P * d → T (not (ltb 0 (1 * P * d + n))) → ⊥
    no_more' P d n h t = go (1 * P * d) (P * d) (ap (λ (x : ℕ). x * d) (one-mul P)) h (nltb→le 0 (1 * P * d + n) t)
      where
        go : (a b : ℕ) → a ≡ b → 0 < b → a + n ≤ 0 → ⊥
        go a b e p l = omega arith
neither h (fin true m e) a b =
    let q = from (m * up e) (down e) (2 ^ h) (down_pos e) (nltb→le (m * up e * 1) (1 * 2 ^ h * down e) (not_less (lowest h) (fin true m e) a)) in
    absurd (some (m * up e) (down e) (2 ^ h) (pow_pos h) (down_pos e) q (nltb→le 0 (m * up e * 1 + 0 * 1 * down e) b))
  where
    some : (n d P : ℕ) → 0 < P → 0 < d → P ≤ n / d → n * 1 + 0 * 1 * d ≤ 0 → ⊥
    some zero d P p D q l = go (0 / d) P p q (zero-div d)
      where
        go : (a P : ℕ) → 0 < P → P ≤ a → a ≡ 0 → ⊥
        go a P p q e = omega arith
    some (suc n) d P p D q l = omega arith

-- from -2 ^ h on, below 2 ^ h: inside a wider range too
or_true : (p q : Bool) → T p → T (p || q)
or_true true q t = tt
or_true false q t = absurd t

wider : (h k d : ℕ) → h < k → 0 < d → 1 * 2 ^ h * d < 1 * 2 ^ k * d
wider h k d g D = mul-lt-mul_of_pos_right (tidy (2 ^ h) (2 ^ k) (pow-lt g)) D
  where
    tidy : (a b : ℕ) → a < b → 1 * a < 1 * b
    tidy a b l = omega arith

some_room : (k d : ℕ) → 0 < d → 0 < 1 * 2 ^ k * d
some_room k d D = mul-pos (tidy (2 ^ k) (pow_pos k)) D
  where
    tidy : (a : ℕ) → 0 < a → 0 < 1 * a
    tidy a l = omega arith

pub wider_lowest : (h k : ℕ) (x : Float) → h < k → T (le (lowest h) x) → T (lt x (past h)) → T (le (lowest k) x)
unfolding le lt eq
wider_lowest h k nan g a b = absurd b
wider_lowest h k (inf true) g a b = absurd a
wider_lowest h k (inf false) g a b = absurd b
wider_lowest h k (fin false m e) g a b =
    or_true (lt (lowest k) (fin false m e)) (eq (lowest k) (fin false m e)) (lt→ltb 0 (1 * 2 ^ k * down e + m * up e * 1) (more (1 * 2 ^ k * down e) (m * up e * 1) (some_room k (down e) (down_pos e))))
  where
    more : (a b : ℕ) → 0 < a → 0 < a + b
    more a b l = omega arith
wider_lowest h k (fin true m e) g a b =
    or_true (lt (lowest k) (fin true m e)) (eq (lowest k) (fin true m e)) (lt→ltb (m * up e * 1) (1 * 2 ^ k * down e) (lt_of_le_of_lt (at_most (m * up e * 1) (1 * 2 ^ h * down e) a) (wider h k (down e) g (down_pos e))))

pub wider_past : (h k : ℕ) (x : Float) → h < k → T (lt x (past h)) → T (lt x (past k))
unfolding lt
wider_past h k nan g b = absurd b
wider_past h k (inf true) g b = tt
wider_past h k (inf false) g b = absurd b
wider_past h k (fin false m e) g b = lt→ltb (m * up e * 1) (1 * 2 ^ k * down e) (lt_trans (ltb→lt (m * up e * 1) (1 * 2 ^ h * down e) b) (wider h k (down e) g (down_pos e)))
wider_past h k (fin true m e) g b = lt→ltb 0 (m * up e * 1 + 1 * 2 ^ k * down e) (more (m * up e * 1) (1 * 2 ^ k * down e) (some_room k (down e) (down_pos e)))
  where
    more : (a b : ℕ) → 0 < b → 0 < a + b
    more a b l = omega arith
