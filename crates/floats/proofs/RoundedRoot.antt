-- The square root on plain values: `root`, and that a q with `Near n q` is the rounded root of n. Assumes nothing.
use Rattle.std.proofs.Common.{◌≡◌, ℕ, zero, suc, ◌+◌, ◌-◌, ◌*◌, ◌/◌, ◌^◌, ◌<◌, ◌≤◌, Bool, true, false, cond, not, T, leb, sym, refl, ap, ◌∙◌, subst, le_trans, le_of_eq, lt_of_lt_of_le, lt_of_le_of_lt, mul-le-mul_right, mul_assoc, div-lt_iff_lt-mul, mul-le-mul, le_antisymm, lt_of_mul-lt-mul_right, mul-le-mul_left, mul-lt-mul_of_pos_right, mul-pos, pow-suc, lt_of_not-le, le-div_iff_mul-le, mul-one, not-le_of_lt, div-mul-le_self, le_of_mul-le-mul_right, mul-div_cancel, arith, lit<, leb→le, pow_pos, pow-add}
use Prim.Native.Nat.{compare, Ordering}
use native.Mathlib.Nat.{mul-mul-mul_comm, eq_of_mul-eq-mul_right}
use lib.Dec.{nleb→lt}
use lib.Ieee.{Float, Format, prec, low, size, nearest, units}
use lib.Ieee.Digits.{size-lt, size-le}
use lib.Ieee.Fits.{two, two-le_pos}
use Rattle.floats.specs.Root.{root_at, root, round_root}
use Rattle.floats.specs.Inner.Roots.{Near}
use Rattle.floats.proofs.Fractions.{size_gt, size_at}
use Rattle.floats.proofs.Closest.{Cmp, cmp}

-- ---- squares
pub sq_suc : (q : ℕ) → suc q * suc q ≡ q * q + 2 * q + 1
sq_suc q = omega arith

sq_odd : (q : ℕ) → (2 * q + 1) * (2 * q + 1) ≡ 4 * (q * q + q) + 1
sq_odd q = omega arith

sq_twice : (q : ℕ) → 2 * q * (2 * q) ≡ 4 * (q * q)
sq_twice q = omega arith

pub four : (k : ℕ) → 4 ^ k ≡ 2 ^ k * 2 ^ k
four zero = refl
four (suc k) =
    pow-suc 4 k ∙ ap (λ (x : ℕ). x * 4) (four k) ∙ go (2 ^ k) ∙ ap (λ (x : ℕ). x * x) (sym (pow-suc 2 k))
  where
    go : (a : ℕ) → a * a * 4 ≡ a * 2 * (a * 2)
    go a = omega arith

pow_le_self : (a : ℕ) → 0 < a → a ≤ a * a
pow_le_self a h = le_trans (le_of_eq (sym (mul-one a))) (mul-le-mul_left a h)

pub sq_le : {a b : ℕ} → a ≤ b → a * a ≤ b * b
sq_le h = mul-le-mul h h

pub sq_lt_back : (a b : ℕ) → a * a < b * b → a < b
sq_lt_back a b h = lt_of_not-le (λ (g : b ≤ a). not-le_of_lt h (sq_le g))

-- ---- `root` is the whole part of the root
abbrev pub Root : ℕ → ℕ → Type 0
Root n r = (r * r ≤ n) × (n < suc r * suc r)

step : (n r0 : ℕ) → Root (n / 4) r0 → Root n (cond (leb (suc (2 * r0) * suc (2 * r0)) n) (suc (2 * r0)) (2 * r0))
step n r0 h = go (leb (suc (2 * r0) * suc (2 * r0)) n) (leb→le (suc (2 * r0) * suc (2 * r0)) n) (nleb→lt (suc (2 * r0) * suc (2 * r0)) n)
  where
    lo : (n m r : ℕ) → m ≡ n / 4 → r * r ≤ m → 2 * r * (2 * r) ≤ n
    lo n m r e a = omega arith

    hi : (n m r : ℕ) → m ≡ n / 4 → m < suc r * suc r → n < suc (suc (2 * r)) * suc (suc (2 * r))
    hi n m r e a = omega arith

    go : (b : Bool) → (T b → suc (2 * r0) * suc (2 * r0) ≤ n) → (T (not b) → n < suc (2 * r0) * suc (2 * r0)) → Root n (cond b (suc (2 * r0)) (2 * r0))
    go true y z = (y tt, hi n (n / 4) r0 refl h.1)
    go false y z = (lo n (n / 4) r0 refl h.0, z tt)

root_at_is : (k n : ℕ) → n < 4 ^ k → Root n (root_at k n)
unfolding root_at
root_at_is zero n h = (none n h, h)
  where
    none : (n : ℕ) → n < 1 → 0 ≤ n
    none n h = omega arith
root_at_is (suc k) n h = step n (root_at k (n / 4)) (root_at_is k (n / 4) ((div-lt_iff_lt-mul (lit< tt)).1 (lt_of_lt_of_le h (le_of_eq (pow-suc 4 k)))))

pub root_is : (n : ℕ) → Root n (root n)
unfolding root
root_is n = root_at_is (size n) n (lt_of_lt_of_le (size-lt n) (le_trans (pow_le_self (2 ^ size n) (pow_pos (size n))) (le_of_eq (sym (four (size n))))))

-- ---- the nearest whole number to a root is one
below_next : (a b : ℕ) → a < b → a * a + a + b ≤ b * b
below_next a b h =
    let p : suc a * b ≤ b * b = mul-le-mul_right b h in
    let q : a * suc a ≤ a * b = mul-le-mul_left a h in
    let p' : a * b + b ≡ suc a * b = omega arith in
    let q' : a * a + a ≡ a * suc a = omega arith in
    omega arith

near_order : (n a b : ℕ) → Near n a → Near n b → a < b → ⊥
near_order n a b p q h = go (a * a) (b * b) (below_next a b h) p.under q.above
  where
    go : (aa bb : ℕ) → aa + a + b ≤ bb → n ≤ aa + a → bb < n + b → ⊥
    go aa bb x y z = omega arith

pub near_unique : (n a b : ℕ) → Near n a → Near n b → a ≡ b
near_unique n a b p q = le_antisymm (le_of_not_lt' b a (near_order n b a q p)) (le_of_not_lt' a b (near_order n a b p q))
  where
    le_of_not_lt' : (x y : ℕ) → (x < y → ⊥) → y ≤ x
    le_of_not_lt' x y h = omega arith

pub near_low : (n q least : ℕ) → least * least ≤ n → Near n q → least ≤ q
near_low n q least h near = not_lt q least (λ (l : q < least). go (q * q) (least * least) l (below_next q least l) h near.under)
  where
    not_lt : (x y : ℕ) → (x < y → ⊥) → y ≤ x
    not_lt x y h = omega arith

    go : (qq ll : ℕ) → q < least → qq + q + least ≤ ll → ll ≤ n → n ≤ qq + q → ⊥
    go qq ll l b h u = omega arith

pub near_high : (n q most : ℕ) → n < most * most → Near n q → q ≤ most
near_high n q most h near = not_lt most q (λ (l : most < q). go (q * q) (most * most) (below_next most q l) h near.above)
  where
    not_lt : (x y : ℕ) → (x < y → ⊥) → y ≤ x
    not_lt x y h = omega arith

    go : (qq mm : ℕ) → mm + most + q ≤ qq → n < mm → qq < n + q → ⊥
    go qq mm b h a = omega arith

-- the number that `round_root` takes, from r the whole part of √n, by how 4 n compares with (2 r + 1)²
picked : (n r : ℕ) (o : Ordering) → 0 < r → Root n r → Cmp o (4 * n) ((2 * r + 1) * (2 * r + 1)) → Near n (nearest r o)
picked n r Ordering.lt R h c = record { above = lo (r * r) h.0; under = hi (r * r) ((2 * r + 1) * (2 * r + 1)) (sq_odd r) c }
  where
    lo : (rr : ℕ) → rr ≤ n → rr < n + r
    lo rr h = omega arith

    hi : (rr s : ℕ) → s ≡ 4 * (rr + r) + 1 → 4 * n < s → n ≤ rr + r
    hi rr s e c = omega arith
picked n r Ordering.eq R h c = absurd (go (r * r + r) ((2 * r + 1) * (2 * r + 1)) (sq_odd r) c)
  where
    go : (z s : ℕ) → s ≡ 4 * z + 1 → 4 * n ≡ s → ⊥
    go z s e c = omega arith
picked n r Ordering.gt R h c = record { above = lo (r * r) (suc r * suc r) ((2 * r + 1) * (2 * r + 1)) (sq_suc r) (sq_odd r) c; under = hi (suc r * suc r) h.1 }
  where
    lo : (rr q s : ℕ) → q ≡ rr + 2 * r + 1 → s ≡ 4 * (rr + r) + 1 → s < 4 * n → q < n + suc r
    lo rr q s e g c = omega arith

    hi : (q : ℕ) → n < q → n ≤ q + suc r
    hi q h = omega arith

pub cmp_cancel : (o : Ordering) (a b z : ℕ) → 0 < z → Cmp o (a * z) (b * z) → Cmp o a b
cmp_cancel Ordering.lt a b z Z c = lt_of_mul-lt-mul_right z c
cmp_cancel Ordering.eq a b z Z c = eq_of_mul-eq-mul_right z Z a b c
cmp_cancel Ordering.gt a b z Z c = lt_of_mul-lt-mul_right z c

-- ---- `round_root`, from its n, w and k on
abbrev pub core : Format → ℕ → ℕ → ℕ → ℕ → Float
core f n den w k = units f false (nearest (w / 2 ^ k) (compare (4 * n) ((2 * (w / 2 ^ k) + 1) * (2 * (w / 2 ^ k) + 1) * 4 ^ k * den))) k

pub round_root_is : (f : Format) (num den : ℕ) → round_root f num den ≡ core f (num * 4 ^ low f) den (root (num * 4 ^ low f / den)) (size (root (num * 4 ^ low f / den)) - prec f)
unfolding round_root
round_root_is f num den = refl

-- w is the whole part of √(N u²)
module _ (N u w H P : ℕ) (U : 0 < u) (h : Root (N * (u * u)) w) (lo : H * H ≤ N) (hi : N < P * P) where
  w_lo : H * u ≤ w
  w_lo =
      le_of_lt_suc (sq_lt_back (H * u) (suc w) (lt_of_le_of_lt (le_trans (le_of_eq (mul-mul-mul_comm H u H u)) (mul-le-mul_right (u * u) lo)) h.1))
    where
      le_of_lt_suc : {a b : ℕ} → a < suc b → a ≤ b
      le_of_lt_suc h = omega arith

  w_hi : w < P * u
  w_hi = sq_lt_back w (P * u) (lt_of_le_of_lt h.0 (lt_of_lt_of_le (mul-lt-mul_of_pos_right hi (mul-pos U U)) (le_of_eq (mul-mul-mul_comm P P u u))))

  part : Root N (w / u)
  part = (
    le_of_mul-le-mul_right (le_trans (le_of_eq (mul-mul-mul_comm (w / u) (w / u) u u)) (le_trans (sq_le (div-mul-le_self w u)) h.0)) (mul-pos U U),
    lt_of_mul-lt-mul_right (u * u) (lt_of_lt_of_le h.1 (le_trans (sq_le ((div-lt_iff_lt-mul U).0 (lt_suc (w / u)))) (le_of_eq (mul-mul-mul_comm (suc (w / u)) u (suc (w / u)) u)))),
  )
    where
      lt_suc : (a : ℕ) → a < suc a
      lt_suc a = omega arith

pub round_root_at : (f : Format) (num den N k q : ℕ) → 0 < den → num * 4 ^ low f ≡ N * 4 ^ k * den → 2 ^ (prec f - 1) * 2 ^ (prec f - 1) ≤ N → N < 2 ^ prec f * 2 ^ prec f → Near N q
    → round_root f num den ≡ units f false q k
round_root_at f num den N k q D e lo hi near =
    let p = prec f in
    let u = 2 ^ k in
    let n = num * 4 ^ low f in
    let w = root (n / den) in
    let r = w / u in
    let H = 2 ^ (p - 1) in
    let P = 2 ^ p in
    let U : 0 < u = pow_pos k in
    let e1 : n / den ≡ N * (u * u) = ap (λ (x : ℕ). x / den) e ∙ mul-div_cancel (N * 4 ^ k) D ∙ ap (λ (x : ℕ). N * x) (four k) in
    let R : Root (N * (u * u)) w = subst (λ (x : ℕ). Root x w) e1 (root_is (n / den)) in
    let a : H * u ≤ w = w_lo N u w H P U R lo hi in
    let kk : size w - p ≡ k =
    size_at p k (size w) (two-le_pos p (two f)) (size_gt w (p - 1 + k) (le_trans (le_of_eq (pow-add 2 (p - 1) k)) a))
    (size-le w (p + k) (lt_of_lt_of_le (w_hi N u w H P U R lo hi) (le_of_eq (sym (pow-add 2 p k))))) in
    let r-pos : 0 < r = lt_of_lt_of_le (pow_pos (p - 1)) ((le-div_iff_mul-le U).1 a) in
    let S = (2 * r + 1) * (2 * r + 1) in
    let o = compare (4 * n) (S * 4 ^ k * den) in
    let c0 : Cmp o (4 * n) (S * 4 ^ k * den) = cmp (4 * n) (S * 4 ^ k * den) in
    let left : 4 * n ≡ 4 * N * (4 ^ k * den) = ap (λ (x : ℕ). 4 * x) (e ∙ mul_assoc N (4 ^ k) den) ∙ sym (mul_assoc 4 N (4 ^ k * den)) in
    let c1 : Cmp o (4 * N * (4 ^ k * den)) (S * 4 ^ k * den) = subst (λ (x : ℕ). Cmp o x (S * 4 ^ k * den)) left c0 in
    let c2 : Cmp o (4 * N * (4 ^ k * den)) (S * (4 ^ k * den)) = subst (λ (x : ℕ). Cmp o (4 * N * (4 ^ k * den)) x) (mul_assoc S (4 ^ k) den) c1 in
    let c3 : Cmp o (4 * N) S = cmp_cancel o (4 * N) S (4 ^ k * den) (mul-pos (subst (λ (x : ℕ). 0 < x) (sym (four k)) (mul-pos U U)) D) c2 in
    let same : nearest r o ≡ q = near_unique N (nearest r o) q (picked N r o r-pos (part N u w H P U R lo hi) c3) near in
    round_root_is f num den ∙ ap (λ (x : ℕ). core f n den w x) kk ∙ ap (λ (x : ℕ). units f false x k) same
