-- A value of a format is q * 2 ^ j of its smallest value; a value is one float; where a difference is exact. Assumes nothing.
use Rattle.std.proofs.Common.{◌≡◌, ℕ, zero, suc, ◌+◌, ◌-◌, ◌*◌, ◌/◌, ◌%◌, ◌^◌, ◌<◌, ◌≤◌, Bool, false, cond, not, ◌&&◌, T, eqb, ltb, leb, ◌⊎◌, ℤ, pos, negsuc, sym, ap, ◌∙◌, subst, inl, inr, le_trans, le_of_eq, lt_of_lt_of_le, lt_of_le_of_lt, mul-le-mul_right, mul_assoc, mul_comm, lt_of_mul-lt-mul_right, mul-lt-mul_of_pos_right, mul-pos, zero-mul, mul-one, mul_right_comm, not-le_of_lt, le_of_mul-le-mul_right, arith, ltb→lt, leb→le, pow_pos, pow-add}
use lib.Pow.{pow-lt}
use lib.Ieee.{Float, nan, inf, fin, Format, binary32, binary64, prec, emax, low, hid, top, up, down, size, round, sub, fits, is_nan, to_bits, of_bits}
use lib.Ieee.Fits.{down_pos, and_l, and_r, and_i, fits_widens}
use lib.Ieee.Bits.{of_bits-to_bits}
use lib.Ieee.Exact.{HasValue, round_exact}
use lib.Ieee.Nearest.{div_same}
use lib.Ieee.Scale.{round_same, overflow, finite}
use Rattle.floats.proofs.Tests.{either, sub_mul}
use Rattle.floats.proofs.Fractions.{sub_at}

-- ---- two floats of one value are one
pub pattern_at : (f : Format) (x : Float) (s : Bool) (a c : ℕ) → 0 < c → HasValue x s a c → to_bits f x ≡ cond s (top f) 0 + (size (a * 2 ^ low f / c) - prec f) * hid f + a * 2 ^ low f / c / 2 ^ (size (a * 2 ^ low f / c) - prec f)
unfolding to_bits
pattern_at f nan s a c C h = absurd h
pattern_at f (inf t) s a c C h = absurd h
pattern_at f (fin t m e) s a c C h =
    ap (λ (b : Bool). cond b (top f) 0 + (size (m * up e * 2 ^ low f / down e) - prec f) * hid f + m * up e * 2 ^ low f / down e / 2 ^ (size (m * up e * 2 ^ low f / down e) - prec f)) h.0
    ∙ ap (λ (n : ℕ). cond s (top f) 0 + (size n - prec f) * hid f + n / 2 ^ (size n - prec f))
    (div_same (m * up e * 2 ^ low f) (down e) (a * 2 ^ low f) c (down_pos e) C (mul_right_comm (m * up e) (2 ^ low f) c ∙ ap (λ (x : ℕ). x * 2 ^ low f) h.1 ∙ mul_right_comm a (down e) (2 ^ low f)))

pub value_unique : (f : Format) (x y : Float) (s : Bool) (a c : ℕ) → 0 < c → T (fits f x) → T (fits f y) → HasValue x s a c → HasValue y s a c → x ≡ y
value_unique f x y s a c C F G h k =
    sym (of_bits-to_bits f x F) ∙ ap (of_bits f) (pattern_at f x s a c C h ∙ sym (pattern_at f y s a c C k)) ∙ of_bits-to_bits f y G

-- x is q * 2 ^ j of the smallest values of f, q of no more digits than f has, with the sign s
pub record Units (f : Format) (s : Bool) (x : Float) : Type 0 where
  pub q : ℕ
  pub j : ℕ
  pub small : q < 2 ^ prec f
  pub fine : q * 2 ^ j < overflow f
  pub value : HasValue x s (q * 2 ^ j) (2 ^ low f)

pow_le_back : (i p : ℕ) → 2 ^ i ≤ 2 ^ p → i ≤ p
pow_le_back i p h = not_lt p i (λ (g : p < i). not-le_of_lt (pow-lt g) h)
  where
    not_lt : (x y : ℕ) → (x < y → ⊥) → y ≤ x
    not_lt x y h = omega arith

-- finite, with the sign s
abbrev pub Finite : Float → Bool → Type 0
Finite nan s = ⊥
Finite (inf t) s = ⊥
Finite (fin t m e) s = t ≡ s

pub in_units_lem : (f : Format) (s : Bool) (x : Float) → T (fits f x) → Finite x s → Units f s x
unfolding fits
in_units_lem f s nan F h = absurd h
in_units_lem f s (inf t) F h = absurd h
in_units_lem f s (fin t zero e) F h = record {
  q = 0;
  j = 0;
  small = pow_pos (prec f);
  fine = pow_pos (low f + suc (emax f));
  value = (h, ap (λ (x : ℕ). x * 2 ^ low f) (zero-mul (up e)) ∙ zero-mul (2 ^ low f) ∙ sym (zero-mul (down e)));
}
in_units_lem f s (fin t (suc m) e) F h = go e F
  where
    go : (e : ℤ) → T (eqb (suc m % 2) 1 && ltb (suc m) (2 ^ prec f) && leb (down e) (2 ^ low f) && ltb (suc m * up e) (2 ^ suc (emax f) * down e)) → Units f s (fin t (suc m) e)
    go (pos k) F =
        let a = eqb (suc m % 2) 1 in
        let b = ltb (suc m) (2 ^ prec f) in
        let c = leb 1 (2 ^ low f) in
        let d = ltb (suc m * 2 ^ k) (2 ^ suc (emax f) * 1) in
        let value : suc m * 2 ^ (k + low f) ≡ suc m * 2 ^ k * 2 ^ low f = ap (λ (x : ℕ). suc m * x) (pow-add 2 k (low f)) ∙ sym (mul_assoc (suc m) (2 ^ k) (2 ^ low f)) in
        record {
          q = suc m;
          j = k + low f;
          small = ltb→lt (suc m) (2 ^ prec f) (and_r a b (and_l (a && b) c (and_l (a && b && c) d F)));
          fine =
              lt_of_le_of_lt (le_of_eq value)
              (lt_of_lt_of_le (mul-lt-mul_of_pos_right (ltb→lt (suc m * 2 ^ k) (2 ^ suc (emax f) * 1) (and_r (a && b && c) d F)) (pow_pos (low f)))
              (le_of_eq (ap (λ (x : ℕ). x * 2 ^ low f) (mul-one (2 ^ suc (emax f))) ∙ mul_comm (2 ^ suc (emax f)) (2 ^ low f) ∙ sym (pow-add 2 (low f) (suc (emax f))))));
          value = (h, sym value ∙ sym (mul-one (suc m * 2 ^ (k + low f))));
        }
    go (negsuc k) F =
        let a = eqb (suc m % 2) 1 in
        let b = ltb (suc m) (2 ^ prec f) in
        let c = leb (2 ^ suc k) (2 ^ low f) in
        let d = ltb (suc m * 1) (2 ^ suc (emax f) * 2 ^ suc k) in
        let le : suc k ≤ low f = pow_le_back (suc k) (low f) (leb→le (2 ^ suc k) (2 ^ low f) (and_r (a && b) c (and_l (a && b && c) d F))) in
        let r = low f - suc k in
        let both : 2 ^ r * 2 ^ suc k ≡ 2 ^ low f = sym (pow-add 2 r (suc k)) ∙ ap (λ (x : ℕ). 2 ^ x) (back (low f) (suc k) le) in
        record {
          q = suc m;
          j = r;
          small = ltb→lt (suc m) (2 ^ prec f) (and_r a b (and_l (a && b) c (and_l (a && b && c) d F)));
          fine =
              lt_of_mul-lt-mul_right (2 ^ suc k)
              (lt_of_le_of_lt (le_of_eq (mul_assoc (suc m) (2 ^ r) (2 ^ suc k) ∙ ap (λ (x : ℕ). suc m * x) both ∙ ap (λ (x : ℕ). x * 2 ^ low f) (sym (mul-one (suc m)))))
              (lt_of_lt_of_le (mul-lt-mul_of_pos_right (ltb→lt (suc m * 1) (2 ^ suc (emax f) * 2 ^ suc k) (and_r (a && b && c) d F)) (pow_pos (low f)))
              (le_of_eq (mul_right_comm (2 ^ suc (emax f)) (2 ^ suc k) (2 ^ low f) ∙ ap (λ (x : ℕ). x * 2 ^ suc k) (mul_comm (2 ^ suc (emax f)) (2 ^ low f) ∙ sym (pow-add 2 (low f) (suc (emax f))))))));
          value = (h, ap (λ (x : ℕ). x * 2 ^ low f) (mul-one (suc m)) ∙ ap (λ (x : ℕ). suc m * x) (sym both) ∙ sym (mul_assoc (suc m) (2 ^ r) (2 ^ suc k)));
        }
      where
        back : (a l : ℕ) → l ≤ a → a - l + l ≡ a
        back a l h = omega arith

-- a finite `f32` is a value of `f64`
pub finite_widens : (x : Float) → T (fits binary32 x) → T (finite x) → T (fits binary64 x && not (is_nan x))
unfolding is_nan
finite_widens x F h = and_i (fits binary64 x) (not (is_nan x)) (fits_widens x F) (go x h)
  where
    go : (x : Float) → T (finite x) → T (not (is_nan x))
    go nan h = absurd h
    go (inf s) h = absurd h
    go (fin s m e) h = tt

-- ---- a difference that is q * 2 ^ j units
pub sub_exact : (f : Format) (x y : Float) (X Y q j : ℕ) → HasValue x false X (2 ^ low f) → HasValue y false Y (2 ^ low f) → Y ≤ X → X < overflow f → X - Y ≡ q * 2 ^ j → q < 2 ^ prec f
    → HasValue (sub f x y) false (X - Y) (2 ^ low f)
sub_exact f x y X Y q j h k le top e small =
    let L = 2 ^ low f in
    let Lp : 0 < L = pow_pos (low f) in
    let is : sub f x y ≡ round f false (X - Y) L =
    sub_at f x y X L Y L Lp Lp h k (mul-le-mul_right L le)
    ∙ round_same f false (X * L - Y * L) (L * L) (X - Y) L (mul-pos Lp Lp) Lp (ap (λ (z : ℕ). z * L) (sym (sub_mul X Y L)) ∙ mul_assoc (X - Y) L L) in
    subst (λ (z : Float). HasValue z false (X - Y) L) (sym is)
    (round_exact f false (X - Y) L q j Lp small (lt_of_le_of_lt (le_of_eq (sym e)) (lt_of_le_of_lt (less X Y) top)) (ap (λ (z : ℕ). z * L) e))
  where
    less : (a b : ℕ) → a - b ≤ a
    less a b = omega arith

-- q1 * 2 ^ j1 - q2 * 2 ^ j2, with j2 ≤ j1, is a multiple of 2 ^ j2; and the other way round
lower_unit : (p i r q : ℕ) → p * 2 ^ (i + r) - q * 2 ^ r ≡ (p * 2 ^ i - q) * 2 ^ r
lower_unit p i r q = ap (λ (z : ℕ). z - q * 2 ^ r) (ap (λ (z : ℕ). p * z) (pow-add 2 i r) ∙ sym (mul_assoc p (2 ^ i) (2 ^ r))) ∙ sym (sub_mul (p * 2 ^ i) q (2 ^ r))

upper_unit : (p i r q : ℕ) → p * 2 ^ r - q * 2 ^ (i + r) ≡ (p - q * 2 ^ i) * 2 ^ r
upper_unit p i r q = ap (λ (z : ℕ). p * 2 ^ r - z) (ap (λ (z : ℕ). q * z) (pow-add 2 i r) ∙ sym (mul_assoc q (2 ^ i) (2 ^ r))) ∙ sym (sub_mul p (q * 2 ^ i) (2 ^ r))

-- Sterbenz: y ≤ x ≤ 2 y
pub sterbenz : (f : Format) (x y : Float) (u : Units f false x) (v : Units f false y) → v.q * 2 ^ v.j ≤ u.q * 2 ^ u.j → u.q * 2 ^ u.j ≤ 2 * (v.q * 2 ^ v.j)
    → HasValue (sub f x y) false (u.q * 2 ^ u.j - v.q * 2 ^ v.j) (2 ^ low f)
sterbenz f x y u v le twice = go (either v.j u.j)
  where
    back : (a l : ℕ) → l ≤ a → a - l + l ≡ a
    back a l h = omega arith

    half : (X Y : ℕ) → X ≤ 2 * Y → X - Y ≤ Y
    half X Y h = omega arith

    less : (a b : ℕ) → a - b ≤ a
    less a b = omega arith

    go : (v.j ≤ u.j) ⊎ (u.j ≤ v.j) → HasValue (sub f x y) false (u.q * 2 ^ u.j - v.q * 2 ^ v.j) (2 ^ low f)
    go (inl h) =
        let X = u.q * 2 ^ u.j in
        let Y = v.q * 2 ^ v.j in
        let q = u.q * 2 ^ (u.j - v.j) - v.q in
        let e : X - Y ≡ q * 2 ^ v.j = ap (λ (z : ℕ). u.q * 2 ^ z - Y) (sym (back u.j v.j h)) ∙ lower_unit u.q (u.j - v.j) v.j v.q in
        sub_exact f x y X Y q v.j u.value v.value le u.fine e
        (lt_of_le_of_lt (le_of_mul-le-mul_right (le_trans (le_of_eq (sym e)) (half X Y twice)) (pow_pos v.j)) v.small)
    go (inr h) =
        let X = u.q * 2 ^ u.j in
        let Y = v.q * 2 ^ v.j in
        let q = u.q - v.q * 2 ^ (v.j - u.j) in
        let e : X - Y ≡ q * 2 ^ u.j = ap (λ (z : ℕ). X - v.q * 2 ^ z) (sym (back v.j u.j h)) ∙ upper_unit u.q (v.j - u.j) u.j v.q in
        sub_exact f x y X Y q u.j u.value v.value le u.fine e (lt_of_le_of_lt (less u.q (v.q * 2 ^ (v.j - u.j))) u.small)
