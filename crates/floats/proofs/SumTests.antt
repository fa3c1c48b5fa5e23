-- Whether mid + lo reaches a bound, for lo ≤ mid: the bound less mid is exact from mid to 2 mid (Sterbenz), and beyond that the answer is known. Assumes nothing.
use Rattle.std.proofs.Common.{◌≡◌, ℕ, suc, ◌+◌, ◌-◌, ◌*◌, ◌/◌, ◌^◌, ◌<◌, ◌≤◌, Bool, true, false, not, T, leb, ◌⊎◌, sym, refl, ap, ◌∙◌, subst, inl, inr, true≢false, le_trans, le_of_eq, lt_of_le_of_lt, le_of_lt, mul-le-mul_right, mul_assoc, mul_comm, lt_of_mul-lt-mul_right, mul-le-mul_left, mul-pos, pow-suc, not-le_of_lt, le_of_mul-le-mul_right, mul-div_cancel, mul_left_comm, arith, lit≤, le→leb, leb→le, pow_pos}
use lib.Dec.{nleb→lt}
use lib.Pow.{pow-lt}
use lib.Ieee.{Float, nan, inf, fin, Format, binary64, low, up, down, round, add, sub, le, lt, fits}
use lib.Ieee.Fits.{down_pos, round-fits}
use lib.Ieee.Exact.{HasValue, round_exact}
use lib.Ieee.Order.{transfer, le_of_values, round_mono}
use lib.Ieee.Scale.{round_same, overflow}
use Rattle.floats.specs.Unit.{in_units}
use Rattle.floats.proofs.Away.{le_cross}
use Rattle.floats.specs.Inner.Steps.{plain}
use Rattle.floats.proofs.Tests.{is_true, is_false, same_test, either, sub_mul}
use Rattle.floats.proofs.Fractions.{add_at, sub_at, lt_yes, lt_no}
use Rattle.floats.proofs.Units.{Units, Finite, in_units_lem, sterbenz, value_unique}

-- ---- the order, as one of numbers of one unit
pub le_value : (x y : Float) (a b c : ℕ) → 0 < c → HasValue x false a c → HasValue y false b c → T (le x y) → a ≤ b
unfolding le
le_value nan y a b c C h k l = absurd h
le_value (inf s) y a b c C h k l = absurd h
le_value (fin s m e) nan a b c C h k l = absurd k
le_value (fin s m e) (inf t) a b c C h k l = absurd k
le_value (fin true m e) (fin t n g) a b c C h k l = absurd (true≢false h.0)
le_value (fin false m e) (fin true n g) a b c C h k l = absurd (true≢false k.0)
le_value (fin false m e) (fin false n g) a b c C h k l =
    le_of_mul-le-mul_right (transfer a b c c (m * up e) (n * up g) (down e) (down g) (down_pos e) (down_pos g) (sym h.1) (sym k.1) (le_cross (m * up e * down g) (n * up g * down e) true l)) C

pub le_same : (x y : Float) (a b c : ℕ) → 0 < c → HasValue x false a c → HasValue y false b c → le x y ≡ leb a b
le_same x y a b c C h k = same_test (le x y) (leb a b) (λ t. le→leb a b (le_value x y a b c C h k t)) (λ t. le_of_values x y a c b c C C h k (mul-le-mul_right c (leb→le a b t)))

-- ---- a plain value in units
pub plain_finite : (x : Float) → T (plain x) → Finite x false
plain_finite nan h = absurd h
plain_finite (inf s) h = absurd h
plain_finite (fin true m e) h = absurd h
plain_finite (fin false m e) h = refl

pub units_are : (f : Format) (x : Float) (s : Bool) (A : ℕ) → HasValue x s A (2 ^ low f) → in_units f x ≡ A
units_are f nan s A h = absurd h
units_are f (inf t) s A h = absurd h
units_are f (fin t m e) s A h = ap (λ (z : ℕ). z / down e) h.1 ∙ mul-div_cancel A (down_pos e)

-- a value of the format rounds to itself
round_self : (f : Format) (x : Float) → T (fits f x) → (v : Units f false x) → x ≡ round f false (v.q * 2 ^ v.j) (2 ^ low f)
round_self f x F v =
    let A = v.q * 2 ^ v.j in
    value_unique f x (round f false A (2 ^ low f)) false A (2 ^ low f) (pow_pos (low f)) F (round-fits f false A (2 ^ low f)) v.value
    (round_exact f false A (2 ^ low f) v.q v.j (pow_pos (low f)) v.small v.fine refl)

under : (A B R L : ℕ) → B ≤ A → 2 * A ≤ R → B * (L * L) ≤ (R * L - A * L) * L
under A B R L b k = le_trans (mul-le-mul_right (L * L) (go A B R b k)) (le_of_eq (sym (mul_assoc (R - A) L L) ∙ ap (λ (z : ℕ). z * L) (sub_mul R A L)))
  where
    go : (A B R : ℕ) → B ≤ A → 2 * A ≤ R → B ≤ R - A
    go A B R h k = omega arith

doubled : (f : Format) (x : Float) (v : Units f false x) → 2 * (v.q * 2 ^ v.j) < overflow f → HasValue (add f x x) false (2 * (v.q * 2 ^ v.j)) (2 ^ low f)
doubled f x v o =
    let A = v.q * 2 ^ v.j in
    let L = 2 ^ low f in
    let Lp : 0 < L = pow_pos (low f) in
    let is : add f x x ≡ round f false (2 * A) L = add_at f x x A L A L Lp Lp v.value v.value ∙ round_same f false (A * L + A * L) (L * L) (2 * A) L (mul-pos Lp Lp) Lp (twice A L) in
    let e : 2 * A ≡ v.q * 2 ^ suc v.j = mul_left_comm 2 v.q (2 ^ v.j) ∙ ap (λ (z : ℕ). v.q * z) (mul_comm 2 (2 ^ v.j) ∙ sym (pow-suc 2 v.j)) in
    subst (λ (z : Float). HasValue z false (2 * A) L) (sym is)
    (round_exact f false (2 * A) L v.q (suc v.j) Lp v.small (lt_of_le_of_lt (le_of_eq (sym e)) o) (ap (λ (z : ℕ). z * L) e))
  where
    twice : (A L : ℕ) → (A * L + A * L) * L ≡ 2 * A * (L * L)
    twice A L = go (A * L) ∙ shuffle A L
      where
        go : (n : ℕ) → (n + n) * L ≡ 2 * n * L
        go n = ap (λ (z : ℕ). z * L) (two n)
          where
            two : (n : ℕ) → n + n ≡ 2 * n
            two n = omega arith

        shuffle : (A L : ℕ) → 2 * (A * L) * L ≡ 2 * A * (L * L)
        shuffle A L = ap (λ (z : ℕ). z * L) (sym (mul_assoc 2 A L)) ∙ mul_assoc (2 * A) L L

pub lt_value : (x y : Float) (a b c : ℕ) → 0 < c → HasValue x false a c → HasValue y false b c → T (lt x y) → a < b
lt_value x y a b c C h k t = lt_of_mul-lt-mul_right c (lt_yes x y a c b c C C h k t)

pub not_lt_value : (x y : Float) (a b c : ℕ) → 0 < c → HasValue x false a c → HasValue y false b c → T (not (lt x y)) → b ≤ a
not_lt_value x y a b c C h k t = le_of_mul-le-mul_right (lt_no x y a c b c h k t) C

module _ (mid lo bound : Float) (F : T (fits binary64 mid)) (G : T (fits binary64 lo)) (H : T (fits binary64 bound)) (p : T (plain mid)) (q : T (plain lo)) (r : T (plain bound)) (l : in_units binary64 lo ≤ in_units binary64 mid) where
  u : Units binary64 false mid
  u = in_units_lem binary64 false mid F (plain_finite mid p)

  v : Units binary64 false lo
  v = in_units_lem binary64 false lo G (plain_finite lo q)

  w : Units binary64 false bound
  w = in_units_lem binary64 false bound H (plain_finite bound r)

  abbrev A : ℕ
  A = u.q * 2 ^ u.j

  abbrev B : ℕ
  B = v.q * 2 ^ v.j

  abbrev R : ℕ
  R = w.q * 2 ^ w.j

  a_is : in_units binary64 mid ≡ A
  a_is = units_are binary64 mid false A u.value

  b_is : in_units binary64 lo ≡ B
  b_is = units_are binary64 lo false B v.value

  r_is : in_units binary64 bound ≡ R
  r_is = units_are binary64 bound false R w.value

  in_order : B ≤ A
  in_order = subst (λ (z : ℕ). z ≤ A) b_is (subst (λ (z : ℕ). in_units binary64 lo ≤ z) a_is l)

  -- mid + lo ≤ bound
  most_is : leb (in_units binary64 mid + in_units binary64 lo) (in_units binary64 bound) ≡ leb (A + B) R
  most_is = ap (λ (z : ℕ). leb (z + in_units binary64 lo) (in_units binary64 bound)) a_is ∙ ap (λ (z : ℕ). leb (A + z) (in_units binary64 bound)) b_is ∙ ap (λ (z : ℕ). leb (A + B) z) r_is

  -- mid is more than `bound`
  pub mid_above : T (not (le mid bound)) → false ≡ leb (in_units binary64 mid + in_units binary64 lo) (in_units binary64 bound)
  mid_above n = is_false (leb (A + B) R) (λ t. not-le_of_lt (nleb→lt A R (subst (λ (b : Bool). T (not b)) (le_same mid bound A R (2 ^ 1074) (pow_pos 1074) u.value w.value) n)) (le_trans (more A B) (leb→le (A + B) R t))) ∙ sym most_is
    where
      more : (a b : ℕ) → a ≤ a + b
      more a b = omega arith

  inside : T (le mid bound) → A ≤ R
  inside t = leb→le A R (subst T (le_same mid bound A R (2 ^ 1074) (pow_pos 1074) u.value w.value) t)

  -- the difference is rounded, and still no less than lo
  rounded : B ≤ A → 2 * A ≤ R → T (le lo (sub binary64 bound mid))
  rounded b k =
      let L = 2 ^ 1074 in
      let Lp : 0 < L = pow_pos 1074 in
      let d-is : sub binary64 bound mid ≡ round binary64 false (R * L - A * L) (L * L) = sub_at binary64 bound mid R L A L Lp Lp w.value u.value (mul-le-mul_right L (half A R k)) in
      subst (λ (z : Float). T (le lo z)) (sym d-is)
      (subst (λ (z : Float). T (le z (round binary64 false (R * L - A * L) (L * L)))) (sym (round_self binary64 lo G v))
      (round_mono binary64 B L (R * L - A * L) (L * L) Lp (mul-pos Lp Lp) (under A B R L b k)))
    where
      half : (A R : ℕ) → 2 * A ≤ R → A ≤ R
      half A R h = omega arith

  pub most_tested : T (le mid bound) → le lo (sub binary64 bound mid) ≡ leb (in_units binary64 mid + in_units binary64 lo) (in_units binary64 bound)
  most_tested t = go (either R (2 * A))
    where
      h : A ≤ R
      h = inside t

      same : (A B R : ℕ) → A ≤ R → leb B (R - A) ≡ leb (A + B) R
      same A B R h = same_test (leb B (R - A)) (leb (A + B) R) (λ t. le→leb (A + B) R (go1 A B R h (leb→le B (R - A) t))) (λ t. le→leb B (R - A) (go2 A B R (leb→le (A + B) R t)))
        where
          go1 : (A B R : ℕ) → A ≤ R → B ≤ R - A → A + B ≤ R
          go1 A B R h k = omega arith

          go2 : (A B R : ℕ) → A + B ≤ R → B ≤ R - A
          go2 A B R h = omega arith

      fits_in : (A B R : ℕ) → B ≤ A → 2 * A ≤ R → A + B ≤ R
      fits_in A B R h k = omega arith

      go : (R ≤ 2 * A) ⊎ (2 * A ≤ R) → le lo (sub binary64 bound mid) ≡ leb (in_units binary64 mid + in_units binary64 lo) (in_units binary64 bound)
      go (inl k) = le_same lo (sub binary64 bound mid) B (R - A) (2 ^ 1074) (pow_pos 1074) v.value (sterbenz binary64 bound mid w u h k) ∙ same A B R h ∙ sym most_is
      go (inr k) = sym (is_true (le lo (sub binary64 bound mid)) (rounded in_order k)) ∙ is_true (leb (A + B) R) (le→leb (A + B) R (fits_in A B R in_order k)) ∙ sym most_is

  -- bound ≤ mid + lo
  least_is : leb (in_units binary64 bound) (in_units binary64 mid + in_units binary64 lo) ≡ leb R (A + B)
  least_is = ap (λ (z : ℕ). leb z (in_units binary64 mid + in_units binary64 lo)) r_is ∙ ap (λ (z : ℕ). leb R (z + in_units binary64 lo)) a_is ∙ ap (λ (z : ℕ). leb R (A + z)) b_is

  pub mid_reaches : T (le bound mid) → true ≡ leb (in_units binary64 bound) (in_units binary64 mid + in_units binary64 lo)
  mid_reaches t = is_true (leb R (A + B)) (le→leb R (A + B) (more R A B (le_value bound mid R A (2 ^ 1074) (pow_pos 1074) w.value u.value t))) ∙ sym least_is
    where
      more : (s a b : ℕ) → s ≤ a → s ≤ a + b
      more s a b h = omega arith

  beneath : T (not (le bound mid)) → A < R
  beneath t = nleb→lt R A (subst (λ (b : Bool). T (not b)) (le_same bound mid R A (2 ^ 1074) (pow_pos 1074) w.value u.value) t)

  two_mid : in_units binary64 mid ≤ 2 ^ 1075 → HasValue (add binary64 mid mid) false (2 * A) (2 ^ 1074)
  two_mid top = doubled binary64 mid u (lt_of_le_of_lt (mul-le-mul_left 2 (subst (λ (z : ℕ). z ≤ 2 ^ 1075) a_is top)) (pow-lt {i = 1076} {j = 2098} (lit≤ tt)))

  pub twice_mid_below : in_units binary64 mid ≤ 2 ^ 1075 → T (lt (add binary64 mid mid) bound) → false ≡ leb (in_units binary64 bound) (in_units binary64 mid + in_units binary64 lo)
  twice_mid_below top t = is_false (leb R (A + B)) (λ y. go R A B in_order (lt_value (add binary64 mid mid) bound (2 * A) R (2 ^ 1074) (pow_pos 1074) (two_mid top) w.value t) (leb→le R (A + B) y)) ∙ sym least_is
    where
      go : (s a b : ℕ) → b ≤ a → 2 * a < s → s ≤ a + b → ⊥
      go s a b h k m = omega arith

  pub least_tested : in_units binary64 mid ≤ 2 ^ 1075 → T (not (le bound mid)) → T (not (lt (add binary64 mid mid) bound)) → le (sub binary64 bound mid) lo ≡ leb (in_units binary64 bound) (in_units binary64 mid + in_units binary64 lo)
  least_tested top n t =
      le_same (sub binary64 bound mid) lo (R - A) B (2 ^ 1074) (pow_pos 1074)
      (sterbenz binary64 bound mid w u (le_of_lt (beneath n)) (not_lt_value (add binary64 mid mid) bound (2 * A) R (2 ^ 1074) (pow_pos 1074) (two_mid top) w.value t))
      v.value
      ∙ same_test (leb (R - A) B) (leb R (A + B)) (λ y. le→leb R (A + B) (go1 R A B (leb→le (R - A) B y))) (λ y. le→leb (R - A) B (go2 R A B (leb→le R (A + B) y)))
      ∙ sym least_is
    where
      go1 : (s a b : ℕ) → s - a ≤ b → s ≤ a + b
      go1 s a b h = omega arith

      go2 : (s a b : ℕ) → s ≤ a + b → s - a ≤ b
      go2 s a b h = omega arith
