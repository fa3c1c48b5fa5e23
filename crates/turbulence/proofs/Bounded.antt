-- How large a rounded sum, product or quotient can be: up to the size of the exact one, where the format holds that size.
use Prim.Native.Nat.{ℕ, zero, suc, ◌+◌, ◌-◌, ◌*◌, ◌^◌, ◌≤◌, ◌<◌}
use mathlib.Core.Path.{◌≡◌, sym, ap, ◌∙◌, subst}
use mathlib.Core.Bool.{Bool, true, false, cond, ◌&&◌, beq}
use native.Mathlib.Nat.{le_trans, le_of_eq, zero-lt-suc, mul-one, zero-mul, mul-zero, mul_assoc, mul_comm, mul_left_comm, mul_right_comm, mul-mul-mul_comm, mul-pos, mul-le-mul, mul-le-mul_right, le_of_mul-le-mul_right, add-mul}
use native.Mathlib.Omega.{arith}
use borrow.Author.Tests.{ne_eqb}
use lib.Dec.{T, ltb}
use lib.Pow.{pow_pos}
use lib.Ieee.{Float, nan, inf, fin, Format, prec, low, up, down, round, sum, add, mul, div, unlike}
use lib.Ieee.Back.{round_whole}
use lib.Ieee.Exact.{HasValue, units_val}
use lib.Ieee.Fits.{down_pos, round_is}
use lib.Ieee.Order.{kept, drop}
use lib.Ieee.Scale.{grid, overflow, finite, round_val, round_under}
use Rattle.floats.proofs.CutAfterRounding.{round_between}
use Rattle.floats.proofs.SumTests.{units_are}

-- finite, and of the size n at most
abbrev pub UpTo : ℕ → Float → Type 0
UpTo n nan = ⊥
UpTo n (inf s) = ⊥
UpTo n (fin s m e) = m * up e ≤ n * down e

value_finite : (x : Float) (s : Bool) (a c : ℕ) → HasValue x s a c → T (finite x)
value_finite nan s a c h = absurd h
value_finite (inf t) s a c h = absurd h
value_finite (fin t m e) s a c h = tt

value_up_to : (x : Float) (s : Bool) (u l n : ℕ) → 0 < l → HasValue x s u l → u ≤ n * l → UpTo n x
value_up_to nan s u l n L h k = absurd h
value_up_to (inf t) s u l n L h k = absurd h
value_up_to (fin t m e) s u l n L h k = le_of_mul-le-mul_right (le_trans (le_of_eq h.1) (le_trans (mul-le-mul_right (down e) k) (le_of_eq (mul_right_comm n l (down e))))) L

pub round_up_to : (f : Format) (s : Bool) (a c n : ℕ) → 0 < c → n ≤ 2 ^ prec f → a ≤ n * c → UpTo n (round f s a c)
round_up_to f s a c n C most h =
    let one : 0 < 1 = zero-lt-suc 0 in
    let b = round_between f 0 1 a c n 1 one C one (round_whole f false 0 (nothing (2 ^ prec f))) (round_whole f false n most) (none a c) (le_trans (le_of_eq (mul-one a)) h) in
    let under : grid f a c < overflow f = round_under f a c (value_finite (round f false a c) false b.units (2 ^ low f) b.value) in
    let same : grid f a c ≡ b.units = sym (units_are f (round f false a c) false (grid f a c) (round_val f a c under)) ∙ units_are f (round f false a c) false b.units b.value in
    let value : HasValue (round f s a c) s (grid f a c) (2 ^ low f) =
    subst (λ (z : Float). HasValue z s (grid f a c) (2 ^ low f)) (sym (round_is f s a c)) (units_val f s (kept (prec f) (a * 2 ^ low f) c) (drop (prec f) (a * 2 ^ low f) c) under) in
    value_up_to (round f s a c) s (grid f a c) (2 ^ low f) n (pow_pos (low f)) value (le_trans (le_of_eq same) (le_trans (le_of_eq (sym (mul-one b.units))) b.to))
  where
    nothing : (p : ℕ) → 0 ≤ p
    nothing p = omega arith

    none : (a c : ℕ) → 0 * c ≤ a * 1
    none a c = omega arith

-- ---- a sum
module _ (f : Format) (a b : ℕ) (most : a + b ≤ 2 ^ prec f) where
  sum_up_to : (s t : Bool) (p q c : ℕ) → 0 < c → p ≤ a * c → q ≤ b * c → UpTo (a + b) (sum f s p t q c)
  unfolding sum
  sum_up_to s t p q c C h k = go (beq s t) (ltb p q)
    where
      whole : (p q c : ℕ) → p ≤ a * c → q ≤ b * c → p + q ≤ (a + b) * c
      whole p q c h k = let e = add-mul a b c in omega arith

      less : (p q c : ℕ) → p ≤ a * c → q ≤ b * c → p - q ≤ (a + b) * c
      less p q c h k = let e = add-mul a b c in omega arith

      less' : (p q c : ℕ) → p ≤ a * c → q ≤ b * c → q - p ≤ (a + b) * c
      less' p q c h k = let e = add-mul a b c in omega arith

      go : (u v : Bool) → UpTo (a + b) (cond u (round f s (p + q) c) (cond v (round f t (q - p) c) (round f (s && ltb q p) (p - q) c)))
      go true v = round_up_to f s (p + q) c (a + b) C most (whole p q c h k)
      go false true = round_up_to f t (q - p) c (a + b) C most (less' p q c h k)
      go false false = round_up_to f (s && ltb q p) (p - q) c (a + b) C most (less p q c h k)

  crossed : (n d k e : ℕ) → n ≤ k * d → n * e ≤ k * (d * e)
  crossed n d k e h = le_trans (mul-le-mul_right e h) (le_of_eq (mul_assoc k d e))

  pub add_up_to : (x y : Float) → UpTo a x → UpTo b y → UpTo (a + b) (add f x y)
  unfolding add
  add_up_to nan y h k = absurd h
  add_up_to (inf s) y h k = absurd h
  add_up_to (fin s m e) nan h k = absurd k
  add_up_to (fin s m e) (inf t) h k = absurd k
  add_up_to (fin s m e) (fin t n d) h k =
      sum_up_to s t (m * up e * down d) (n * up d * down e) (down e * down d) (mul-pos (down_pos e) (down_pos d)) (crossed (m * up e) (down e) a (down d) h)
      (le_trans (crossed (n * up d) (down d) b (down e) k) (le_of_eq (ap (λ (z : ℕ). b * z) (mul_comm (down d) (down e)))))

-- ---- a product
pub mul_up_to : (f : Format) (a b : ℕ) → a * b ≤ 2 ^ prec f → (x y : Float) → UpTo a x → UpTo b y → UpTo (a * b) (mul f x y)
unfolding mul
mul_up_to f a b most nan y h k = absurd h
mul_up_to f a b most (inf s) y h k = absurd h
mul_up_to f a b most (fin s m e) nan h k = absurd k
mul_up_to f a b most (fin s m e) (inf t) h k = absurd k
mul_up_to f a b most (fin s m e) (fin t n d) h k =
    round_up_to f (unlike s t) (m * up e * (n * up d)) (down e * down d) (a * b) (mul-pos (down_pos e) (down_pos d)) most
    (le_trans (mul-le-mul h k) (le_of_eq (mul-mul-mul_comm a (down e) b (down d))))

-- ---- a quotient by what is 1 / r at least
abbrev pub AtLeast : ℕ → Float → Type 0
AtLeast r nan = ⊥
AtLeast r (inf s) = ⊥
AtLeast r (fin s n d) = down d ≤ r * (n * up d)

pub div_up_to : (f : Format) (a r : ℕ) → a * r ≤ 2 ^ prec f → (x y : Float) → UpTo a x → AtLeast r y → UpTo (a * r) (div f x y)
unfolding div
div_up_to f a r most nan y h k = absurd h
div_up_to f a r most (inf s) y h k = absurd h
div_up_to f a r most (fin s m e) nan h k = absurd k
div_up_to f a r most (fin s m e) (inf t) h k = absurd k
div_up_to f a r most (fin s m e) (fin t zero d) h k = absurd (none r (up d) (down d) (down_pos d) k)
  where
    none : (r u d : ℕ) → 0 < d → d ≤ r * (0 * u) → ⊥
    none r u d p h = let e : r * (0 * u) ≡ 0 = ap (λ (z : ℕ). r * z) (zero-mul u) ∙ mul-zero r in omega arith
div_up_to f a r most (fin s m e) (fin t (suc n) d) h k =
    rw (ne_eqb (suc n) 0 (λ z. not_zero z))
    (round_up_to f (unlike s t) (m * up e * down d) (suc n * up d * down e) (a * r) (some (suc n * up d) r (down d) (down_pos d) k) most
    (le_trans (mul-le-mul h k) (le_of_eq (turned a (down e) r (suc n * up d)))))
  where
    not_zero : suc n ≡ 0 → ⊥
    not_zero z = omega arith

    turned : (a e r n : ℕ) → a * e * (r * n) ≡ a * r * (n * e)
    turned a e r n = simp (mul_assoc, mul_comm, mul_left_comm)

    some : (n r d : ℕ) → 0 < d → d ≤ r * n → 0 < n * down e
    some zero r d p h = absurd (gone d (r * 0) p h (mul-zero r))
      where
        gone : (d z : ℕ) → 0 < d → d ≤ z → z ≡ 0 → ⊥
        gone d z p h e = omega arith
    some (suc n) r d p h = mul-pos (zero-lt-suc n) (down_pos e)
