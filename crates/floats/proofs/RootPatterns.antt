-- The number of a finite pattern without a sign, and the pattern of its root, over the format. Assumes nothing.
use Rattle.std.proofs.Common.{◌≡◌, ℕ, zero, suc, ◌+◌, ◌-◌, ◌*◌, ◌/◌, ◌%◌, ◌^◌, ◌<◌, ◌≤◌, true, false, not, T, sym, refl, ap, ◌∙◌, true≢false, le_trans, le_of_eq, lt_of_le_of_lt, mul-le-mul_right, mul_assoc, mul_comm, mul-le-mul_left, mul-pos, mul_left_comm, arith, pow_pos, pow-add}
use lib.Pow.{pow-lt}
use lib.Ieee.{Float, nan, inf, fin, Format, binary32, binary64, prec, emax, hid, ones, top, low, up, down, of_bits, nan_bits}
use lib.Ieee.Exact.{HasValue}
use lib.Ieee.Fits.{down_pos}
use Rattle.floats.specs.Root.{round_root, sqrt_of}
use Rattle.floats.specs.Inner.Roots.{RootDigits, Unpacked}
use Rattle.floats.proofs.Patterns.{pattern_ok, value_low, value_high, units_bits}
use Rattle.floats.proofs.RoundedRoot.{four, near_low, near_high, round_root_at}

-- the two forms of a pattern: with no leading digit, and with one
pub unpacked_low : (f : Format) (b : ℕ) → 0 < b → b < ones f * hid f → b / hid f ≡ 0 → Unpacked f b (b % hid f) 0
unpacked_low binary32 b p h e = record { value = value_low binary32 b (omega arith) e; some = omega arith; digits = omega arith; few = omega arith }
unpacked_low binary64 b p h e = record { value = value_low binary64 b (omega arith) e; some = omega arith; digits = omega arith; few = omega arith }

pub unpacked_high : (f : Format) (b : ℕ) → b < ones f * hid f → (b / hid f ≡ 0 → ⊥) → Unpacked f b (hid f + b % hid f) (b / hid f - 1)
unpacked_high binary32 b h n = record { value = value_high binary32 b (omega arith) (b / 8388608 - 1) (omega arith) (omega arith); some = omega arith; digits = omega arith; few = omega arith }
unpacked_high binary64 b h n = record { value = value_high binary64 b (omega arith) (b / 4503599627370496 - 1) (omega arith) (omega arith); some = omega arith; digits = omega arith; few = omega arith }

-- ---- the number under the root: one binary digit more where the exponent is odd
module _ (m e : ℕ) (p : 0 < m) where
  pub under_some : 0 < m * (1 + e % 2)
  under_some = mul-pos p (omega arith)

  pub under_small : (most : ℕ) → m < most → m * (1 + e % 2) < 2 * most
  under_small most h = let parity : 1 + e % 2 ≤ 2 = omega arith in let l = mul-le-mul_left m parity in omega arith

pow_split : (e : ℕ) → 2 ^ e ≡ (1 + e % 2) * 4 ^ (e / 2)
pow_split e =
    let halves : e ≡ e % 2 + (e / 2 + e / 2) = omega arith in
    ap (λ (x : ℕ). 2 ^ x) halves ∙ pow-add 2 (e % 2) (e / 2 + e / 2) ∙ ap (λ (x : ℕ). x * 2 ^ (e / 2 + e / 2)) (parity (e % 2) (omega arith)) ∙ ap (λ (x : ℕ). (1 + e % 2) * x) (pow-add 2 (e / 2) (e / 2) ∙ sym (four (e / 2)))
  where
    parity : (r : ℕ) → r < 2 → 2 ^ r ≡ 1 + r
    parity zero h = refl
    parity (suc zero) h = refl
    parity (suc (suc r)) h = omega arith

-- m * 2 ^ e / 2 ^ l is m * (1 or 2) * 4 ^ ((l + e) / 2) / 4 ^ l
scaled : (l m e num den : ℕ) → num * 2 ^ l ≡ m * 2 ^ e * den → num * 4 ^ l ≡ m * (1 + (l + e) % 2) * 4 ^ ((l + e) / 2) * den
scaled l m e num den g =
    ap (λ (x : ℕ). num * x) (four l) ∙ go (2 ^ l) (2 ^ e) (1 + (l + e) % 2) (4 ^ ((l + e) / 2)) (sym (pow-add 2 l e) ∙ pow_split (l + e)) g
  where
    go : (a p r k : ℕ) → a * p ≡ r * k → num * a ≡ m * p * den → num * (a * a) ≡ m * r * k * den
    go a p r k f g = sym (mul_assoc num a a) ∙ ap (λ (x : ℕ). x * a) g ∙ gather a p ∙ ap (λ (x : ℕ). m * x * den) f ∙ ap (λ (x : ℕ). x * den) (sym (mul_assoc m r k))
      where
        gather : (a p : ℕ) → m * p * den * a ≡ m * (a * p) * den
        gather a p = simp (mul_assoc, mul_comm, mul_left_comm)

-- ---- the pattern of the root
module _ (f : Format) (b m e q s : ℕ) (u : Unpacked f b m e) (d : RootDigits f (m * (1 + (low f + e) % 2)) q s) where
  abbrev c : ℕ
  c = (low f + e) / 2

  abbrev k : ℕ
  k = c - s

  least : 2 ^ (prec f - 1) ≤ q
  least = near_low _ q (2 ^ (prec f - 1)) d.least d.nearest_root

  most : q ≤ 2 ^ prec f
  most = near_high _ q (2 ^ prec f) d.most d.nearest_root

  sum : s + k ≡ c
  sum = go f s e d.few
    where
      go : (f : Format) (s e : ℕ) → s < prec f → s + ((low f + e) / 2 - s) ≡ (low f + e) / 2
      go binary32 s e h = omega arith
      go binary64 s e h = omega arith

  pub root_pattern_most : k * hid f + q < ones f * hid f
  root_pattern_most = go f s e q most u.few
    where
      go : (f : Format) (s e q : ℕ) → q ≤ 2 ^ prec f → e < 2 * emax f → ((low f + e) / 2 - s) * hid f + q < ones f * hid f
      go binary32 s e q h l = omega arith
      go binary64 s e q h l = omega arith

  pub root_pattern_ok : T (not (nan_bits f (k * hid f + q)))
  root_pattern_ok = pattern_ok f (k * hid f + q) (go f (k * hid f + q) root_pattern_most) (go' (k * hid f + q) (ones f * hid f) root_pattern_most)
    where
      go : (f : Format) (n : ℕ) → n < ones f * hid f → n < top f
      go binary32 n h = omega arith
      go binary64 n h = omega arith

      go' : (a b : ℕ) → a < b → a ≤ b
      go' a b h = omega arith

  root_at_lem : (num den : ℕ) → 0 < den → num * 2 ^ low f ≡ m * 2 ^ e * den → round_root f num den ≡ of_bits f (k * hid f + q)
  root_at_lem num den D g =
      let n = m * (1 + (low f + e) % 2) in
      let whole : n * 4 ^ c ≡ n * 4 ^ s * 4 ^ k = ap (λ (x : ℕ). n * x) (ap (λ (x : ℕ). 4 ^ x) (sym sum) ∙ pow-add 4 s k) ∙ sym (mul_assoc n (4 ^ s) (4 ^ k)) in
      round_root_at f num den (n * 4 ^ s) k q D (scaled (low f) m e num den g ∙ ap (λ (x : ℕ). x * den) whole) d.least d.most d.nearest_root
      ∙ units_bits f q k least most (lt_of_le_of_lt (le_trans (mul-le-mul_right (2 ^ k) most) (le_of_eq (sym (pow-add 2 (prec f) k)))) (pow-lt (fine f s e u.few)))
    where
      fine : (f : Format) (s e : ℕ) → e < 2 * emax f → prec f + ((low f + e) / 2 - s) < low f + suc (emax f)
      fine binary32 s e h = omega arith
      fine binary64 s e h = omega arith

  root_of_value : (x : Float) → HasValue x false (m * 2 ^ e) (2 ^ low f) → of_bits f (k * hid f + q) ≡ sqrt_of f x
  unfolding sqrt_of
  root_of_value nan v = absurd v
  root_of_value (inf s) v = absurd v
  root_of_value (fin true m e) v = absurd (true≢false v.0)
  root_of_value (fin false zero e') v = absurd (none (m * 2 ^ e) (2 ^ low f) (up e') (down e') (mul-pos (mul-pos u.some (pow_pos e)) (down_pos e')) v.1)
    where
      none : (n t u d : ℕ) → 0 < n * d → 0 * u * t ≡ n * d → ⊥
      none n t u d p e = omega arith
  root_of_value (fin false (suc m) e) v = sym (root_at_lem (suc m * up e) (down e) (down_pos e) v.1)

  pub root_pattern_is : of_bits f (k * hid f + q) ≡ sqrt_of f (of_bits f b)
  root_pattern_is = root_of_value (of_bits f b) u.value
