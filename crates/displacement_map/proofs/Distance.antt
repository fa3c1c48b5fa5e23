-- A target lies within D less one of its own column or row, and far inside the range of an `i32`. Assumes nothing.
use Rattle.std.proofs.Common.{◌≡◌, ℕ, zero, suc, ◌+◌, ◌-◌, ◌*◌, ◌%◌, ◌^◌, ◌<◌, ◌≤◌, Bool, true, false, cond, not, ◌&&◌, T, ltb, leb, ℤ, pos, negsuc, ◌-ℤ◌, nat_abs, sym, refl, ap, ◌∙◌, subst, le_of_lt, mul-le-mul_right, mod-lt, zero-lt-suc, suc-mul, div-lt_iff_lt-mul, mul-le-mul, lt_of_mul-lt-mul_right, mul-le-mul_left, mul-pos, one-mul, div-add-mod', mul-one, arith, lit<, lit≤, ltb→lt, leb→le, nltb→le}
use lib.Ieee.{Float, nan, inf, fin, binary32, up, down, round, sum, add, sub, div, of_int, of_bits}
use lib.Ieee.Back.{round_whole}
use lib.Ieee.Exact.{HasValue}
use lib.Ieee.Fits.{down_pos, and_l, and_r}
use lib.Ieee.Positive.{num, den, den_pos}
use lib.Ieee.Scale.{finite}
use Rattle.floats.specs.Channel.{normalized}
use Rattle.floats.specs.Operators.{◌⊕◌, ◌⊗◌}
use Rattle.floats.specs.Round.{round_to}
use Rattle.floats.proofs.Away.{le_of_lt_suc}
use Rattle.floats.proofs.EveryByte.{every, below}
use Rattle.floats.proofs.RoundingErrors.{AtMost, at_most_more, at_most_own, at_most_value, mul_at_most, add_at_most, within_at_most}
use Rattle.floats.proofs.RoundedWhole.{signed, rounds_to}
use Rattle.floats.proofs.SignedSums.{add_signed}
use Rattle.sheet.specs.Answer.{Done}
use Rattle.sheet.specs.Size.{side_limit}
use Rattle.sheet.proofs.Answers.{cond_done}
use Rattle.floats.proofs.Tests.{T_true}
use Rattle.displacement_map.specs.DisplacementMap.{in_canvas, in_scale, scales_answer, offset, shift, place, target_of}
use Rattle.displacement_map.specs.Reads.{ceiling, distance}
use Rattle.displacement_map.specs.Inner.Moving.{Small}

-- ---- what the tests tell
pub record Scales (sx sy scale : Float) : Type 0 where
  pub column : T (in_canvas sx)
  pub row : T (in_canvas sy)
  pub map : T (in_scale scale)

pub accepted : (sx sy scale : Float) → scales_answer sx sy scale ≡ Done → Scales sx sy scale
unfolding scales_answer
accepted sx sy scale e =
    let a = cond_done (finite sx) _ _ e in
    let b = cond_done (finite sy) _ _ a.1 in
    let c = cond_done (finite scale) _ _ b.1 in
    let p = cond_done (in_canvas sx) _ _ c.1 in
    let q = cond_done (in_canvas sy) _ _ p.1 in
    let r = cond_done (in_scale scale) _ _ q.1 in
    record { column = T_true p.0; row = T_true q.0; map = T_true r.0 }

-- ---- the offset is at most a half: computed, for every byte
halves : ℕ → Bool
halves c = finite (offset c) && leb (num (offset c) * 2) (1 * den (offset c))

all_halves : T (every halves 256)
unfolding every halves offset normalized sub add sum round div of_int of_bits
all_halves = tt

offset_half : (c : ℕ) → c < 256 → AtMost (offset c) 1 2
unfolding halves
offset_half c h =
    let t = below halves 256 all_halves c h in
    let small = leb (num (offset c) * 2) (1 * den (offset c)) in
    record { number = and_l (finite (offset c)) small t; bound = leb→le (num (offset c) * 2) (1 * den (offset c)) (and_r (finite (offset c)) small t) }

-- ---- the shift is at most |s * scale| / 2, and 1 / 128
module _ (c : ℕ) (s k : Float) (C : c < 256) (hs : T (in_canvas s)) (hk : T (in_scale k)) where
  side : AtMost s 16 1
  unfolding of_bits
  side = within_at_most 1 (pos 4) s hs

  scale : AtMost k 4096 1
  unfolding of_bits
  scale = within_at_most 1 (pos 12) k hk

  abbrev S : ℕ
  S = num s

  abbrev E : ℕ
  E = den s

  abbrev K : ℕ
  K = num k

  abbrev F : ℕ
  F = den k

  EF : 0 < E * F
  EF = mul-pos (den_pos s) (den_pos k)

  EK : E * (K * 1) ≤ E * (4096 * F)
  EK = mul-le-mul_left E scale.bound

  most : S * K ≤ 32768 * (2 * (E * F))
  most = omega (arith, mul-le-mul side.bound scale.bound)

  abbrev X : ℕ
  X = 2 * (1 * S * 2 ^ 20) + 2 * E

  abbrev Y : ℕ
  Y = 2 * (2 * E * 2 ^ 20)

  once : AtMost (offset c ⊗ s) X Y
  once = mul_at_most binary32 20 (offset c) s 1 2 S E (zero-lt-suc 1) (den_pos s) (lit≤ tt) (offset_half c C) (at_most_own s side.number) (omega (arith, den_pos s, side.bound))

  twice : AtMost (offset c ⊗ s ⊗ k) (2 * (X * K * 2 ^ 7) + Y * F) (2 * (Y * F * 2 ^ 7))
  twice = mul_at_most binary32 7 (offset c ⊗ s) k X Y K F (omega (arith, den_pos s)) (den_pos k) (lit≤ tt) once (at_most_own k scale.number) (omega (arith, EF, EK, most))

  shift_near : (g : ℕ) → S * K ≤ g * (2 * (E * F)) → AtMost (shift s k c) (128 * g + 1) 128
  unfolding shift
  shift_near g h = at_most_more (offset c ⊗ s ⊗ k) (2 * (X * K * 2 ^ 7) + Y * F) (2 * (Y * F * 2 ^ 7)) (128 * g + 1) 128 (omega (arith, EF)) (omega (arith, EK, h)) twice

  shift_most : AtMost (shift s k c) (128 * 32768 + 1) 128
  shift_most = shift_near 32768 most

-- ---- the sum
-- q, negative where s is true, is within g of n
abbrev Within : Bool → ℕ → ℕ → ℕ → Type 0
Within false q n g = (q ≤ n + g) × (n ≤ q + g)
Within true q n g = q + n ≤ g

record Lands (n g : ℕ) (z : Float) : Type 0 where
  number : T (finite z)
  s : Bool
  q : ℕ
  is : round_to 31 z ≡ signed s q
  at : Within s q n g

module _ (n g t F : ℕ) (P : 0 < F) (N : n < side_limit) (near : t * 128 ≤ (128 * g + 1) * F) (most : t * 128 ≤ (128 * 32768 + 1) * F) where
  NF : n * F ≤ side_limit * F
  NF = mul-le-mul_right F (le_of_lt N)

  cancel : (a b : ℕ) → a * F < suc b * F → a ≤ b
  cancel a b h = le_of_lt_suc (lt_of_mul-lt-mul_right F h)

  up_at : (v : ℕ) → v ≤ n * F + t → n * F ≤ v + t → Lands n g (round binary32 false v F)
  up_at v h k =
      let w = rounds_to binary32 31 false v F (side_limit + 32769) P (omega (arith, NF)) (omega (arith, NF)) (lit< tt) in
      record { number = w.number; s = false; q = w.q; is = w.is; at = (cancel w.q (n + g) (omega (arith, w.over)), cancel n (w.q + g) (omega (arith, w.under))) }

  down_at : n * F < t → Lands n g (round binary32 true (t - n * F) F)
  down_at h =
      let w = rounds_to binary32 31 true (t - n * F) F 32769 P (omega arith) (omega arith) (lit< tt) in
      record { number = w.number; s = true; q = w.q; is = w.is; at = cancel (w.q + n) g (omega (arith, w.over)) }

  summed : (s : Bool) → Lands n g (sum binary32 false (n * F) s t F)
  unfolding sum
  summed false = up_at (n * F + t) (omega arith) (omega arith)
  summed true = go (ltb (n * F) t) (ltb→lt (n * F) t) (nltb→le (n * F) t)
    where
      go : (b : Bool) → (T b → n * F < t) → (T (not b) → t ≤ n * F) → Lands n g (cond b (round binary32 true (t - n * F) F) (round binary32 false (n * F - t) F))
      go true y x = down_at (y tt)
      go false y x = up_at (n * F - t) (omega arith) (omega (arith, x tt))

added : (n g : ℕ) (x t : Float) → n < side_limit → HasValue x false n 1 → AtMost t (128 * g + 1) 128 → AtMost t (128 * 32768 + 1) 128 → Lands n g (x ⊕ t)
added n g x nan N h k l = absurd k.number
added n g x (inf s) N h k l = absurd k.number
added n g x (fin s m e) N h k l =
    subst (λ (z : Float). Lands n g z)
    (sym (add_signed binary32 x (fin s m e) false s n 1 (m * up e) (down e) (zero-lt-suc 0) (down_pos e) h (refl, refl)
    ∙ ap (λ (z : ℕ). sum binary32 false (n * down e) s z (1 * down e)) (mul-one (m * up e))
    ∙ ap (λ (z : ℕ). sum binary32 false (n * down e) s (m * up e) z) (one-mul (down e))))
    (summed n g (m * up e) (down e) (down_pos e) N k.bound l.bound s)

pub column_value : (n : ℕ) → n < side_limit → HasValue (of_int binary32 (pos n)) false n 1
unfolding of_int
column_value n h = round_whole binary32 false n (go h)
  where
    go : n < side_limit → n ≤ 2 ^ 24
    go h = omega arith

-- ---- the distance of two whole numbers
apart_up : (q n g : ℕ) → q ≤ n + g → n ≤ q + g → nat_abs (pos q -ℤ pos n) ≤ g
apart_up q zero g h k = omega arith
apart_up q (suc n) g h k = go (ltb q (suc n)) (ltb→lt q (suc n)) (nltb→le q (suc n))
  where
    go : (b : Bool) → (T b → q < suc n) → (T (not b) → suc n ≤ q) → nat_abs (cond b (negsuc (suc n - suc q)) (pos (q - suc n))) ≤ g
    go true y x = omega (arith, y tt)
    go false y x = omega (arith, x tt)

apart : (s : Bool) (q n g : ℕ) → Within s q n g → nat_abs (signed s q -ℤ pos n) ≤ g
apart false q n g h = apart_up q n g h.0 h.1
apart true zero n g h = apart_up zero n g (omega arith) (omega arith)
apart true (suc q) zero g h = apart_up zero (suc q) g (omega arith) (omega arith)
apart true (suc q) (suc n) g h = omega arith

-- and back
near_up : (q n g : ℕ) → nat_abs (pos q -ℤ pos n) ≤ g → (q ≤ n + g) × (n ≤ q + g)
near_up q zero g h = (omega arith, omega arith)
near_up q (suc n) g h = go (ltb q (suc n)) (ltb→lt q (suc n)) (nltb→le q (suc n)) h
  where
    go : (b : Bool) → (T b → q < suc n) → (T (not b) → suc n ≤ q) → nat_abs (cond b (negsuc (suc n - suc q)) (pos (q - suc n))) ≤ g → (q ≤ suc n + g) × (suc n ≤ q + g)
    go true y x h = (omega (arith, y tt), omega (arith, y tt))
    go false y x h = (omega (arith, x tt), omega (arith, x tt))

inside : (s : Bool) (q n g : ℕ) → Within s q n g → nat_abs (signed s q) ≤ n + g
inside false q n g h = h.0
inside true zero n g h = omega arith
inside true (suc q) n g h = omega arith

-- ---- the least whole number not below a fraction
ceiling_ge : (n d : ℕ) → 0 < d → n ≤ ceiling n d * d
ceiling_ge n d D = go (ceiling n d) ((n + (d - 1)) % d) (div-add-mod' (n + (d - 1)) d) (mod-lt (n + (d - 1)) D)
  where
    go : (q r : ℕ) → q * d + r ≡ n + (d - 1) → r < d → n ≤ q * d
    go q r e h = omega arith

ceiling_least : (n d q : ℕ) → 0 < d → n ≤ q * d → ceiling n d ≤ q
ceiling_least n d q D h = le_of_lt_suc ((div-lt_iff_lt-mul D).1 (omega arith))

module _ (s k : Float) where
  twice_pos : 0 < 2 * (den s * den k)
  twice_pos = let z = mul-pos (den_pos s) (den_pos k) in omega arith

  -- D is a whole number not below |s * scale| / 2 + 1
  pub distance_covers : num s * num k + 2 * (den s * den k) ≤ distance s k * (2 * (den s * den k))
  unfolding distance
  distance_covers = ceiling_ge (num s * num k + 2 * (den s * den k)) (2 * (den s * den k)) twice_pos

  -- the least
  pub distance_least : (g : ℕ) → num s * num k + 2 * (den s * den k) ≤ g * (2 * (den s * den k)) → distance s k ≤ g
  unfolding distance
  distance_least g h = ceiling_least (num s * num k + 2 * (den s * den k)) (2 * (den s * den k)) g twice_pos h

less_one : (D n d : ℕ) → 0 < d → n + d ≤ D * d → n ≤ (D - 1) * d
less_one zero n d p h = omega arith
less_one (suc D) n d p h = let e : suc D - 1 ≡ D = omega arith in rw e (go (suc-mul D d))
  where
    go : suc D * d ≡ D * d + d → n ≤ D * d
    go e = omega arith

module _ (i c : ℕ) (s k : Float) (I : i < side_limit) (C : c < 256) (hs : T (in_canvas s)) (hk : T (in_scale k)) where
  lands : (g : ℕ) → num s * num k ≤ g * (2 * (den s * den k)) → Lands i g (place s k i c)
  unfolding place
  lands g h = added i g (of_int binary32 (pos i)) (shift s k c) I (column_value i I) (shift_near c s k C hs hk g h) (shift_most c s k C hs hk)

  -- finite, and far inside the range of an `i32`: its ends never show
  pub target_inside : T (finite (place s k i c)) × (nat_abs (target_of s k i c) < side_limit + 32768)
  unfolding target_of
  target_inside =
      let l = lands 32768 (most c s k C hs hk) in
      (l.number, subst (λ (z : ℤ). nat_abs z < side_limit + 32768) (sym l.is) (top (nat_abs (signed l.s l.q)) (inside l.s l.q i 32768 l.at)))
    where
      top : (q : ℕ) → q ≤ i + 32768 → q < side_limit + 32768
      top q h = omega arith

  pub place_small : Small (place s k i c)
  unfolding place
  place_small =
      let a = add_at_most binary32 1 (of_int binary32 (pos i)) (shift s k c) i 1 (128 * 32768 + 1) 128 (zero-lt-suc 0) (zero-lt-suc 127) (lit≤ tt) (at_most_value (of_int binary32 (pos i)) false i 1 (column_value i I)) (shift_most c s k C hs hk) (omega arith) in
      let b = at_most_more (of_int binary32 (pos i) ⊕ shift s k c) (2 * ((i * 128 + (128 * 32768 + 1) * 1) * 2 ^ 1) + 1 * 128) (2 * (1 * 128 * 2 ^ 1)) 65536 1 (zero-lt-suc 511) (omega arith) a in
      (b.number, subst (λ (n : ℕ). n ≤ 65536 * den (of_int binary32 (pos i) ⊕ shift s k c)) (mul-one (num (of_int binary32 (pos i) ⊕ shift s k c))) b.bound)

  -- within every whole number not below |s * scale| / 2
  pub target_nearer : (g : ℕ) → num s * num k ≤ g * (2 * (den s * den k)) → nat_abs (target_of s k i c -ℤ pos i) ≤ g
  unfolding target_of
  target_nearer g h = let l = lands g h in subst (λ (z : ℤ). nat_abs (z -ℤ pos i) ≤ g) (sym l.is) (apart l.s l.q i g l.at)

  -- where |s * scale| is 0 the target is its own place
  pub lands_at : num s * num k ≡ 0 → target_of s k i c ≡ pos i
  unfolding target_of
  lands_at h = let l = lands 0 (omega arith) in l.is ∙ go l.s l.q l.at
    where
      go : (s : Bool) (q : ℕ) → Within s q i 0 → signed s q ≡ pos i
      go false q w = let e : q ≡ i = let a = w.0 in let b = w.1 in omega arith in ap pos e
      go true zero w = let e : 0 ≡ i = omega arith in ap pos e
      go true (suc q) w = absurd (omega arith)

  -- so within D, less one
  pub target_near : nat_abs (target_of s k i c -ℤ pos i) ≤ distance s k - 1
  target_near = target_nearer (distance s k - 1) (less_one (distance s k) (num s * num k) (2 * (den s * den k)) (twice_pos s k) (distance_covers s k))

  -- a column that is read lies within the distance, either way
  pub column_near : (q : ℕ) → target_of s k i c ≡ pos q → (q ≤ i + distance s k) × (i ≤ q + distance s k)
  column_near q e =
      let n = near_up q i (distance s k - 1) (subst (λ (z : ℤ). nat_abs (z -ℤ pos i) ≤ distance s k - 1) e target_near) in
      (wider q i n.0, wider i q n.1)
    where
      wider : (a b : ℕ) → a ≤ b + (distance s k - 1) → a ≤ b + distance s k
      wider a b h = omega arith
