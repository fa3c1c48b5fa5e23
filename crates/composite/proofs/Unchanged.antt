-- By k2 = 1 or k3 = 1 alone one input comes back, where its colours are within their alpha: the sum is the channel's own number, and the clamp to the alpha passes it.
use Prim.Native.Nat.{ℕ, ◌+◌, ◌*◌, ◌/◌, ◌%◌, ◌≤◌, ◌<◌}
use mathlib.Core.Path.{◌≡◌, refl, sym, ap, ◌∙◌}
use mathlib.Core.Bool.{Bool, true, false, cond}
use mathlib.Core.List.{List}
use native.Mathlib.Omega.{arith}
use borrow.Author.Tests.{eqb-true}
use lib.ListN.{length, get_or}
use lib.Dec.{eqb}
use lib.Ieee.{Float, le, of_bits}
use Rattle.floats.specs.Constants.{c0, c1}
use Rattle.floats.specs.Channel.{normalized, from_normalized}
use Rattle.floats.specs.Order.{near_zero}
use Rattle.floats.proofs.ByteNumbers.{there_and_back, near_zero_byte, clamp_passes, top_number, neutral}
use Rattle.sheet.specs.Answer.{Done}
use Rattle.sheet.proofs.Tabulated.{tabulated}
use Rattle.sheet.proofs.Apart.{Bytes}
use Rattle.pool.specs.Pool.{all, numbers_answer}
use Rattle.composite.specs.declared.pixel.Factors.{Factors}
use Rattle.composite.specs.Arithmetic.{factors, calc, scaled}
use Rattle.composite.specs.Composite.{factors_answer, alpha_at, composed_at, composed}

-- k2 = 1, the others 0
abbrev pub first_alone : Factors
first_alone = factors c0 c1 c0 c0

-- k3 = 1, the others 0
abbrev pub second_alone : Factors
second_alone = factors c0 c0 c1 c0

pub first_alone_accepted : factors_answer c0 c1 c0 c0 ≡ Done
unfolding factors_answer numbers_answer all le of_bits
first_alone_accepted = refl

pub second_alone_accepted : factors_answer c0 c0 c1 c0 ≡ Done
unfolding factors_answer numbers_answer all le of_bits
second_alone_accepted = refl

-- ---- a sum of two channels c and d that is c's own number, within the number of a byte a that is no less
abbrev pub Own : (ℕ → ℕ → Float → Float) → Type 0
Own f = (c d a : ℕ) → c ≤ a → d ≤ 255 → a ≤ 255 → f c d (normalized a) ≡ normalized c

pub first_own : Own (calc first_alone)
unfolding calc
first_own c d a l hd ha =
    let hc : c ≤ 255 = omega arith in
    simp neutral (clamp_passes c a l ha)

pub second_own : Own (λ c d max. calc second_alone d c max)
unfolding calc
second_own c d a l hd ha =
    let hc : c ≤ 255 = omega arith in
    simp neutral (clamp_passes c a l ha)

scaled_back : (c : ℕ) → c ≤ 255 → scaled (normalized c) ≡ c
unfolding scaled from_normalized
scaled_back c h = ap scaled (sym (clamp_passes c 255 h (omega arith))) ∙ rw top_number (there_and_back c h)

-- channel c by the sum f, of two pixels whose channels c are x and y, and whose alphas are a and b
abbrev pub channel_by : (ℕ → ℕ → Float → Float) → (c x y a b : ℕ) → ℕ
channel_by f c x y a b = cond (near_zero (f a b c1)) 0 (cond (eqb c 3) (scaled (f a b c1)) (scaled (f x y (f a b c1))))

module _ (f : ℕ → ℕ → Float → Float) (own : Own f) where
  alpha_own : (a b : ℕ) → a ≤ 255 → b ≤ 255 → f a b c1 ≡ normalized a
  alpha_own a b ha hb = ap (f a b) (sym top_number) ∙ own a b 255 ha hb (omega arith)

  -- x is within the alpha a
  pub channel_kept : (c x y a b : ℕ) → x ≤ a → a ≤ 255 → y ≤ 255 → b ≤ 255 → (c ≡ 3 → x ≡ a) → x ≡ channel_by f c x y a b
  channel_kept c x y a b l ha hy hb alpha =
      rw (alpha_own a b ha hb, near_zero_byte a ha, scaled_back a ha, own x y a l hy ha, scaled_back x (omega arith)) (go (eqb a 0) (eqb c 3) (eqb-true a 0) (eqb-true c 3))
    where
      go : (p q : Bool) → (p ≡ true → a ≡ 0) → (q ≡ true → c ≡ 3) → x ≡ cond p 0 (cond q a x)
      go true q z e = let f = z refl in omega arith
      go false true z e = alpha (e refl)
      go false false z e = refl

  pub channel_cleared : (c x y b : ℕ) → b ≤ 255 → 0 ≡ channel_by f c x y 0 b
  channel_cleared c x y b hb = rw (alpha_own 0 b (omega arith) hb, near_zero_byte 0 (omega arith))

  -- byte k by the sum f, where each byte of s is within its alpha
  byte_kept : (s t : List ℕ) (k : ℕ) → Bytes s → Bytes t → get_or s k 0 ≤ alpha_at s k → get_or s k 0 ≡ channel_by f (k % 4) (get_or s k 0) (get_or t k 0) (alpha_at s k) (alpha_at t k)
  byte_kept s t k bs bt inside =
      channel_kept (k % 4) (get_or s k 0) (get_or t k 0) (alpha_at s k) (alpha_at t k) inside (bs (4 * (k / 4) + 3)) (bt k) (bt (4 * (k / 4) + 3))
      (λ e. ap (λ (j : ℕ). get_or s j 0) (let z : k ≡ 4 * (k / 4) + 3 = omega arith in z))

-- each byte is within its pixel's alpha
abbrev pub WithinAlpha : List ℕ → Type 0
WithinAlpha s = (k : ℕ) → k < length s → get_or s k 0 ≤ alpha_at s k

pub first_alone_changes_nothing : (s t : List ℕ) → Bytes s → Bytes t → WithinAlpha s → composed first_alone s t ≡ s
unfolding composed
first_alone_changes_nothing s t bs bt inside =
    sym (tabulated s (length s) (composed_at first_alone s t) refl (λ k l. byte_kept (calc first_alone) first_own s t k bs bt (inside k l)))

pub second_alone_changes_nothing : (s t : List ℕ) → length t ≡ length s → Bytes s → Bytes t → WithinAlpha s → composed second_alone t s ≡ s
unfolding composed
second_alone_changes_nothing s t e bs bt inside =
    sym (tabulated s (length t) (composed_at second_alone t s) (sym e) (λ k l. byte_kept (λ c d max. calc second_alone d c max) second_own s t k bs bt (inside k (omega arith))))
