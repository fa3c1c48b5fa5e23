-- A clear sheet with one opaque pixel: how its neighbours lean.
use Prim.Native.Nat.{ℕ, zero, suc, ◌+◌, ◌-◌, ◌*◌, ◌≤◌, ◌<◌}
use mathlib.Core.Path.{◌≡◌, refl, sym, ap}
use mathlib.Core.Logic.{◌⊎◌, inl, inr}
use native.Mathlib.Omega.{arith}
use native.Mathlib.Decide.{dec_lt, ℕ_discrete}
use borrow.Author.Tests.{eq-eqb, ne_eqb, lt-ltb, le-ltb}
use lib.IntN.{ℤ, pos, negsuc, sub_ℕ}
use Rattle.surface.specs.Surface.{before, after, weighted, behind, ahead, lean}

-- 255 at place p, and 0 at any other place below n
pub record Spot (n p : ℕ) (g : ℕ → ℕ) : Type 0 where
  pub on : g p ≡ 255
  pub off : (i : ℕ) → i < n → (i ≡ p → ⊥) → g i ≡ 0

-- a place whose neighbours and itself are 0
pub weighted_none : (n : ℕ) (g : ℕ → ℕ) (i : ℕ) → i < n → ((j : ℕ) → j < n → g j ≡ 0) → weighted n g i ≡ 0
unfolding weighted
weighted_none n g i h z = sum_none
  where
    none_before : before g i ≡ 0
    none_before = go (ℕ_discrete i 0)
      where
        go : Dec (i ≡ 0) → before g i ≡ 0
        go (yes e) = rw (eq-eqb i 0 e)
        go (no d) = rw (ne_eqb i 0 d) (z (i - 1) (omega arith))

    none_after : after n g i ≡ 0
    none_after = go (dec_lt (i + 1) n)
      where
        go : Dec (i + 1 < n) → after n g i ≡ 0
        go (yes l) = rw (lt-ltb (i + 1) n l) (z (i + 1) l)
        go (no l) = rw (le-ltb (i + 1) n (omega arith))

    sum_none : before g i + 2 * g i + after n g i ≡ 0
    sum_none = let a = none_before in let b = none_after in let c = z i h in omega arith

-- a spot at most one place away weighs 255 or 510
pub weighted_spot : (n p : ℕ) (g : ℕ → ℕ) (i : ℕ) → Spot n p g → i < n → p < n → i ≤ p + 1 → p ≤ i + 1 → (weighted n g i ≡ 255) ⊎ (weighted n g i ≡ 510)
unfolding weighted
weighted_spot n p g i s h l a b = go (ℕ_discrete i p) (dec_lt i p)
  where
    was_before : (m : ℕ) → ((0 < i → g (i - 1) ≡ m)) → (i ≡ 0 → m ≡ 0) → before g i ≡ m
    was_before m e z = pick (ℕ_discrete i 0)
      where
        pick : Dec (i ≡ 0) → before g i ≡ m
        pick (yes q) = rw (eq-eqb i 0 q) (sym (z q))
        pick (no q) = rw (ne_eqb i 0 q) (e (omega arith))

    is_after : (m : ℕ) → ((i + 1 < n → g (i + 1) ≡ m)) → (n ≤ i + 1 → m ≡ 0) → after n g i ≡ m
    is_after m e z = pick (dec_lt (i + 1) n)
      where
        pick : Dec (i + 1 < n) → after n g i ≡ m
        pick (yes q) = rw (lt-ltb (i + 1) n q) (e q)
        pick (no q) = rw (le-ltb (i + 1) n (omega arith)) (sym (z (omega arith)))

    off_at : (j : ℕ) → j < n → (j ≡ p → ⊥) → g j ≡ 0
    off_at = s.off

    on_at : (j : ℕ) → j ≡ p → g j ≡ 255
    on_at j e = rw e s.on

    go : Dec (i ≡ p) → Dec (i < p) → (before g i + 2 * g i + after n g i ≡ 255) ⊎ (before g i + 2 * g i + after n g i ≡ 510)
    go (yes e) q =
        let x = was_before 0 (λ z. off_at (i - 1) (omega arith) (λ f. omega arith)) (λ z. refl) in
        let y = is_after 0 (λ z. off_at (i + 1) z (λ f. omega arith)) (λ z. refl) in
        let o = on_at i e in
        inr (omega arith)
    go (no d) (yes q) =
        let x = was_before 0 (λ z. off_at (i - 1) (omega arith) (λ f. omega arith)) (λ z. refl) in
        let y = is_after 255 (λ z. on_at (i + 1) (omega arith)) (λ z. omega arith) in
        let o = off_at i h d in
        inl (omega arith)
    go (no d) (no q) =
        let x = was_before 255 (λ z. on_at (i - 1) (omega arith)) (λ z. omega arith) in
        let y = is_after 0 (λ z. off_at (i + 1) z (λ f. omega arith)) (λ z. refl) in
        let o = off_at i h d in
        inl (omega arith)

-- ---- the leans that one opaque pixel makes
-- 0, 255, 510, -255 and -510
abbrev pub tilt : ℕ → ℤ
tilt zero = pos 0
tilt (suc zero) = pos 255
tilt (suc (suc zero)) = pos 510
tilt (suc (suc (suc zero))) = negsuc 254
tilt (suc (suc (suc (suc k)))) = negsuc 509

-- the lean is one of them, and is not 0 where q holds
pub record Tilted (q : Type 0) (z : ℤ) : Type 0 where
  pub which : ℕ
  pub few : which < 5
  pub is : z ≡ tilt which
  pub some : q → which ≡ 0 → ⊥

-- the opaque pixel lies in place u of n along the direction, and place v of m across it
module _ (n m : ℕ) (f : ℕ → ℕ → ℕ) (i j u v : ℕ) (hi : i < n) (hj : j < m) (hv : v < m) (a : j ≤ v + 1) (b : v ≤ j + 1) (two : 1 < n) (on : Spot m v (f u)) (off : (k : ℕ) → k < n → (k ≡ u → ⊥) → (l : ℕ) → l < m → f k l ≡ 0) where
  none : (k : ℕ) → k < n → (k ≡ u → ⊥) → weighted m (f k) j ≡ 0
  none k h d = weighted_none m (f k) j hj (off k h d)

  pub tilted : Tilted ((u ≡ ahead n i) ⊎ (u ≡ behind i)) (lean n m f i j)
  unfolding lean
  tilted = go (ℕ_discrete u (ahead n i)) (ℕ_discrete u (behind i)) (weighted_spot m v (f u) j on hj hv a b)
    where
      go : Dec (u ≡ ahead n i) → Dec (u ≡ behind i) → (weighted m (f u) j ≡ 255) ⊎ (weighted m (f u) j ≡ 510) → Tilted ((u ≡ ahead n i) ⊎ (u ≡ behind i)) (sub_ℕ (weighted m (f (ahead n i)) j) (weighted m (f (behind i)) j))
      go (yes e) q w = ahead_by w
        where
          ahead_by : (weighted m (f u) j ≡ 255) ⊎ (weighted m (f u) j ≡ 510) → Tilted ((u ≡ ahead n i) ⊎ (u ≡ behind i)) (sub_ℕ (weighted m (f (ahead n i)) j) (weighted m (f (behind i)) j))
          ahead_by (inl s) = record { which = 1; few = omega arith; is = rw (ap (λ (k : ℕ). weighted m (f k) j) (sym e), s, none (behind i) (omega arith) (λ d. omega arith)); some = λ x y. omega arith }
          ahead_by (inr s) = record { which = 2; few = omega arith; is = rw (ap (λ (k : ℕ). weighted m (f k) j) (sym e), s, none (behind i) (omega arith) (λ d. omega arith)); some = λ x y. omega arith }
      go (no d) (yes e) w = behind_by w
        where
          behind_by : (weighted m (f u) j ≡ 255) ⊎ (weighted m (f u) j ≡ 510) → Tilted ((u ≡ ahead n i) ⊎ (u ≡ behind i)) (sub_ℕ (weighted m (f (ahead n i)) j) (weighted m (f (behind i)) j))
          behind_by (inl s) = record { which = 3; few = omega arith; is = rw (none (ahead n i) (omega arith) (λ z. d (sym z)), ap (λ (k : ℕ). weighted m (f k) j) (sym e), s); some = λ x y. omega arith }
          behind_by (inr s) = record { which = 4; few = omega arith; is = rw (none (ahead n i) (omega arith) (λ z. d (sym z)), ap (λ (k : ℕ). weighted m (f k) j) (sym e), s); some = λ x y. omega arith }
      go (no d) (no e) w = record { which = 0; few = omega arith; is = rw (none (ahead n i) (omega arith) (λ z. d (sym z)), none (behind i) (omega arith) (λ z. e (sym z))); some = λ x y. neither x }
        where
          neither : (u ≡ ahead n i) ⊎ (u ≡ behind i) → ⊥
          neither (inl z) = d z
          neither (inr z) = e z
