-- A loop that fills a sheet in order: a record for its invariant, with the laws of its start, of one byte or one pixel stored, and of its end.
use Prim.Native.Nat.{ℕ, zero, suc, ◌+◌, ◌%◌, ◌≤◌, ◌<◌, zero-le, min}
use mathlib.Core.Path.{◌≡◌, refl, sym, ◌∙◌}
use mathlib.Core.List.{List}
use native.Mathlib.Nat.{add-zero, not-suc-le-zero}
use native.Mathlib.Omega.{arith}
use native.Mathlib.Decide.{dec_le}
use borrow.Author.Count.{below_more}
use borrow.Author.Tests.{lt-ltb, le-ltb}
use lib.ListN.{length, get_or, set, length-set}
use lib.Seq.{get_or-set_same, get_or-set_other}
use Rattle.sheet.specs.Tabulate.{tabulate, copied_at, copied}
use Rattle.sheet.specs.Pixel.{channel, Channels, PixelAt, set_channels, set_pixel}
use Rattle.sheet.proofs.Tabulated.{tabulated}

-- d₀ is the sheet where the loop began, and d the sheet with f k stored at each k below i
pub record Filling (f : ℕ → ℕ) (d₀ d : List ℕ) (i : ℕ) : Type 0 where
  pub within : i ≤ length d₀
  pub same : length d ≡ length d₀
  pub stored : (k : ℕ) → k < i → get_or d k 0 ≡ f k
  pub untouched : (k : ℕ) → i ≤ k → get_or d k 0 ≡ get_or d₀ k 0

pub fill_start : (f : ℕ → ℕ) (d : List ℕ) → Filling f d d 0
fill_start f d = record { within = zero-le; same = refl; stored = λ k h. absurd (not-suc-le-zero h); untouched = λ k h. refl }

pub fill_store : {f : ℕ → ℕ} {d₀ d : List ℕ} {i : ℕ} (v : ℕ) → Filling f d₀ d i → i < length d → v ≡ f i → Filling f d₀ (set d i v) (i + 1)
fill_store {f} {d₀} {d} {i} v r h e = record {
  within = omega arith;
  same = length-set d i v ∙ r.same;
  stored = below_more (λ k. get_or (set d i v) k 0 ≡ f k) i (λ k l. get_or-set_other d i k v 0 (omega arith) ∙ r.stored k l) (get_or-set_same d i v 0 h ∙ e);
  untouched = λ k l. get_or-set_other d i k v 0 (omega arith) ∙ r.untouched k (omega arith);
}

fill_to : {f : ℕ → ℕ} {d₀ d : List ℕ} {i : ℕ} (j : ℕ) → i ≡ j → Filling f d₀ d i → Filling f d₀ d j
fill_to j e r = rw e at r

pub fill_done : {f : ℕ → ℕ} {d₀ d : List ℕ} {i : ℕ} {n : ℕ} → Filling f d₀ d i → length d ≤ i → length d₀ ≡ n → d ≡ tabulate n f
fill_done {f} {d₀} {d} {i} {n} r h e = tabulated d n f (r.same ∙ e) (λ k l. r.stored k (omega arith))

-- ---- a copy of as many bytes as both have
module _ (src dst₀ : List ℕ) where
  pub copy_store : {dst : List ℕ} {i : ℕ} → Filling (copied_at src dst₀) dst₀ dst i → i < min (length src) (length dst₀) → Filling (copied_at src dst₀) dst₀ (set dst i (get_or src i 0)) (i + 1)
  copy_store {dst} {i} r h = let s = r.same in let l : i < length src = omega arith in fill_store (get_or src i 0) r (omega arith) (sym (rw (lt-ltb i (length src) l)))

  -- past the shorter length a byte is dst's own
  pub copy_done : {dst : List ℕ} {i : ℕ} → Filling (copied_at src dst₀) dst₀ dst i → i ≡ min (length src) (length dst₀) → dst ≡ copied src dst₀
  unfolding copied
  copy_done {dst} {i} r e = tabulated dst (length dst₀) (copied_at src dst₀) r.same (λ k l. go k l (dec_le (suc k) i))
    where
      go : (k : ℕ) → k < length dst₀ → Dec (suc k ≤ i) → get_or dst k 0 ≡ copied_at src dst₀ k
      go k l (yes h) = r.stored k h
      go k l (no h) = let p : length src ≤ k = omega arith in r.untouched k (omega arith) ∙ sym (rw (le-ltb k (length src) p))

-- ---- whole pixels
-- p's channel c, where p's channels are g 0, g 1, g 2 and g 3
pub channel_of_lem : (g : ℕ → ℕ) {p : ℕ} → Channels p (g 0) (g 1) (g 2) (g 3) → (c : ℕ) → c < 4 → channel c p ≡ g c
channel_of_lem g q zero h = q.red
channel_of_lem g q (suc zero) h = q.green
channel_of_lem g q (suc (suc zero)) h = q.blue
channel_of_lem g q (suc (suc (suc zero))) h = q.alpha
channel_of_lem g q (suc (suc (suc (suc c)))) h = absurd (omega arith)

-- channel c of the pixel at k is byte k + c
pub pixel_channel : (s : List ℕ) (k : ℕ) {p : ℕ} → PixelAt s k p → (c : ℕ) → c < 4 → channel c p ≡ get_or s (k + c) 0
pixel_channel s k {p} q c h = channel_of_lem (λ d. get_or s (k + d) 0) (record { number = rw add-zero q.number; red = rw add-zero q.red; green = q.green; blue = q.blue; alpha = q.alpha }) c h

-- a pixel of equal channels is the same pixel
pub channels_as : {p r g b a r' g' b' a' : ℕ} → Channels p r g b a → r ≡ r' → g ≡ g' → b ≡ b' → a ≡ a' → Channels p r' g' b' a'
channels_as q e₀ e₁ e₂ e₃ = record { number = rw (← e₀, ← e₁, ← e₂, ← e₃) q.number; red = q.red ∙ e₀; green = q.green ∙ e₁; blue = q.blue ∙ e₂; alpha = q.alpha ∙ e₃ }

-- as `Filling`, of a sheet of whole pixels, before byte k of which whole pixels are stored
pub record Painting (f : ℕ → ℕ) (d₀ d : List ℕ) (k : ℕ) : Type 0 where
  pub filling : Filling f d₀ d k
  pub aligned : k % 4 ≡ 0
  pub pixels : length d₀ % 4 ≡ 0

pub paint_start : (f : ℕ → ℕ) (d : List ℕ) → length d % 4 ≡ 0 → Painting f d d 0
paint_start f d e = record { filling = fill_start f d; aligned = refl; pixels = e }

module _ {f : ℕ → ℕ} {d₀ d : List ℕ} {k : ℕ} (r : Painting f d₀ d k) where
  -- there is room for one more pixel
  pub paint_room : k < length d → k + 3 < length d
  paint_room h = let s = r.filling.same in let a = r.aligned in let b = r.pixels in omega arith

  -- the pixel that is to be stored over is as it was
  pub paint_read : {p : ℕ} → PixelAt d k p → PixelAt d₀ k p
  paint_read q =
      let u = r.filling.untouched in
      channels_as q (u k (omega arith)) (u (k + 1) (omega arith)) (u (k + 2) (omega arith)) (u (k + 3) (omega arith))

  -- one more pixel is stored
  pub paint_pixel : {p : ℕ} {d' : List ℕ} → k < length d → d' ≡ set_pixel d k p → ((c : ℕ) → c < 4 → channel c p ≡ f (k + c)) → Painting f d₀ d' (k + 4)
  unfolding set_channels
  paint_pixel {p} {d'} h e b =
      let room = paint_room h in
      let l₀ = length-set d k (channel 0 p) in
      let l₁ = length-set (set d k (channel 0 p)) (k + 1) (channel 1 p) in
      let l₂ = length-set (set (set d k (channel 0 p)) (k + 1) (channel 1 p)) (k + 2) (channel 2 p) in
      let e₀ : channel 0 p ≡ f k = rw add-zero at (b 0 (omega arith)) in
      let s₀ = fill_store (channel 0 p) r.filling (omega arith) e₀ in
      let s₁ = fill_to (k + 2) (omega arith) (fill_store (channel 1 p) s₀ (omega arith) (b 1 (omega arith))) in
      let s₂ = fill_to (k + 3) (omega arith) (fill_store (channel 2 p) s₁ (omega arith) (b 2 (omega arith))) in
      let s₃ = fill_to (k + 4) (omega arith) (fill_store (channel 3 p) s₂ (omega arith) (b 3 (omega arith))) in
      let a = r.aligned in
      record { filling = rw e s₃; aligned = omega arith; pixels = r.pixels }

  pub paint_done : {n : ℕ} → length d ≤ k → length d₀ ≡ n → d ≡ tabulate n f
  paint_done h e = fill_done r.filling h e
