-- The laws of a stretch that changes, element by element or pixel by pixel, and of a sheet whose strips are worked on row by row.
use Prim.Native.Nat.{ℕ, ◌+◌, ◌-◌, ◌*◌, ◌/◌, ◌≤◌, ◌<◌}
use mathlib.Core.Path.{◌≡◌, refl, sym, ap, ◌∙◌}
use mathlib.Core.List.{List}
use native.Mathlib.Nat.{add-zero, not-suc-le-zero, div-add-mod'}
use native.Mathlib.Omega.{arith}
use native.Mathlib.Decide.{dec_lt}
use borrow.Author.Count.{below_more}
use lib.ListN.{length, get_or, set, length-set}
use lib.Seq.{get_or-set_same, get_or-set_other}
use Rattle.sheet.specs.Pixel.{channel, set_channels, set_pixel, column, row}
use Rattle.sheet.specs.Tabulate.{tabulate}
use Rattle.sheet.specs.Inner.Strips.{Worked, Changed}
use Rattle.sheet.proofs.Tabulated.{tabulated}
use Rattle.sheet.proofs.Places.{column_inside, row_inside}

-- ---- a stretch
module _ {A : Type 0} (z : A) (g : ℕ → A) (at : ℕ) (l : List A) where
  pub changed_none : Changed z g at 0 l l
  changed_none = record { same = refl; inside = λ i h. absurd (not-suc-le-zero h); before = λ k h. refl; after = λ k h. refl }

  -- one element more is stored
  pub changed_more : {n : ℕ} {l' : List A} (v : A) → Changed z g at n l l' → at + n < length l' → v ≡ g n → Changed z g at (n + 1) l (set l' (at + n) v)
  changed_more {n} {l'} v m h e = record {
    same = length-set l' (at + n) v ∙ m.same;
    inside = below_more (λ j. get_or (set l' (at + n) v) (at + j) z ≡ g j) n
        (λ j p. get_or-set_other l' (at + n) (at + j) v z (omega arith) ∙ m.inside j p)
        (get_or-set_same l' (at + n) v z h ∙ e);
    before = λ k p. get_or-set_other l' (at + n) k v z (omega arith) ∙ m.before k p;
    after = λ k p. get_or-set_other l' (at + n) k v z (omega arith) ∙ m.after k (omega arith);
  }

pub changed_as : {A : Type 0} {z : A} (f g : ℕ → A) {at n : ℕ} {l l' : List A} → Changed z f at n l l' → ((i : ℕ) → i < n → f i ≡ g i) → Changed z g at n l l'
changed_as f g c e = record { same = c.same; inside = λ i h. c.inside i h ∙ e i h; before = c.before; after = c.after }

-- four bytes of a pixel are stored
module _ {g : ℕ → ℕ} {first k : ℕ} {d₀ d : List ℕ} (r : Changed 0 g first k d₀ d) where
  next : {n : ℕ} {d' : List ℕ} → Changed 0 g first n d₀ d' → (at v n' : ℕ) → at ≡ first + n → n' ≡ n + 1 → first + n < length d' → v ≡ g n → Changed 0 g first n' d₀ (set d' at v)
  next {n} {d'} c at v n' e f h q = rw (e, f) (changed_more 0 g first d₀ v c h q)

  pub pixel_stored : {p n : ℕ} {d' : List ℕ} → n ≡ k + 4 → first + k + 3 < length d → d' ≡ set_pixel d (first + k) p → ((c : ℕ) → c < 4 → channel c p ≡ g (k + c)) → Changed 0 g first n d₀ d'
  unfolding set_channels
  pixel_stored {p} {n} {d'} z h e b =
      let at = first + k in
      let l₀ = length-set d at (channel 0 p) in
      let l₁ = length-set (set d at (channel 0 p)) (at + 1) (channel 1 p) in
      let l₂ = length-set (set (set d at (channel 0 p)) (at + 1) (channel 1 p)) (at + 2) (channel 2 p) in
      let e₀ : channel 0 p ≡ g k = rw add-zero at (b 0 (omega arith)) in
      let s₀ = next r at (channel 0 p) (k + 1) refl refl (omega arith) e₀ in
      let s₁ = next s₀ (at + 1) (channel 1 p) (k + 2) (omega arith) (omega arith) (omega arith) (b 1 (omega arith)) in
      let s₂ = next s₁ (at + 2) (channel 2 p) (k + 3) (omega arith) (omega arith) (omega arith) (b 2 (omega arith)) in
      rw e (next s₂ (at + 3) (channel 3 p) n (omega arith) (omega arith) (omega arith) (b 3 (omega arith)))

-- ---- a sheet of w columns
pub worked_none : (f : ℕ → ℕ) (w : ℕ) (d : List ℕ) → Worked f w 0 0 0 d
worked_none f w d = record { before = λ k l h. absurd (not-suc-le-zero h); above = λ k l h q. absurd (not-suc-le-zero q) }

-- a strip begins
pub worked_strip : {f : ℕ → ℕ} {w x : ℕ} {d : List ℕ} (n : ℕ) → Worked f w x 0 0 d → Worked f w x n 0 d
worked_strip n r = record { before = r.before; above = λ k l h q. absurd (not-suc-le-zero q) }

-- one row more of a strip
module _ (f : ℕ → ℕ) (w x n y : ℕ) {d d' : List ℕ} (c : Changed 0 (λ j. f (4 * (y * w + x) + j)) (4 * (y * w + x)) (4 * n) d d') where
  abbrev first : ℕ
  first = 4 * (y * w + x)

  new : (k : ℕ) → first ≤ k → k < first + 4 * n → get_or d' k 0 ≡ f k
  new k p q = let z : k ≡ first + (k - first) = omega arith in rw z (c.inside (k - first) (omega arith))

  kept : (k : ℕ) → get_or d k 0 ≡ f k → get_or d' k 0 ≡ f k
  kept k e = go (dec_lt k first) (dec_lt k (first + 4 * n))
    where
      go : Dec (k < first) → Dec (k < first + 4 * n) → get_or d' k 0 ≡ f k
      go (yes p) q = c.before k p ∙ e
      go (no p) (yes q) = new k (omega arith) q
      go (no p) (no q) = c.after k (omega arith) ∙ e

  pub worked_row : Worked f w x n y d → Worked f w x n (y + 1) d'
  worked_row r = record {
    before = λ k l h. let s = c.same in kept k (r.before k (omega arith) h);
    above = λ k l h q. let s = c.same in go k (omega arith) h q (dec_lt (row w k) y) (dec_lt (column w k) x);
  }
    where
      here : (k : ℕ) → row w k ≡ y → x ≤ column w k → column w k < x + n → get_or d' k 0 ≡ f k
      here k e p q =
          let z : y * w + column w k ≡ k / 4 = ap (λ (v : ℕ). v * w + column w k) (sym e) ∙ div-add-mod' (k / 4) w in
          new k (omega arith) (omega arith)

      go : (k : ℕ) → k < length d → column w k < x + n → row w k < y + 1 → Dec (row w k < y) → Dec (column w k < x) → get_or d' k 0 ≡ f k
      go k l h q (yes u) v = kept k (r.above k l h u)
      go k l h q (no u) (yes v) = kept k (r.before k l v)
      go k l h q (no u) (no v) = here k (omega arith) (omega arith) h

module _ {f : ℕ → ℕ} (w h : ℕ) {x : ℕ} {d : List ℕ} (p : 0 < w) (e : length d ≡ 4 * w * h) where
  -- a strip ends
  pub worked_next : {n : ℕ} → Worked f w x n h d → Worked f w (x + n) 0 0 d
  worked_next {n} r = record {
    before = λ k l q. r.above k l q (row_inside w h k p (omega arith));
    above = λ k l q u. absurd (not-suc-le-zero u);
  }

  pub worked_all : Worked f w x 0 0 d → w ≤ x → d ≡ tabulate (4 * w * h) f
  worked_all r m = tabulated d (4 * w * h) f e (λ k l. let z = column_inside w h k p l in r.before k (omega arith) (omega arith))
