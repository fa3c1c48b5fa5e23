-- A loop that goes over the pixels of a sheet: a record for its invariant, with the laws of its start, of one pixel stored, and of its end.
use Prim.Native.Nat.{ℕ, zero, suc, ◌+◌, ◌*◌, ◌/◌, ◌%◌, ◌≤◌, ◌<◌}
use mathlib.Core.Path.{◌≡◌, refl, ◌∙◌}
use mathlib.Core.List.{List}
use native.Mathlib.Nat.{add-zero, not-suc-le-zero}
use native.Mathlib.Omega.{arith}
use borrow.Author.Count.{below_more}
use lib.ListN.{length, get_or, set, length-set}
use Rattle.std.proofs.lemmas.List.{get_or-set_same, get_or-set_other}
use Rattle.sheet.specs.Tabulate.{tabulate}
use Rattle.sheet.specs.Pixel.{channel, PixelAt, set_channels, set_pixel, StoredAt, Mapped}
use Rattle.sheet.proofs.Tabulated.{tabulated}
use Rattle.sheet.proofs.Filling.{channels_as}

-- four bytes that are stored side by side stand there, and nothing else changed
module _ (d : List ℕ) (k r g b a : ℕ) (room : k + 3 < length d) where
  abbrev stored : List ℕ
  stored = set (set (set (set d k r) (k + 1) g) (k + 2) b) (k + 3) a

  length_stored : length stored ≡ length d
  length_stored = simp length-set refl

  other : (i : ℕ) → (i ≡ k → ⊥) → (i ≡ k + 1 → ⊥) → (i ≡ k + 2 → ⊥) → (i ≡ k + 3 → ⊥) → get_or stored i 0 ≡ get_or d i 0
  other i h₀ h₁ h₂ h₃ =
      get_or-set_other _ (k + 3) i a 0 h₃ ∙ (get_or-set_other _ (k + 2) i b 0 h₂ ∙ (get_or-set_other _ (k + 1) i g 0 h₁ ∙ get_or-set_other d k i r 0 h₀))

  first : get_or stored k 0 ≡ r
  first =
      get_or-set_other _ (k + 3) k a 0 (omega arith) ∙ (get_or-set_other _ (k + 2) k b 0 (omega arith) ∙ (get_or-set_other _ (k + 1) k g 0 (omega arith) ∙ get_or-set_same d k r 0 (omega arith)))

  second : get_or stored (k + 1) 0 ≡ g
  second =
      let l = length-set d k r in
      get_or-set_other _ (k + 3) (k + 1) a 0 (omega arith) ∙ (get_or-set_other _ (k + 2) (k + 1) b 0 (omega arith) ∙ get_or-set_same (set d k r) (k + 1) g 0 (omega arith))

  third : get_or stored (k + 2) 0 ≡ b
  third =
      let l = length-set d k r in
      let m = length-set (set d k r) (k + 1) g in
      get_or-set_other _ (k + 3) (k + 2) a 0 (omega arith) ∙ get_or-set_same (set (set d k r) (k + 1) g) (k + 2) b 0 (omega arith)

  fourth : get_or stored (k + 3) 0 ≡ a
  fourth =
      let l = length-set d k r in
      let m = length-set (set d k r) (k + 1) g in
      let n = length-set (set (set d k r) (k + 1) g) (k + 2) b in
      get_or-set_same (set (set (set d k r) (k + 1) g) (k + 2) b) (k + 3) a 0 (omega arith)

module _ (d : List ℕ) (k p : ℕ) (room : k + 3 < length d) where
  pub length_set_pixel : length (set_pixel d k p) ≡ length d
  unfolding set_channels
  length_set_pixel = length_stored d k _ _ _ _ room

  pub outside : (i : ℕ) → ((k ≤ i) × (i < k + 4) → ⊥) → get_or (set_pixel d k p) i 0 ≡ get_or d i 0
  unfolding set_channels
  outside i h = other d k _ _ _ _ room i (λ e. h (omega arith, omega arith)) (λ e. h (omega arith, omega arith)) (λ e. h (omega arith, omega arith)) (λ e. h (omega arith, omega arith))

  pub pixel_stands : StoredAt (set_pixel d k p) k p
  unfolding set_channels
  pixel_stands zero h = rw add-zero (first d k _ _ _ _ room)
  pixel_stands (suc zero) h = second d k _ _ _ _ room
  pixel_stands (suc (suc zero)) h = third d k _ _ _ _ room
  pixel_stands (suc (suc (suc zero))) h = fourth d k _ _ _ _ room
  pixel_stands (suc (suc (suc (suc c)))) h = absurd (omega arith)

-- d₀ is the sheet where the loop began, and in d its first i pixels are mapped
pub record Mapping {P : Type 0} (number : P → ℕ) (R : P → P → Type 0) (d₀ d : List ℕ) (i : ℕ) : Type 0 where
  pub same : length d ≡ length d₀
  pub mapped : (j : ℕ) → j < i → (p : P) × (q : P) × PixelAt d₀ (4 * j) (number p) × R p q × StoredAt d (4 * j) (number q)
  pub rest : (k : ℕ) → 4 * i ≤ k → get_or d k 0 ≡ get_or d₀ k 0

module _ {P : Type 0} (number : P → ℕ) (R : P → P → Type 0) where
  pub mapping_start : (d : List ℕ) → Mapping number R d d 0
  mapping_start d = record { same = refl; mapped = λ j h. absurd (not-suc-le-zero h); rest = λ k h. refl }

  pub mapping_pixel : {d₀ d : List ℕ} {i : ℕ} (p q : P) → Mapping number R d₀ d i → 4 * i + 3 < length d → PixelAt d (4 * i) (number p) → R p q → Mapping number R d₀ (set_pixel d (4 * i) (number q)) (i + 1)
  mapping_pixel {d₀} {d} {i} p q m room at r = record {
    same = length_set_pixel d (4 * i) (number q) room ∙ m.same;
    mapped = below_more (λ j. (a : P) × (b : P) × PixelAt d₀ (4 * j) (number a) × R a b × StoredAt (set_pixel d (4 * i) (number q)) (4 * j) (number b)) i
        (λ j h. let e = m.mapped j h in (e.0, e.1, e.2, e.3, kept j h e.4))
        (p, q, before, r, pixel_stands d (4 * i) (number q) room);
    rest = λ k h. outside d (4 * i) (number q) room k (λ c. let z = c.1 in omega arith) ∙ m.rest k (omega arith);
  }
    where
      kept : (j : ℕ) → j < i → {n : ℕ} → StoredAt d (4 * j) n → StoredAt (set_pixel d (4 * i) (number q)) (4 * j) n
      kept j h s c l = outside d (4 * i) (number q) room (4 * j + c) (λ z. let a = z.0 in omega arith) ∙ s c l

      before : PixelAt d₀ (4 * i) (number p)
      before = channels_as at (m.rest _ (omega arith)) (m.rest _ (omega arith)) (m.rest _ (omega arith)) (m.rest _ (omega arith))

  pub mapping_done : {d₀ d : List ℕ} (i : ℕ) → Mapping number R d₀ d i → length d₀ ≤ 4 * i → Mapped number R d₀ d
  mapping_done i m h = record { same = m.same; each = λ j l. m.mapped j (omega arith) }

-- a sheet whose pixels are mapped is a table, where the channels of what a pixel is mapped to are the table's bytes
pub painted : {P : Type 0} {number : P → ℕ} {R : P → P → Type 0} (f : ℕ → ℕ) {old new : List ℕ} → length old % 4 ≡ 0 → Mapped number R old new → ((i : ℕ) (p q : P) → PixelAt old (4 * i) (number p) → R p q → (c : ℕ) → c < 4 → channel c (number q) ≡ f (4 * i + c)) → new ≡ tabulate (length old) f
painted {P} {number} {R} f {old} {new} e m h = tabulated new (length old) f m.same (λ k l. byte k l)
  where
    byte : (k : ℕ) → k < length old → get_or new k 0 ≡ f k
    byte k l =
        let z : k ≡ 4 * (k / 4) + k % 4 = omega arith in
        let w : 4 * (k / 4) < length old = omega arith in
        let x : k % 4 < 4 = omega arith in
        let t = m.each (k / 4) w in
        rw z (t.4 (k % 4) x ∙ h (k / 4) t.0 t.1 t.2 t.3 (k % 4) x)
