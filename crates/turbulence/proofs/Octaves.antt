-- The sums over the octaves, channel by channel: what is left to add leads to the result.
use Prim.Native.Nat.{ℕ, zero, suc, ◌+◌, ◌-◌, ◌*◌, ◌≤◌, ◌<◌}
use mathlib.Core.Path.{◌≡◌, refl, sym, ap, ◌∙◌, subst}
use mathlib.Core.Bool.{Bool, true, false}
use mathlib.Core.List.{List, [], ◌∷◌}
use native.Mathlib.Nat.{not-suc-le-zero, mul-pos}
use native.Mathlib.Numerals.{add-one}
use native.Mathlib.Omega.{arith}
use lib.ListN.{length, get_or}
use lib.IntN.{ℤ, pos, negsuc}
use lib.Ieee.{Float, nan, inf, fin, binary64, up, down, unlike, mul, div, of_bits}
use lib.Ieee.Fits.{up_pos, down_pos}
use lib.Ieee.Scale.{round_same}
use Rattle.floats.specs.Operators.{◌⊞◌, ◌⊠◌}
use Rattle.floats.specs.Absolute.{absolute}
use Rattle.sheet.specs.Tabulate.{tabulate}
use Rattle.turbulence.specs.declared.noise.Point.{Point}
use Rattle.turbulence.specs.declared.noise.RowOctave.{RowOctave}
use Rattle.turbulence.specs.declared.noise.ColumnOctave.{ColumnOctave}
use Rattle.turbulence.specs.declared.tables.Tables.{Tables}
use Rattle.turbulence.specs.Constants.{d0, d1, d2}
use Rattle.turbulence.specs.Noise.{corner, point_at, noise, octave, summed}
use Rattle.turbulence.specs.Inner.Rows.{doubled, RowAt}
use Rattle.turbulence.specs.Inner.Columns.{point_with, ColumnAt}
use Rattle.turbulence.specs.Inner.Sums.{Inverse, WithOctave, Sums}
use Rattle.turbulence.proofs.Filled.{element}

-- ---- one octave
module _ (fractal : Bool) (tables : Tables) (p : Point) (inverse : Float) (sums : List Float) {n s : List Float} (noises : n ≡ tabulate 4 (λ c. noise tables.x tables.y c p)) where
  pub as_it_is : fractal ≡ true → s ≡ tabulate 4 (λ c. get_or sums c nan ⊞ get_or n c nan ⊠ inverse) → WithOctave fractal tables p inverse sums s
  unfolding octave
  as_it_is e f ratio i c h =
      let z = ap (λ l. get_or l c nan) noises ∙ element nan 4 _ c h in
      ap (λ l. get_or l c nan) f ∙ element nan 4 _ c h ∙ rw (z, e, i (noise tables.x tables.y c p))

  pub absolutely : fractal ≡ false → s ≡ tabulate 4 (λ c. get_or sums c nan ⊞ absolute (get_or n c nan) ⊠ inverse) → WithOctave fractal tables p inverse sums s
  unfolding octave
  absolutely e f ratio i c h =
      let z = ap (λ l. get_or l c nan) noises ∙ element nan 4 _ c h in
      ap (λ l. get_or l c nan) f ∙ element nan 4 _ c h ∙ rw (z, e, i (absolute (noise tables.x tables.y c p)))

-- ---- a power of two and its inverse
-- both are one fraction, and round alike
inverse_of : (g h : ℤ) → down g * down h ≡ up g * up h → Inverse (fin false 1 g) (fin false 1 h)
unfolding mul div
inverse_of g h e nan = refl
inverse_of g h e (inf s) = refl
inverse_of g h e (fin s m d) =
    round_same binary64 (unlike s false) (m * up d * (1 * up h)) (down d * down h) (m * up d * down g) (1 * up g * down d) (mul-pos (down_pos d) (down_pos h)) (mul-pos (some (up g) (up_pos g)) (down_pos d))
    (turned (m * up d) (up h) (up g) (down d) (down g) (down h) e)
  where
    some : (n : ℕ) → 0 < n → 0 < 1 * n
    some n h = omega arith

    turned : (x u v w p q : ℕ) → p * q ≡ v * u → x * (1 * u) * (1 * v * w) ≡ x * p * (w * q)
    turned x u v w p q e = let m : p * q * (x * w) ≡ v * u * (x * w) = ap (λ (z : ℕ). z * (x * w)) e in omega arith

-- the inverse at the octave k
unfoldable pub halved : ℕ → Float
halved zero = d1
halved (suc k) = halved k ⊠ fin false 1 (negsuc 0)

pub halved_once : (k : ℕ) (i : Float) → i ≡ halved k → i ⊠ fin false 1 (negsuc 0) ≡ halved (k + 1)
unfolding halved
halved_once k i e = rw (add-one, e)

inverse_at : (k : ℕ) → k < 8 → Inverse (doubled k d1) (halved k)
unfolding doubled halved mul of_bits
inverse_at zero h = inverse_of (pos 0) (pos 0) refl
inverse_at (suc zero) h = inverse_of (pos 1) (negsuc 0) refl
inverse_at (suc (suc zero)) h = inverse_of (pos 2) (negsuc 1) refl
inverse_at (suc (suc (suc zero))) h = inverse_of (pos 3) (negsuc 2) refl
inverse_at (suc (suc (suc (suc zero)))) h = inverse_of (pos 4) (negsuc 3) refl
inverse_at (suc (suc (suc (suc (suc zero))))) h = inverse_of (pos 5) (negsuc 4) refl
inverse_at (suc (suc (suc (suc (suc (suc zero)))))) h = inverse_of (pos 6) (negsuc 5) refl
inverse_at (suc (suc (suc (suc (suc (suc (suc zero))))))) h = inverse_of (pos 7) (negsuc 6) refl
inverse_at (suc (suc (suc (suc (suc (suc (suc (suc k)))))))) h = absurd (omega arith)

-- ---- the octaves that are left
module _ (fractal : Bool) (octaves : ℕ) (tables : Tables) (x0 y0 : Float) where
  -- channel c's sum over n octaves
  abbrev sum_of : (c n : ℕ) → (x y ratio sum : Float) → Float
  sum_of c n x y ratio sum = summed fractal tables.selector tables.x tables.y c n x y ratio sum

  turn : (c : ℕ) (s t : Float) (x y ratio : Float) (left : ℕ) {end : Float} → 0 < left → t ≡ s ⊞ octave fractal (noise tables.x tables.y c (point_at tables.selector x y)) ratio
      → sum_of c left x y ratio s ≡ end → sum_of c (left - 1) (x ⊠ d2) (y ⊠ d2) (ratio ⊠ d2) t ≡ end
  unfolding summed
  turn c s t x y ratio zero h e f = absurd (not-suc-le-zero h)
  turn c s t x y ratio (suc left) h e f = let less : suc left - 1 ≡ left = omega arith in rw (e, less) f

  end_at : (c : ℕ) (s x y ratio : Float) (left : ℕ) {end : Float} → left ≤ 0 → sum_of c left x y ratio s ≡ end → s ≡ end
  unfolding summed
  end_at c s x y ratio zero h f = f
  end_at c s x y ratio (suc left) h f = absurd (not-suc-le-zero h)

  -- from the octave k on, what is left leads from these sums to the whole ones
  abbrev pub LeadsAt : List Float → ℕ → Type 0
  LeadsAt sums k = (c : ℕ) → c < 4 → sum_of c (octaves - k) (doubled k x0) (doubled k y0) (doubled k d1) (get_or sums c nan) ≡ sum_of c octaves x0 y0 d1 d0

  pub leads_start : LeadsAt (d0 ∷ d0 ∷ d0 ∷ d0 ∷ []) 0
  unfolding doubled
  leads_start c h = let e : octaves - 0 ≡ octaves = omega arith in rw (e, none c h) refl
    where
      none : (c : ℕ) → c < 4 → get_or (d0 ∷ d0 ∷ d0 ∷ d0 ∷ []) c nan ≡ d0
      none zero h = refl
      none (suc zero) h = refl
      none (suc (suc zero)) h = refl
      none (suc (suc (suc zero))) h = refl
      none (suc (suc (suc (suc c)))) h = absurd (omega arith)

  -- the point of the column's and the row's octave k
  point_there : (column : List ColumnOctave) (row : List RowOctave) (k : ℕ) (i : ColumnOctave) (j : RowOctave) {p : Point} → k < 8 → k < length column → ColumnAt tables x0 column → RowAt y0 row
      → p ≡ point_with tables (get_or column k i) (get_or row k j) → p ≡ point_at tables.selector (doubled k x0) (doubled k y0)
  unfolding point_at corner
  point_there column row k i j {p} h l a r e =
      let u = ap (λ v. get_or v k i) a ∙ element i (length column) _ k l in
      let v = ap (λ w. get_or w k j) r ∙ element j 8 _ k h in
      e ∙ rw (u, v) refl

  pub leads_more : (column : List ColumnOctave) (row : List RowOctave) (k : ℕ) (i : ColumnOctave) (j : RowOctave) (sums s : List Float) {p : Point} {inverse : Float} → octaves ≤ 8 → octaves ≡ length column → k < octaves
      → ColumnAt tables x0 column → RowAt y0 row → p ≡ point_with tables (get_or column k i) (get_or row k j) → inverse ≡ halved k → WithOctave fractal tables p inverse sums s → LeadsAt sums k → LeadsAt s (k + 1)
  unfolding doubled
  leads_more column row k i j sums s {p} {inverse} few long h a r e q w l c b =
      let fewer : octaves - (k + 1) ≡ octaves - k - 1 = omega arith in
      let below : k < 8 = omega arith in
      let inside : k < length column = omega arith in
      let point = point_there column row k i j below inside a r e in
      let ratio = subst (Inverse (doubled k d1)) (sym q) (inverse_at k below) in
      let added = w (doubled k d1) ratio c b ∙ ap (λ o. get_or sums c nan ⊞ octave fractal (noise tables.x tables.y c o) (doubled k d1)) point in
      rw (fewer, add-one) (turn c (get_or sums c nan) (get_or s c nan) (doubled k x0) (doubled k y0) (doubled k d1) (octaves - k) (omega arith) added (l c b))

  pub leads_done : (s : List Float) (k : ℕ) → octaves ≤ k → LeadsAt s k → Sums fractal octaves tables x0 y0 s
  leads_done s k h l c b = end_at c (get_or s c nan) (doubled k x0) (doubled k y0) (doubled k d1) (octaves - k) (omega arith) (l c b)

pub doubled_once : (k : ℕ) (y0 y : Float) → y ≡ doubled k y0 → y ⊠ d2 ≡ doubled (k + 1) y0
unfolding doubled
doubled_once k y0 y e = rw (add-one, e)
