-- Pixels that are stored along a row, and the row's bytes, which are the definition's.
use Prim.Native.Nat.{ℕ, ◌+◌, ◌*◌, ◌/◌, ◌%◌, ◌<◌}
use mathlib.Core.Path.{◌≡◌, sym, ap, ◌∙◌}
use mathlib.Core.List.{List}
use native.Mathlib.Omega.{arith}
use lib.ListN.{get_or}
use lib.Ieee.{Float, nan}
use Rattle.sheet.specs.Pixel.{channel, column, row, byte_at}
use Rattle.sheet.proofs.Filling.{channel_of_lem}
use Rattle.sheet.proofs.Places.{column_of_place, row_of_place}
use Rattle.sheet.proofs.Strips.{changed_as}
use Rattle.surface.specs.declared.Normal.{Normal}
use Rattle.surface.specs.declared.strip.Row.{Row}
use Rattle.surface.specs.Inner.Rows.{normal_in, normal_of}
use Rattle.lighting.specs.declared.light.Reflection.{Reflection}
use Rattle.lighting.specs.declared.pixel.Color.{Color}
use Rattle.lighting.specs.declared.pixel.Lighting.{Lighting}
use Rattle.lighting.specs.declared.vector.Vector3.{Vector3}
use Rattle.lighting.specs.Light.{light_factor}
use Rattle.lighting.specs.Lighting.{lit_channel, factor_at, lit_at}
use Rattle.lighting.specs.Inner.Pixels.{Lit, along_by, factor_along}
use Rattle.lighting.specs.Inner.Rays.{ray_by}
use Rattle.lighting.specs.Inner.Rows.{Filled, Sloped, ray_at, start_of, LitRow, RowDone}
use Rattle.lighting.proofs.Passes.{factor_is}

-- a pixel's bytes are the row's
pub row_pixel : (reflection : Reflection) (color : Color) (f : ℕ → Float) (i : ℕ) {p : ℕ} → Lit reflection color (f i) p → (c : ℕ) → c < 4 → channel c p ≡ lit_channel reflection color (f ((4 * i + c) / 4)) ((4 * i + c) % 4)
row_pixel reflection color f i lit c h =
    let z : (4 * i + c) / 4 ≡ i = omega arith in
    let m : (4 * i + c) % 4 ≡ c = omega arith in
    channel_of_lem (lit_channel reflection color (f i)) lit c h ∙ rw (z, m)

module _ (l : Lighting) (r : Row) where
  abbrev factor_in : ℕ → Float
  factor_in i = factor_at l r.strip.width r.strip.height r.src.now (r.strip.left + i) r.y

  byte_lit : (j : ℕ) → j < 4 * r.strip.count → lit_channel l.reflection l.color (factor_in (j / 4)) (j % 4) ≡ lit_at l r.strip.width r.strip.height r.src.now (start_of r + j)
  byte_lit j b =
      let w = r.strip.width in
      let x = r.strip.left + j / 4 in
      let inside = r.strip.inside in
      let narrow : x < w = omega arith in
      let low : j % 4 < 4 = omega arith in
      let k : start_of r + j ≡ byte_at w x r.y (j % 4) = omega arith in
      let e : column w (start_of r + j) ≡ x = ap (column w) k ∙ column_of_place w x r.y (j % 4) narrow low in
      let f : row w (start_of r + j) ≡ r.y = ap (row w) k ∙ row_of_place w x r.y (j % 4) narrow low in
      let g : (start_of r + j) % 4 ≡ j % 4 = omega arith in
      sym (rw (e, f, g))

  -- the passes together
  module _ (V : ℕ → Vector3 → Type 0) (S : ℕ → Float → Type 0) (rays : (i : ℕ) (v : Vector3) (n : Float) → i < r.strip.count → V i v → S i n → ray_by l.reflection v n ≡ ray_at l r i) {sums above below : List ℕ} {lengths alongs factors : List Float} (slopes : Sloped l.scale r sums above below lengths) (a : Filled (λ i b t. (v : Vector3) × V i v × (t ≡ along_by l.scale (normal_in r.strip sums above below i r.y) b v)) lengths alongs) (f : Filled (λ i b t. (n : Float) × S i n × (t ≡ factor_along l.reflection l.constant b n)) alongs factors) where
    factor_is_that : (i : ℕ) → i < r.strip.count → get_or factors i nan ≡ factor_in i
    unfolding factor_at
    factor_is_that i p =
        let s = slopes.same in
        let t = a.same in
        let x = a.each i (omega arith) in
        let y = f.each i (omega arith) in
        y.2
        ∙ (ap (λ (b : Float). factor_along l.reflection l.constant b y.0)
        (x.2
        ∙ (ap (λ (n : Normal). along_by l.scale n (get_or lengths i nan) x.0) (slopes.normals i p)
        ∙ ap (λ (b : Float). along_by l.scale (normal_of r i) b x.0) (slopes.each i p)))
        ∙ (factor_is l.scale l.constant (normal_of r i) l.reflection x.0 y.0
        ∙ ap (light_factor l.scale l.constant (normal_of r i)) (rays i x.0 y.0 p x.1 y.1)))

    pub row_done : {d d' : List ℕ} → LitRow l factors r d d' → RowDone l r d d'
    row_done q =
        changed_as _ _ q
        (λ j b. ap (λ (t : Float). lit_channel l.reflection l.color t (j % 4)) (factor_is_that (j / 4) (omega arith)) ∙ byte_lit j b)
