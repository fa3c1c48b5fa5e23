-- Every alpha that a byte of a lighting reads is needed, so its reach is the least: of a clear sheet white light from above makes 255, and an
-- opaque pixel beside the byte's own makes the surface lean, and less light of it. The pixel's own alpha hides a point just above it. Diffuse
-- light is opaque everywhere, so that its own alpha needs nothing: docs/LAW.md counts what it reads all the same.
use Prim.Native.Nat.{ℕ, zero, suc, ◌+◌, ◌-◌, ◌*◌, ◌%◌, ◌^◌, ◌≤◌, ◌<◌, max}
use mathlib.Core.Path.{◌≡◌, refl, sym, ap, ◌∙◌}
use mathlib.Core.Bool.{Bool, true, false, cond, true≢false}
use mathlib.Core.List.{List}
use mathlib.Core.Logic.{◌⊎◌, inl, inr}
use native.Mathlib.Omega.{arith}
use native.Mathlib.Decide.{ℕ_discrete}
use borrow.Author.Tests.{ne_eqb, lt-ltb, le-ltb}
use lib.ListN.{get_or, replicate}
use lib.Seq.{get_or-set_other}
use lib.Dec.{T, eqb, eqb→eq, ltb, ltb→lt, lit<}
use lib.IntN.{pos}
use lib.Ieee.{Float, nan, inf, fin, binary32, up, down, of_bits, of_int, to_bits, to_unsigned, add, sub, sum, neg, mul, div, round, units, odd, size, span, climb, lt, le, eq}
use lib.Ieee.Back.{round_whole}
use lib.Ieee.Exact.{HasValue}
use lib.Ieee.Fits.{down_pos}
use lib.Ieee.Order.{le_of_values}
use lib.Ieee.Scale.{finite}
use lib.Count.{count_trailing_zeros}
use Rattle.floats.specs.Channel.{normalized}
use Rattle.floats.specs.Constants.{c0, c1, c65536, m65536}
use Rattle.floats.specs.Operators.{◌⊖◌, ◌⊗◌}
use Rattle.floats.specs.Order.{near_zero}
use Rattle.floats.specs.Root.{root_at, root, round_root, sqrt_of}
use Rattle.floats.specs.Unit.{unit_triple}
use Rattle.floats.proofs.EveryByte.{every, below}
use Rattle.floats.proofs.Fractions.{sub_at}
use Rattle.floats.proofs.Tests.{is_true}
use Rattle.sheet.specs.Answer.{Answer, Done}
use Rattle.sheet.specs.Pixel.{column, row, byte_at}
use Rattle.sheet.specs.Size.{side_limit}
use Rattle.sheet.proofs.Places.{place_inside, column_inside, row_inside, column_of_place, row_of_place}
use Rattle.sheet.proofs.Apart.{Bytes, Apart, Needed, all_but, length_all_but, at_but, not_at_but, all_same, bytes_inside}
use Rattle.surface.specs.declared.Normal.{Normal}
use Rattle.surface.specs.Surface.{alpha_at, ahead, behind, lean, at_edge, lean_factor, normal_at}
use Rattle.surface.specs.Inner.Leans.{factor_of}
use Rattle.surface.proofs.Rules.{normal}
use Rattle.surface.proofs.Tilts.{weighted_none, tilt, Tilted, tilted}
use Rattle.lighting.specs.declared.light.LightSource.{LightSource}
use Rattle.lighting.specs.declared.light.LightSource.TheVariants.{Distant, Point}
use Rattle.lighting.specs.declared.light.Reflection.{Reflection}
use Rattle.lighting.specs.declared.light.Reflection.TheVariants.{Diffuse, Specular}
use Rattle.lighting.specs.declared.light.Ray.{Ray}
use Rattle.lighting.specs.declared.light.Ray.TheVariants.{Light, Short}
use Rattle.lighting.specs.declared.pixel.Color.{Color}
use Rattle.lighting.specs.declared.pixel.Lighting.{Lighting}
use Rattle.lighting.specs.Vectors as Vectors
use Rattle.lighting.specs.Vectors.{vector}
use Rattle.lighting.specs.Light.{to_point, light_vector, half_ray, ray_of, flat, along, light_factor}
use Rattle.lighting.specs.Lighting.{c256, finite_numbers, numbers_in_range, diffuse_answer, specular_answer, lit_colour, colour_of, lit_channel, factor_at, small, lit}
use Rattle.lighting.specs.Reads.{Reads}
use Rattle.lighting.proofs.Reading.{byte_lit}

abbrev white : Color
white = record { red = 255; green = 255; blue = 255 }

-- a colour of white light along a ray, on a steep surface
abbrev shade : Ray → Normal → ℕ
shade ray n = lit_colour 255 (light_factor c256 c1 n ray)

-- light from above
abbrev above : Reflection → Ray
above reflection = ray_of reflection (vector c0 c0 c1)

-- and from below
abbrev underneath : Reflection → Ray
underneath Diffuse = Light (vector c0 c0 (neg c1))
underneath Specular = Short

-- ---- flat and leaning surfaces
bright : (reflection : Reflection) (a b : Float) → shade (above reflection) (normal a b (pos 0) (pos 0)) ≡ 255
unfolding lit_colour half_ray along flat Vectors.dot Vectors.length sqrt_of round_root root root_at near_zero of_bits to_bits of_int to_unsigned add mul div sum round units odd size span climb count_trailing_zeros lt le eq neg
bright Diffuse a b = refl
bright Specular a b = refl

-- the surface is flat, or less bright
dark : Reflection → (e d : Bool) → ℕ → ℕ → Bool
dark reflection e d i j = cond (eqb (i + j) 0) true (ltb (shade (above reflection) (normal (factor_of e d) (factor_of d e) (tilt i) (tilt j))) 255)

all_dark : (reflection : Reflection) (e d : Bool) → T (every (λ i. every (dark reflection e d i) 5) 5)
unfolding every dark lit_colour half_ray along flat Vectors.dot Vectors.length sqrt_of round_root root root_at near_zero of_bits to_bits of_int to_unsigned add mul div sum round units odd size span climb count_trailing_zeros lt le eq neg
all_dark Diffuse true true = tt
all_dark Diffuse true false = tt
all_dark Diffuse false true = tt
all_dark Diffuse false false = tt
all_dark Specular true true = tt
all_dark Specular true false = tt
all_dark Specular false true = tt
all_dark Specular false false = tt

leaning : (reflection : Reflection) (e d : Bool) (i j : ℕ) → i < 5 → j < 5 → (i ≡ 0 → j ≡ 0 → ⊥) → shade (above reflection) (normal (factor_of e d) (factor_of d e) (tilt i) (tilt j)) < 255
unfolding dark
leaning reflection e d i j p q s =
    let t = below (dark reflection e d i) 5 (below (λ i. every (dark reflection e d i) 5) 5 (all_dark reflection e d) i p) j q in
    let z = ne_eqb (i + j) 0 (λ z. s (omega arith) (omega arith)) in
    ltb→lt _ _ (rw z at t)

-- light from below shows nowhere
hidden : Reflection → (e d : Bool) → ℕ → ℕ → Bool
hidden reflection e d i j = eqb (shade (underneath reflection) (normal (factor_of e d) (factor_of d e) (tilt i) (tilt j))) 0

all_hidden : (reflection : Reflection) (e d : Bool) → T (every (λ i. every (hidden reflection e d i) 5) 5)
unfolding every hidden lit_colour along flat Vectors.dot Vectors.length sqrt_of round_root root root_at near_zero of_bits to_bits of_int to_unsigned add mul div sum round units odd size span climb count_trailing_zeros lt le eq neg
all_hidden Diffuse true true = tt
all_hidden Diffuse true false = tt
all_hidden Diffuse false true = tt
all_hidden Diffuse false false = tt
all_hidden Specular true true = tt
all_hidden Specular true false = tt
all_hidden Specular false true = tt
all_hidden Specular false false = tt

unlit : (reflection : Reflection) (e d : Bool) (i j : ℕ) → i < 5 → j < 5 → shade (underneath reflection) (normal (factor_of e d) (factor_of d e) (tilt i) (tilt j)) ≡ 0
unfolding hidden
unlit reflection e d i j p q = eqb→eq _ _ (below (hidden reflection e d i) 5 (below (λ i. every (hidden reflection e d i) 5) 5 (all_hidden reflection e d) i p) j q)

-- ---- a clear sheet, and one whose pixel in column u and row v is opaque
module _ (w h u v : ℕ) (p : u < w) (q : v < h) where
  clear : List ℕ
  clear = all_but (4 * w * h) 0 (byte_at w u v 3) 0

  spot : List ℕ
  spot = all_but (4 * w * h) 0 (byte_at w u v 3) 255

  within_sheet : byte_at w u v 3 < 4 * w * h
  within_sheet = place_inside w h u v 3 p q (omega arith)

  clear_alpha : (x y : ℕ) → x < w → y < h → alpha_at w clear x y ≡ 0
  unfolding clear
  clear_alpha x y a b = all_same (4 * w * h) 0 (byte_at w u v 3) within_sheet (byte_at w x y 3) (place_inside w h x y 3 a b (omega arith))

  spot_on : alpha_at w spot u v ≡ 255
  unfolding spot
  spot_on = at_but (4 * w * h) 0 (byte_at w u v 3) within_sheet 255

  spot_off : (x y : ℕ) → x < w → y < h → (x ≡ u → y ≡ v → ⊥) → alpha_at w spot x y ≡ 0
  unfolding spot
  spot_off x y a b d = not_at_but (4 * w * h) 0 (byte_at w u v 3) within_sheet 255 (byte_at w x y 3) (place_inside w h x y 3 a b (omega arith)) (λ e. d (same_column e) (same_row e))
    where
      same_column : byte_at w x y 3 ≡ byte_at w u v 3 → x ≡ u
      same_column e = sym (column_of_place w x y 3 a (omega arith)) ∙ (ap (column w) e ∙ column_of_place w u v 3 p (omega arith))

      same_row : byte_at w x y 3 ≡ byte_at w u v 3 → y ≡ v
      same_row e = sym (row_of_place w x y 3 a (omega arith)) ∙ (ap (row w) e ∙ row_of_place w u v 3 p (omega arith))

  -- they differ at that pixel's alpha alone
  bytes_of : (c : ℕ) → c ≤ 255 → Bytes (all_but (4 * w * h) 0 (byte_at w u v 3) c)
  bytes_of c hc = bytes_inside (all_but (4 * w * h) 0 (byte_at w u v 3) c) (λ i l. go i (let z = length_all_but (4 * w * h) 0 (byte_at w u v 3) within_sheet c in omega arith) (ℕ_discrete i (byte_at w u v 3)))
    where
      go : (i : ℕ) → i < 4 * w * h → Dec (i ≡ byte_at w u v 3) → get_or (all_but (4 * w * h) 0 (byte_at w u v 3) c) i 0 ≤ 255
      go i l (yes e) = let z = at_but (4 * w * h) 0 (byte_at w u v 3) within_sheet c in rw (e, z) hc
      go i l (no d) = rw (not_at_but (4 * w * h) 0 (byte_at w u v 3) within_sheet c i l d) (omega arith)

  apart : Apart (4 * w * h) (byte_at w u v 3) clear spot
  unfolding clear spot
  apart = record {
    first_length = length_all_but (4 * w * h) 0 (byte_at w u v 3) within_sheet 0;
    second_length = length_all_but (4 * w * h) 0 (byte_at w u v 3) within_sheet 255;
    first_bytes = bytes_of 0 (omega arith);
    second_bytes = bytes_of 255 (omega arith);
    same = λ i d. get_or-set_other (replicate (4 * w * h) 0) (byte_at w u v 3) i 0 0 d ∙ sym (get_or-set_other (replicate (4 * w * h) 0) (byte_at w u v 3) i 255 0 d);
    different = λ e. let a = at_but (4 * w * h) 0 (byte_at w u v 3) within_sheet 0 in let b = at_but (4 * w * h) 0 (byte_at w u v 3) within_sheet 255 in omega arith;
  }

  -- ---- how the pixel in column x and row y leans
  module _ (x y : ℕ) (hx : x < w) (hy : y < h) where
    clear_normal : normal_at w h clear x y ≡ normal (lean_factor w h x y) (lean_factor h w y x) (pos 0) (pos 0)
    unfolding normal_at lean
    clear_normal =
        rw (
          weighted_none h (alpha_at w clear (ahead w x)) y hy (λ j l. clear_alpha (ahead w x) j (omega arith) l),
          weighted_none h (alpha_at w clear (behind x)) y hy (λ j l. clear_alpha (behind x) j (omega arith) l),
          weighted_none w (λ i. alpha_at w clear i (ahead h y)) x hx (λ i l. clear_alpha i (ahead h y) l (omega arith)),
          weighted_none w (λ i. alpha_at w clear i (behind y)) x hx (λ i l. clear_alpha i (behind y) l (omega arith)),
        )

    module _ (two : 1 < w) (too : 1 < h) (a₁ : x ≤ u + 1) (a₂ : u ≤ x + 1) (b₁ : y ≤ v + 1) (b₂ : v ≤ y + 1) where
      tilt_x : Tilted ((u ≡ ahead w x) ⊎ (u ≡ behind x)) (lean w h (alpha_at w spot) x y)
      tilt_x =
          tilted w h (alpha_at w spot) x y u v hx hy q b₁ b₂ two
          (record { on = spot_on; off = λ i l d. spot_off u i p l (λ e f. d f) })
          (λ k l d i m. spot_off k i l m (λ e f. d e))

      tilt_y : Tilted ((v ≡ ahead h y) ⊎ (v ≡ behind y)) (lean h w (λ j i. alpha_at w spot i j) y x)
      tilt_y =
          tilted h w (λ j i. alpha_at w spot i j) y x v u hy hx p a₁ a₂ too
          (record { on = spot_on; off = λ i l d. spot_off i v l q (λ e f. d e) })
          (λ k l d i m. spot_off i k m l (λ e f. d f))

      spot_unlit : (reflection : Reflection) → shade (underneath reflection) (normal_at w h spot x y) ≡ 0
      unfolding normal_at lean_factor
      spot_unlit reflection =
          rw (tilt_x.is, tilt_y.is)
          (unlit reflection (at_edge w x) (at_edge h y) tilt_x.which tilt_y.which tilt_x.few tilt_y.few)

      -- where the opaque pixel is another one
      spot_dark : (reflection : Reflection) → (x ≡ u → y ≡ v → ⊥) → shade (above reflection) (normal_at w h spot x y) < 255
      unfolding normal_at lean_factor
      spot_dark reflection d =
          rw (tilt_x.is, tilt_y.is)
          (leaning reflection (at_edge w x) (at_edge h y) tilt_x.which tilt_y.which tilt_x.few tilt_y.few
          (λ e f. d (level_x e) (level_y f)))
        where
          level_x : tilt_x.which ≡ 0 → x ≡ u
          level_x e = go (ℕ_discrete x u)
            where
              go : Dec (x ≡ u) → x ≡ u
              go (yes z) = z
              go (no z) = absurd (tilt_x.some (beside z (ℕ_discrete u (behind x))) e)
                where
                  beside : (x ≡ u → ⊥) → Dec (u ≡ behind x) → (u ≡ ahead w x) ⊎ (u ≡ behind x)
                  beside z (yes s) = inr s
                  beside z (no s) = inl (omega arith)

          level_y : tilt_y.which ≡ 0 → y ≡ v
          level_y e = go (ℕ_discrete y v)
            where
              go : Dec (y ≡ v) → y ≡ v
              go (yes z) = z
              go (no z) = absurd (tilt_y.some (beside z (ℕ_discrete v (behind y))) e)
                where
                  beside : (y ≡ v → ⊥) → Dec (v ≡ behind y) → (v ≡ ahead h y) ⊎ (v ≡ behind y)
                  beside z (yes s) = inr s
                  beside z (no s) = inl (omega arith)

-- ---- a byte of white light is its shade
-- a steep surface in white light
abbrev whitely : Reflection → LightSource → Lighting
whitely reflection light = record { reflection = reflection; light = light; scale = c256; constant = c1; color = white }

-- the channels that light shows in: the colours, and of specular light alpha
abbrev pub Shown : Reflection → ℕ → Type 0
Shown Diffuse c = c ≡ 3 → ⊥
Shown Specular c = Unit {0}

colour_white : (f : Float) (c : ℕ) → lit_colour (colour_of white c) f ≡ lit_colour 255 f
colour_white f zero = refl
colour_white f (suc zero) = refl
colour_white f (suc (suc c)) = refl

channel_white : (reflection : Reflection) (f : Float) (c : ℕ) → Shown reflection c → lit_channel reflection white f c ≡ lit_colour 255 f
channel_white Diffuse f c n = rw (ne_eqb c 3 n) (colour_white f c)
channel_white Specular f c n = go (eqb c 3) (colour_white f c)
  where
    go : (t : Bool) → lit_colour (colour_of white c) f ≡ lit_colour 255 f → cond t (max (max (lit_colour 255 f) (lit_colour 255 f)) (lit_colour 255 f)) (lit_colour (colour_of white c) f) ≡ lit_colour 255 f
    go true e = omega arith
    go false e = e

module _ (reflection : Reflection) (light : LightSource) (w h : ℕ) (p : 3 ≤ w) (q : 3 ≤ h) (s : List ℕ) (k : ℕ) (n : Shown reflection (k % 4)) (l : k < 4 * w * h) where
  byte_shade : get_or (lit (whitely reflection light) w h s) k 0 ≡ shade (ray_of reflection (light_vector light c256 (alpha_at w s (column w k) (row w k)) (column w k) (row w k))) (normal_at w h s (column w k) (row w k))
  unfolding small factor_at
  byte_shade =
      byte_lit (whitely reflection light) w h s k l ∙ rw (le-ltb w 3 p, le-ltb h 3 q) (channel_white reflection (factor_at (whitely reflection light) w h s (column w k) (row w k)) (k % 4) n)

-- ---- the lights
abbrev answered : Reflection → LightSource → Answer
answered Diffuse light = diffuse_answer light c256 c1
answered Specular light = specular_answer light c256 c1 c1

-- a light with which a lighting is accepted, and byte k needs byte j
pub record NeededBy (reflection : Reflection) (w h k j : ℕ) : Type 0 where
  pub light : LightSource
  pub accepted : answered reflection light ≡ Done
  pub needs : Needed (4 * w * h) j k (lit (whitely reflection light) w h)

above_accepted : (reflection : Reflection) → answered reflection (Distant c0 c0 c1) ≡ Done
unfolding diffuse_answer specular_answer finite_numbers numbers_in_range unit_triple of_bits le lt eq
above_accepted Diffuse = refl
above_accepted Specular = refl

module _ (reflection : Reflection) (w h : ℕ) (p : 3 ≤ w) (q : 3 ≤ h) (k : ℕ) (n : Shown reflection (k % 4)) (l : k < 4 * w * h) (u v : ℕ) (hu : u < w) (hv : v < h) where
  round_needed : column w k ≤ u + 1 → u ≤ column w k + 1 → row w k ≤ v + 1 → v ≤ row w k + 1 → (column w k ≡ u → row w k ≡ v → ⊥) → NeededBy reflection w h k (byte_at w u v 3)
  round_needed a₁ a₂ b₁ b₂ d =
      let wide : 0 < w = omega arith in
      let hx = column_inside w h k wide l in
      let hy = row_inside w h k wide l in
      record {
        light = Distant c0 c0 c1;
        accepted = above_accepted reflection;
        needs = record {
          first = clear w h u v hu hv;
          second = spot w h u v hu hv;
          apart = apart w h u v hu hv;
          told = λ e.
              let lit-clear = byte_shade reflection (Distant c0 c0 c1) w h p q (clear w h u v hu hv) k n l ∙ (ap (shade (above reflection)) (clear_normal w h u v hu hv (column w k) (row w k) hx hy) ∙ bright reflection _ _) in
              let lit-spot = byte_shade reflection (Distant c0 c0 c1) w h p q (spot w h u v hu hv) k n l in
              let less = spot_dark w h u v hu hv (column w k) (row w k) hx hy (omega arith) (omega arith) a₁ a₂ b₁ b₂ reflection d in
              omega arith;
        };
      }

-- ---- a point just above a pixel
abbrev as_float : ℕ → Float
as_float n = of_int binary32 (pos n)

-- what a whole number's value tells of it
module _ (x : Float) (n : ℕ) (v : HasValue x false n 1) where
  less_itself : x ⊖ x ≡ c0
  unfolding of_bits round units odd size span climb count_trailing_zeros
  less_itself = sub_at binary32 x x n 1 n 1 (lit< tt) (lit< tt) v v (omega arith) ∙ ap (λ (m : ℕ). round binary32 false m 1) (let z : n * 1 - n * 1 ≡ 0 = omega arith in z)

  below_top : n ≤ 65536 → le x c65536 ≡ true
  unfolding of_bits
  below_top l = sym (is_true (le x c65536) (le_of_values x c65536 n 1 65536 1 (lit< tt) (lit< tt) v (refl, refl) (omega arith)))

value_finite : (x : Float) (n : ℕ) → HasValue x false n 1 → finite x ≡ true
value_finite nan n v = absurd v
value_finite (inf s) n v = absurd v
value_finite (fin s m e) n v = refl

above_bottom : (x : Float) (n : ℕ) → HasValue x false n 1 → le m65536 x ≡ true
unfolding of_bits le lt
above_bottom nan n v = absurd v
above_bottom (inf s) n v = absurd v
above_bottom (fin true m e) n v = absurd (true≢false v.0)
above_bottom (fin false m e) n v = let p = down_pos e in rw (lt-ltb 0 (65536 * down e + m * up e * 1) (omega arith))

-- a column or a row as a float
place_value : (n : ℕ) → n < side_limit → HasValue (as_float n) false n 1
unfolding of_int
place_value n l = round_whole binary32 false n (let z : n ≤ 2 ^ 24 = omega arith in z)

in_range : (n : ℕ) → n < side_limit → (finite (as_float n) ≡ true) × (le m65536 (as_float n) ≡ true) × (le (as_float n) c65536 ≡ true)
in_range n l = let v = place_value n l in (value_finite (as_float n) n v, above_bottom (as_float n) n v, below_top (as_float n) n v (omega arith))

place_less : (n : ℕ) → n < side_limit → as_float n ⊖ as_float n ≡ c0
place_less n l = less_itself (as_float n) n (place_value n l)

clear_below_it : Vectors.unit_of (vector c0 c0 (c1 ⊖ normalized 0 ⊗ c256)) ≡ vector c0 c0 c1
unfolding normalized Vectors.unit_of Vectors.dot Vectors.length sqrt_of round_root root root_at near_zero of_bits to_bits of_int add sub mul div sum round units odd size span climb count_trailing_zeros lt le eq neg
clear_below_it = refl

opaque_above_it : (reflection : Reflection) → ray_of reflection (Vectors.unit_of (vector c0 c0 (c1 ⊖ normalized 255 ⊗ c256))) ≡ underneath reflection
unfolding half_ray normalized Vectors.unit_of Vectors.dot Vectors.length sqrt_of round_root root root_at near_zero of_bits to_bits of_int add sub mul div sum round units odd size span climb count_trailing_zeros lt le eq neg
opaque_above_it Diffuse = refl
opaque_above_it Specular = refl

the_rest : (reflection : Reflection) → answered reflection (Point c1 c1 c1) ≡ Done
unfolding diffuse_answer specular_answer finite_numbers numbers_in_range of_bits le lt eq
the_rest Diffuse = refl
the_rest Specular = refl

module _ (x y : ℕ) (p : x < side_limit) (q : y < side_limit) where
  point_accepted : (reflection : Reflection) → answered reflection (Point (as_float x) (as_float y) c1) ≡ Done
  unfolding diffuse_answer specular_answer finite_numbers numbers_in_range of_bits le
  point_accepted Diffuse = let a = in_range x p in let b = in_range y q in rw (a.0, b.0, a.1, a.2, b.1, b.2) (the_rest Diffuse)
  point_accepted Specular = let a = in_range x p in let b = in_range y q in rw (a.0, b.0, a.1, a.2, b.1, b.2) (the_rest Specular)

  -- from a clear pixel the point is straight above, and from an opaque one straight below
  from_clear : to_point (as_float x) (as_float y) c1 c256 0 x y ≡ vector c0 c0 c1
  unfolding to_point
  from_clear = rw (place_less x p, place_less y q) clear_below_it

  from_opaque : (reflection : Reflection) → ray_of reflection (to_point (as_float x) (as_float y) c1 c256 255 x y) ≡ underneath reflection
  unfolding to_point
  from_opaque reflection = rw (place_less x p, place_less y q) (opaque_above_it reflection)

module _ (reflection : Reflection) (w h : ℕ) (p : 3 ≤ w) (q : 3 ≤ h) (a : w ≤ side_limit) (b : h ≤ side_limit) (k : ℕ) (n : Shown reflection (k % 4)) (l : k < 4 * w * h) where
  own_needed : NeededBy reflection w h k (byte_at w (column w k) (row w k) 3)
  own_needed =
      let wide : 0 < w = omega arith in
      let x = column w k in
      let y = row w k in
      let hx = column_inside w h k wide l in
      let hy = row_inside w h k wide l in
      let nx : x < side_limit = omega arith in
      let ny : y < side_limit = omega arith in
      let light = Point (as_float x) (as_float y) c1 in
      let cl = clear w h x y hx hy in
      let sp = spot w h x y hx hy in
      record {
        light = light;
        accepted = point_accepted x y nx ny reflection;
        needs = record {
          first = cl;
          second = sp;
          apart = apart w h x y hx hy;
          told = λ e.
              let e₁ = ap (λ (c : ℕ). shade (ray_of reflection (to_point (as_float x) (as_float y) c1 c256 c x y)) (normal_at w h cl x y)) (clear_alpha w h x y hx hy x y hx hy) in
              let e₂ = ap (λ v. shade (ray_of reflection v) (normal_at w h cl x y)) (from_clear x y nx ny) in
              let e₃ = ap (shade (above reflection)) (clear_normal w h x y hx hy x y hx hy) in
              let lit-clear = byte_shade reflection light w h p q cl k n l ∙ (e₁ ∙ (e₂ ∙ (e₃ ∙ bright reflection _ _))) in
              let f₁ = ap (λ (c : ℕ). shade (ray_of reflection (to_point (as_float x) (as_float y) c1 c256 c x y)) (normal_at w h sp x y)) (spot_on w h x y hx hy) in
              let f₂ = ap (λ r. shade r (normal_at w h sp x y)) (from_opaque x y nx ny reflection) in
              let f₃ = spot_unlit w h x y hx hy x y hx hy (omega arith) (omega arith) (omega arith) (omega arith) (omega arith) (omega arith) reflection in
              let lit-spot = byte_shade reflection light w h p q sp k n l ∙ (f₁ ∙ (f₂ ∙ f₃)) in
              omega arith;
        };
      }

  -- every byte that byte k reads
  pub reads_needed : (j : ℕ) → Reads w h k j → NeededBy reflection w h k j
  reads_needed j r = rw r.is (go (ℕ_discrete (column w k) r.x) (ℕ_discrete (row w k) r.y))
    where
      go : Dec (column w k ≡ r.x) → Dec (row w k ≡ r.y) → NeededBy reflection w h k (byte_at w r.x r.y 3)
      go (yes e) (yes f) = rw (← e, ← f) own_needed
      go (no e) f = round_needed reflection w h p q k n l r.x r.y r.near_column.inside r.near_row.inside r.near_column.low r.near_column.high r.near_row.low r.near_row.high (λ z s. e z)
      go (yes e) (no f) = round_needed reflection w h p q k n l r.x r.y r.near_column.inside r.near_row.inside r.near_column.low r.near_column.high r.near_row.low r.near_row.high (λ z s. f s)
