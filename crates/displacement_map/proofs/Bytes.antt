-- The bytes of a pixel are the definition's: the map's two channels send it to one pixel of the picture.
use Rattle.std.proofs.Common.{◌≡◌, ℕ, zero, suc, ◌+◌, ◌*◌, ◌/◌, ◌%◌, ◌<◌, List, get_or, sym, subst, refl, ap, ℤ, ◌∙◌, mod-lt, mod-eq_of_lt, arith, lit<}
use lib.Ieee.{Float}
use Rattle.floats.specs.Round.{round_to}
use Rattle.sheet.specs.Pixel.{column, row, byte_at, channel, PixelAt}
use Rattle.sheet.specs.Tabulate.{tabulate}
use Rattle.sheet.proofs.Filling.{pixel_channel}
use Rattle.sheet.proofs.Places.{column_of_place, row_of_place, channel_of_place}
use Rattle.displacement_map.specs.declared.ColorChannel.{ColorChannel}
use Rattle.displacement_map.specs.declared.ColorChannel.TheVariants.{R, G, B, A}
use Rattle.displacement_map.specs.DisplacementMap.{place, target_of, channel_number, map_at, picture_at, displaced}
use Rattle.displacement_map.specs.declared.axis.Axis.{Axis}
use Rattle.displacement_map.specs.declared.landing.Picture.{Picture}
use Rattle.displacement_map.specs.Inner.Moving.{Moved}
use Rattle.displacement_map.specs.Inner.Rows.{target_along, moved_at}

pub number_few : (selector : ColorChannel) → channel_number selector < 4
number_few R = lit< tt
number_few G = lit< tt
number_few B = lit< tt
number_few A = lit< tt

pub channel_few : (c p : ℕ) → channel c p < 256
channel_few zero p = mod-lt p (lit< tt)
channel_few (suc zero) p = mod-lt (p / 256) (lit< tt)
channel_few (suc (suc zero)) p = mod-lt (p / 65536) (lit< tt)
channel_few (suc (suc (suc c))) p = mod-lt (p / 16777216) (lit< tt)

-- p is the map's pixel at k
module _ (selector : ColorChannel) (map : List ℕ) (k p : ℕ) (q : PixelAt map k p) (aligned : k % 4 ≡ 0) where
  selected_byte : (c : ℕ) → c < 4 → channel (channel_number selector) p ≡ map_at selector map (k + c)
  selected_byte c h =
      let n = channel_number selector in
      let e = pixel_channel map k q n (number_few selector) in
      let at : 4 * ((k + c) / 4) + n ≡ k + n = omega arith in
      sym (ap (λ (j : ℕ). get_or map j 0 % 256) at ∙ ap (λ (b : ℕ). b % 256) (sym e) ∙ mod-eq_of_lt (channel_few n p))

pub byte_few : (selector : ColorChannel) (map : List ℕ) (k : ℕ) → map_at selector map k < 256
byte_few selector map k = mod-lt (get_or map (4 * (k / 4) + channel_number selector) 0) (lit< tt)

-- v is the picture's pixel where the map's pixel p sends column x and row y
module _ (columns rows : Axis) (picture : Picture) (map : List ℕ) (x y p v : ℕ) (X Y : Float) (l : x < picture.width) (q : PixelAt map (4 * (y * picture.width + x)) p)
    (to_x : X ≡ place columns.s columns.scale x (channel (channel_number columns.selector) p)) (to_y : Y ≡ place rows.s rows.scale y (channel (channel_number rows.selector) p)) (moved : Moved picture.src.now picture.width picture.height X Y v) where
  abbrev first : ℕ
  first = 4 * (y * picture.width)

  along : (axis : Axis) (i i' c : ℕ) (z : Float) → c < 4 → z ≡ place axis.s axis.scale i (channel (channel_number axis.selector) p) → i' ≡ i → round_to 31 z ≡ target_along axis map i' (byte_at picture.width x y c)
  unfolding target_of
  along axis i i' c z h e f =
      ap (round_to 31) (e ∙ ap (place axis.s axis.scale i) (selected_byte axis.selector map (4 * (y * picture.width + x)) p q (omega arith) c h)
      ∙ ap (λ (n : ℕ). place axis.s axis.scale n (map_at axis.selector map (byte_at picture.width x y c))) (sym f))

  pub pixel_moved : (c : ℕ) → c < 4 → channel c v ≡ moved_at columns rows picture map (first + (4 * x + c))
  pixel_moved c h =
      let w = picture.width in
      let k = byte_at w x y c in
      let z : k ≡ first + (4 * x + c) = omega arith in
      rw z at (moved c h
      ∙ ap (λ (t : ℤ). picture_at picture.src.now w picture.height t (round_to 31 Y) c) (along columns x (column w k) c X h to_x (column_of_place w x y c l h))
      ∙ ap (λ (t : ℤ). picture_at picture.src.now w picture.height (target_along columns map (column w k) k) t c) (along rows y (row w k) c Y h to_y (row_of_place w x y c l h))
      ∙ ap (λ (n : ℕ). picture_at picture.src.now w picture.height (target_along columns map (column w k) k) (target_along rows map (row w k) k) n) (sym (channel_of_place w x y c l h)))

-- along axes of one scale
pub axes_displace : (columns rows : Axis) (w h : ℕ) (src map : List ℕ) → rows.scale ≡ columns.scale
    → tabulate (4 * w * h) (λ k. picture_at src w h (target_along columns map (column w k) k) (target_along rows map (row w k) k) (k % 4)) ≡ displaced columns.selector rows.selector columns.s rows.s columns.scale w h src map
unfolding displaced
axes_displace columns rows w h src map e =
    let at = λ (scale : Float) (k : ℕ). picture_at src w h (target_along columns map (column w k) k) (target_of rows.s scale (row w k) (map_at rows.selector map k)) (k % 4) in
    subst (λ (scale : Float). tabulate (4 * w * h) (at rows.scale) ≡ tabulate (4 * w * h) (at scale)) e refl
