-- No byte of the map that a byte of the result reads is read in vain: by sx = sy = 1 and scale = 2 a byte 128 leaves the place, and a byte 255 moves it by one. And every byte of the
-- picture to which a map sends a byte is needed. docs/LAW.md counts bytes of the picture all the same that no map sends it to: the columns and rows at D itself, which is one more than any
-- target's distance (Distance.target_near), and those between the 256 targets where |s * scale| is above 255.
use Rattle.std.proofs.Common.{◌≡◌, ℕ, suc, ◌+◌, ◌*◌, ◌/◌, ◌%◌, ◌<◌, ◌≤◌, Bool, true, false, cond, T, ltb, leb, List, get_or, replicate, ℤ, pos, sym, refl, ap, ◌∙◌, subst, ⊎_elim, lt_of_lt_of_le, le_of_lt, mul-le-mul_right, zero-lt-suc, mul_assoc, lt_of_mul-lt-mul_right, arith, lit<, leb→le, get_or-set_other, ltb-true, lt-ltb}
use native.Mathlib.Decide.{ℕ_discrete}
use lib.Ieee.{Float, binary32, round, sum, add, sub, mul, div, of_int, of_bits}
use lib.Ieee.Exact.{HasValue}
use lib.Ieee.Positive.{num, den, den_pos}
use Rattle.floats.specs.Channel.{normalized}
use Rattle.floats.specs.Constants.{c1}
use Rattle.floats.specs.Operators.{◌⊕◌}
use Rattle.floats.specs.Round.{round_to}
use Rattle.floats.proofs.Fractions.{add_at}
use Rattle.floats.proofs.RoundedWhole.{RoundsTo, rounds_to}
use Rattle.sheet.specs.Pixel.{column, row, byte_at}
use Rattle.sheet.specs.Size.{Sized, side_limit}
use Rattle.sheet.proofs.Apart.{Needed, all_but, length_all_but, at_but, not_at_but, all_same, bytes_all_but, needed}
use Rattle.sheet.proofs.Places.{place_inside, column_inside, row_inside, byte_place, column_of_place, row_of_place}
use Rattle.displacement_map.specs.declared.ColorChannel.{ColorChannel}
use Rattle.displacement_map.specs.DisplacementMap.{offset, shift, place, target_of, channel_number, map_at, picture_at, displaced}
use Rattle.displacement_map.specs.Reads.{ReadsMap}
use Rattle.displacement_map.proofs.Distance.{column_value}
use Rattle.displacement_map.proofs.Bytes.{number_few}
use Rattle.displacement_map.proofs.Reading.{byte_displaced, reads_inside_map}

-- ---- the picture, whatever the parameters and the map: x and y are the column and the row to which the map sends byte k
module _ (xs ys : ColorChannel) (sx sy scale : Float) (w h : ℕ) (map : List ℕ) (k x y : ℕ) (l : k < 4 * w * h) (p : x < w) (q : y < h) (ex : target_of sx scale (column w k) (map_at xs map k) ≡ pos x) (ey : target_of sy scale (row w k) (map_at ys map k) ≡ pos y) where
  abbrev j : ℕ
  j = byte_at w x y (k % 4)

  sent : (src : List ℕ) → get_or (displaced xs ys sx sy scale w h src map) k 0 ≡ get_or src j 0
  sent src = byte_displaced xs ys sx sy scale w h src map k l ∙ rw (ex, ey, lt-ltb x w p, lt-ltb y h q)

  pub reads_needed : Needed (4 * w * h) (byte_at w x y (k % 4)) k (λ src. displaced xs ys sx sy scale w h src map)
  reads_needed =
      let inside = place_inside w h x y (k % 4) p q (omega arith) in
      let full = sent (all_but (4 * w * h) 0 j 255) ∙ at_but (4 * w * h) 0 j inside 255 in
      needed (4 * w * h) 0 j inside k (λ src. displaced xs ys sx sy scale w h src map) (omega arith) (sent (all_but (4 * w * h) 0 j 0) ∙ at_but (4 * w * h) 0 j inside 0) (omega arith)

-- ---- the map
-- 2.0
abbrev pub c2 : Float
c2 = of_bits binary32 0x4000_0000

module _ (i : ℕ) (I : i < side_limit) where
  -- a shift of b / d, not below 0
  by_shift : (t : Float) (b d : ℕ) → 0 < d → HasValue t false b d → b ≤ d → RoundsTo 31 false (i * d + b * 1) (1 * d) (of_int binary32 (pos i) ⊕ t)
  by_shift t b d D h few =
      subst (λ (z : Float). RoundsTo 31 false (i * d + b * 1) (1 * d) z) (sym (add_at binary32 (of_int binary32 (pos i)) t i 1 b d (zero-lt-suc 0) D (column_value i I) h))
      (let m = mul-le-mul_right d (le_of_lt I) in rounds_to binary32 31 false (i * d + b * 1) (1 * d) (side_limit + 1) (omega arith) (omega arith) (omega arith) (lit< tt))

  little : (T (leb (num (shift c1 c2 128) * 8) (den (shift c1 c2 128)))) × HasValue (shift c1 c2 128) false (num (shift c1 c2 128)) (den (shift c1 c2 128))
  unfolding shift offset normalized sub add mul sum round div of_int of_bits
  little = (tt, (refl, refl))

  whole : HasValue (shift c1 c2 255) false 1 1
  unfolding shift offset normalized sub add mul sum round div of_int of_bits
  whole = (refl, refl)

  only : (q n d : ℕ) → 0 < d → 4 * (q * d) < 4 * (suc n * d) → 4 * (n * d) < 4 * (suc q * d) → q ≡ n
  only q n d D a b =
      let x : q < suc n = lt_of_mul-lt-mul_right d (omega arith) in
      let y : n < suc q = lt_of_mul-lt-mul_right d (omega arith) in
      omega arith

  target_stays : target_of c1 c2 i 128 ≡ pos i
  unfolding target_of place
  target_stays =
      let b = num (shift c1 c2 128) in
      let d = den (shift c1 c2 128) in
      let D = den_pos (shift c1 c2 128) in
      let m : b * 8 ≤ d = leb→le (b * 8) d little.0 in
      go b d D m (by_shift (shift c1 c2 128) b d D little.1 (omega arith))
    where
      go : (b d : ℕ) → 0 < d → b * 8 ≤ d → RoundsTo 31 false (i * d + b * 1) (1 * d) (of_int binary32 (pos i) ⊕ shift c1 c2 128) → round_to 31 (of_int binary32 (pos i) ⊕ shift c1 c2 128) ≡ pos i
      go b d D m r = let o = r.over in let u = r.under in r.is ∙ ap pos (only r.q i d D (omega arith) (omega arith))

  target_moves : target_of c1 c2 i 255 ≡ pos (i + 1)
  unfolding target_of place
  target_moves =
      let r = by_shift (shift c1 c2 255) 1 1 (zero-lt-suc 0) whole (omega arith) in
      let o = r.over in
      let u = r.under in
      r.is ∙ ap pos (only r.q (i + 1) 1 (zero-lt-suc 0) (omega arith) (omega arith))

-- the picture is 255 at byte k and 0 elsewhere; the map is 128, and byte j of it 128 or 255
module _ (xs ys : ColorChannel) (w h k j : ℕ) (sized : Sized w h) (l : k < 4 * w * h) (r : ReadsMap xs ys k j) where
  abbrev n : ℕ
  n = 4 * w * h

  abbrev X : ℕ
  X = column w k

  abbrev Y : ℕ
  Y = row w k

  picture : List ℕ
  picture = all_but (4 * w * h) 0 k 255

  inside_map : j < 4 * w * h
  inside_map = reads_inside_map xs ys w h k l j r

  in_column : X < w
  in_column = column_inside w h k sized.wide l

  in_row : Y < h
  in_row = row_inside w h k sized.wide l

  byte : (map : List ℕ) (x y : ℤ) → target_of c1 c2 X (map_at xs map k) ≡ x → target_of c1 c2 Y (map_at ys map k) ≡ y → get_or (displaced xs ys c1 c1 c2 w h picture map) k 0 ≡ picture_at picture w h x y (k % 4)
  byte map x y ex ey = byte_displaced xs ys c1 c1 c2 w h picture map k l ∙ rw (ex, ey)

  -- at its own place
  here : picture_at picture w h (pos X) (pos Y) (k % 4) ≡ 255
  unfolding picture
  here = rw (lt-ltb X w in_column, lt-ltb Y h in_row) (ap (λ (m : ℕ). get_or (all_but n 0 k 255) m 0) (sym (byte_place w h k sized.wide l)) ∙ at_but n 0 k l 255)

  -- at another
  elsewhere : (x y : ℕ) → (x ≡ X → y ≡ Y → ⊥) → picture_at picture w h (pos x) (pos y) (k % 4) ≡ 0
  unfolding picture
  elsewhere x y other = go (ltb x w) (ltb y h) (ltb-true x w) (ltb-true y h)
    where
      go : (a b : Bool) → (a ≡ true → x < w) → (b ≡ true → y < h) → cond a (cond b (get_or (all_but (4 * w * h) 0 k 255) (byte_at w x y (k % 4)) 0) 0) 0 ≡ 0
      go false b f g = refl
      go true false f g = refl
      go true true f g =
          not_at_but n 0 k l 255 (byte_at w x y (k % 4)) (place_inside w h x y (k % 4) (f refl) (g refl) (omega arith))
          (λ e. other (sym (column_of_place w x y (k % 4) (f refl) (omega arith)) ∙ ap (column w) e) (sym (row_of_place w x y (k % 4) (f refl) (omega arith)) ∙ ap (row w) e))

  unmoved : (selector : ColorChannel) → map_at selector (all_but n 128 j 128) k ≡ 128
  unmoved selector = ap (λ (v : ℕ). v % 256) (all_same n 128 j inside_map (4 * (k / 4) + channel_number selector) (let few = number_few selector in omega (arith, mul_assoc 4 w h)))

  moved : (selector : ColorChannel) → j ≡ 4 * (k / 4) + channel_number selector → map_at selector (all_but n 128 j 255) k ≡ 255
  moved selector e = ap (λ (m : ℕ). get_or (all_but n 128 j 255) m 0 % 256) (sym e) ∙ ap (λ (v : ℕ). v % 256) (at_but n 128 j inside_map 255)

  still : (selector : ColorChannel) → (j ≡ 4 * (k / 4) + channel_number selector → ⊥) → map_at selector (all_but n 128 j 255) k ≡ 128
  still selector d = ap (λ (v : ℕ). v % 256) (not_at_but n 128 j inside_map 255 (4 * (k / 4) + channel_number selector) (let few = number_few selector in omega (arith, mul_assoc 4 w h)) (λ e. d (sym e)))

  columns : X < side_limit
  columns = lt_of_lt_of_le in_column sized.wide_most

  rows : Y < side_limit
  rows = lt_of_lt_of_le in_row sized.high_most

  kept : get_or (displaced xs ys c1 c1 c2 w h picture (all_but n 128 j 128)) k 0 ≡ 255
  kept = byte (all_but n 128 j 128) (pos X) (pos Y) (rw (unmoved xs) (target_stays X columns)) (rw (unmoved ys) (target_stays Y rows)) ∙ here

  left : get_or (displaced xs ys c1 c1 c2 w h picture (all_but n 128 j 255)) k 0 ≡ 0
  left = go (ℕ_discrete j (4 * (k / 4) + channel_number xs)) (ℕ_discrete j (4 * (k / 4) + channel_number ys))
    where
      go : Dec (j ≡ 4 * (k / 4) + channel_number xs) → Dec (j ≡ 4 * (k / 4) + channel_number ys) → get_or (displaced xs ys c1 c1 c2 w h picture (all_but (4 * w * h) 128 j 255)) k 0 ≡ 0
      go (yes a) (yes b) = byte (all_but n 128 j 255) (pos (X + 1)) (pos (Y + 1)) (rw (moved xs a) (target_moves X columns)) (rw (moved ys b) (target_moves Y rows)) ∙ elsewhere (X + 1) (Y + 1) (λ e f. omega arith)
      go (yes a) (no b) = byte (all_but n 128 j 255) (pos (X + 1)) (pos Y) (rw (moved xs a) (target_moves X columns)) (rw (still ys b) (target_stays Y rows)) ∙ elsewhere (X + 1) Y (λ e f. omega arith)
      go (no a) (yes b) = byte (all_but n 128 j 255) (pos X) (pos (Y + 1)) (rw (still xs a) (target_stays X columns)) (rw (moved ys b) (target_moves Y rows)) ∙ elsewhere X (Y + 1) (λ e f. omega arith)
      go (no a) (no b) = absurd (⊎_elim a b r)

  pub reads_needed_map : Needed (4 * w * h) j k (λ map. displaced xs ys c1 c1 c2 w h (all_but (4 * w * h) 0 k 255) map)
  unfolding picture
  reads_needed_map = record {
    first = all_but n 128 j 128;
    second = all_but n 128 j 255;
    apart = record {
      first_length = length_all_but n 128 j inside_map 128;
      second_length = length_all_but n 128 j inside_map 255;
      first_bytes = bytes_all_but n 128 j inside_map 128 (omega arith) (omega arith);
      second_bytes = bytes_all_but n 128 j inside_map 255 (omega arith) (omega arith);
      same = λ i d. get_or-set_other (replicate n 128) j i 128 0 d ∙ sym (get_or-set_other (replicate n 128) j i 255 0 d);
      different = λ e. let p = at_but n 128 j inside_map 128 in let q = at_but n 128 j inside_map 255 in omega arith;
    };
    told = λ e. let p = kept in let q = left in omega arith;
  }
