-- What a byte of the result reads: it depends on nothing else, it reads some byte of the map and of the picture, and all that it reads lies in the sheets.
use Rattle.std.proofs.Common.{◌≡◌, ℕ, ◌+◌, ◌*◌, ◌/◌, ◌%◌, ◌<◌, Bool, true, false, cond, ltb, List, length, get_or, ℤ, pos, negsuc, sym, refl, ap, ◌∙◌, inl, inr, ⊎_elim, lt_of_lt_of_le, mul_assoc, arith, ltb-true}
use lib.Ieee.{Float}
use Rattle.sheet.specs.Pixel.{column, row, byte_at}
use Rattle.sheet.specs.Size.{Sized}
use Rattle.sheet.specs.Answer.{Done}
use Rattle.sheet.proofs.Places.{place_inside, column_inside, row_inside, byte_place}
use Rattle.sheet.proofs.Tabulated.{length_tabulate, get_d_tabulate}
use Rattle.displacement_map.specs.declared.ColorChannel.{ColorChannel}
use Rattle.displacement_map.specs.DisplacementMap.{scales_answer, target_of, channel_number, map_at, picture_at, displaced_at, displaced}
use Rattle.displacement_map.specs.Reads.{ReadsMap, ReadsPicture}
use Rattle.displacement_map.proofs.Distance.{accepted, column_near}
use Rattle.displacement_map.proofs.Bytes.{number_few, byte_few}

-- pictures that agree on every place of one column and one row that lie on the sheet agree there
same_picture : (a b : List ℕ) (w h : ℕ) (x y : ℤ) (c : ℕ) → ((p q : ℕ) → x ≡ pos p → y ≡ pos q → p < w → q < h → get_or a (byte_at w p q c) 0 ≡ get_or b (byte_at w p q c) 0) → picture_at a w h x y c ≡ picture_at b w h x y c
same_picture a b w h (negsuc x) y c e = refl
same_picture a b w h (pos x) (negsuc y) c e = refl
same_picture a b w h (pos x) (pos y) c e = go (ltb x w) (ltb y h) (ltb-true x w) (ltb-true y h)
  where
    go : (p q : Bool) → (p ≡ true → x < w) → (q ≡ true → y < h) → cond p (cond q (get_or a (byte_at w x y c) 0) 0) 0 ≡ cond p (cond q (get_or b (byte_at w x y c) 0) 0) 0
    go false q l m = refl
    go true false l m = refl
    go true true l m = e x y refl refl (l refl) (m refl)

module _ (xs ys : ColorChannel) (sx sy scale : Float) (w h : ℕ) where
  pub length_displaced : (src map : List ℕ) → length (displaced xs ys sx sy scale w h src map) ≡ 4 * w * h
  unfolding displaced
  length_displaced src map = length_tabulate (4 * w * h) (displaced_at xs ys sx sy scale w h src map)

  pub byte_displaced : (src map : List ℕ) (k : ℕ) → k < 4 * w * h → get_or (displaced xs ys sx sy scale w h src map) k 0 ≡ displaced_at xs ys sx sy scale w h src map k
  unfolding displaced
  byte_displaced src map k l = get_d_tabulate (4 * w * h) (displaced_at xs ys sx sy scale w h src map) k l

  -- for parameters that pass the tests: pictures and maps that agree on what byte k reads give the same byte k
  module _ (sized : Sized w h) (tests : scales_answer sx sy scale ≡ Done) where
    pub reads_all : (a b m n : List ℕ) (k : ℕ) → k < 4 * w * h → ((j : ℕ) → ReadsPicture sx sy scale w h k j → get_or a j 0 ≡ get_or b j 0) → ((j : ℕ) → ReadsMap xs ys k j → get_or m j 0 ≡ get_or n j 0)
        → get_or (displaced xs ys sx sy scale w h a m) k 0 ≡ get_or (displaced xs ys sx sy scale w h b n) k 0
    reads_all a b m n k l agree same =
        let scales = accepted sx sy scale tests in
        let i = column_inside w h k sized.wide l in
        let j = row_inside w h k sized.wide l in
        let ex : map_at xs m k ≡ map_at xs n k = ap (λ (v : ℕ). v % 256) (same (4 * (k / 4) + channel_number xs) (inl refl)) in
        let ey : map_at ys m k ≡ map_at ys n k = ap (λ (v : ℕ). v % 256) (same (4 * (k / 4) + channel_number ys) (inr refl)) in
        byte_displaced a m k l
        ∙ same_picture a b w h (target_of sx scale (column w k) (map_at xs m k)) (target_of sy scale (row w k) (map_at ys m k)) (k % 4) (λ p q e f p-in q-in.
        let near-x = column_near (column w k) (map_at xs m k) sx scale (lt_of_lt_of_le i sized.wide_most) (byte_few xs m k) scales.column scales.map p e in
        let near-y = column_near (row w k) (map_at ys m k) sy scale (lt_of_lt_of_le j sized.high_most) (byte_few ys m k) scales.row scales.map q f in
        agree (byte_at w p q (k % 4)) (record {
          x = p;
          y = q;
          near_column = record { low = near-x.1; high = near-x.0; inside = p-in };
          near_row = record { low = near-y.1; high = near-y.0; inside = q-in };
          is = refl;
        }))
        ∙ ap (λ (v : ℕ). picture_at b w h (target_of sx scale (column w k) v) (target_of sy scale (row w k) (map_at ys m k)) (k % 4)) ex
        ∙ ap (λ (v : ℕ). picture_at b w h (target_of sx scale (column w k) (map_at xs n k)) (target_of sy scale (row w k) v) (k % 4)) ey
        ∙ sym (byte_displaced b n k l)

-- whatever the parameters are
module _ (sx sy scale : Float) (w h k : ℕ) (p : 0 < w) (l : k < 4 * w * h) where
  -- a byte reads its own place in the picture
  pub reads_something : ReadsPicture sx sy scale w h k k
  reads_something = record {
    x = column w k;
    y = row w k;
    near_column = record { low = omega arith; high = omega arith; inside = column_inside w h k p l };
    near_row = record { low = omega arith; high = omega arith; inside = row_inside w h k p l };
    is = byte_place w h k p l;
  }

  pub reads_inside : (j : ℕ) → ReadsPicture sx sy scale w h k j → j < 4 * w * h
  reads_inside j r = rw r.is (place_inside w h r.x r.y (k % 4) r.near_column.inside r.near_row.inside (omega arith))

module _ (xs ys : ColorChannel) (w h k : ℕ) (l : k < 4 * w * h) where
  -- and the channel of the map that moves its column
  pub reads_something_map : (j : ℕ) × ReadsMap xs ys k j
  reads_something_map = (4 * (k / 4) + channel_number xs, inl refl)

  pub reads_inside_map : (j : ℕ) → ReadsMap xs ys k j → j < 4 * w * h
  reads_inside_map j r = ⊎_elim (λ e. let few = number_few xs in omega (arith, mul_assoc 4 w h)) (λ e. let few = number_few ys in omega (arith, mul_assoc 4 w h)) r
