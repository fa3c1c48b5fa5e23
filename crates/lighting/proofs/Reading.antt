-- What a byte of the result reads: it depends on nothing but alpha round its pixel, it reads its pixel's own, and all that it reads lies in the sheet.
use Prim.Native.Nat.{ℕ, ◌*◌, ◌%◌, ◌<◌}
use mathlib.Core.Path.{◌≡◌, refl, sym, ap, ◌∙◌}
use mathlib.Core.Bool.{Bool, true, false, cond}
use mathlib.Core.List.{List}
use native.Mathlib.Omega.{arith}
use lib.ListN.{length, get_or}
use Rattle.sheet.specs.Tabulate.{tabulate, zeros}
use Rattle.sheet.specs.Pixel.{column, row, byte_at, Near}
use Rattle.sheet.proofs.Places.{place_inside, column_inside, row_inside}
use Rattle.sheet.proofs.Tabulated.{length_tabulate, get_d_tabulate, length_zeros, get_d_zeros}
use Rattle.surface.specs.Surface.{alpha_at, normal_at}
use Rattle.surface.proofs.Leans.{lean_ext}
use Rattle.lighting.specs.declared.pixel.Lighting.{Lighting}
use Rattle.lighting.specs.Lighting.{lit_channel, factor_at, lit_at, small, lit}
use Rattle.lighting.specs.Reads.{Reads}

-- the sheets agree on what byte k reads
abbrev pub Alike : (w h k : ℕ) → List ℕ → List ℕ → Type 0
Alike w h k a b = (j : ℕ) → Reads w h k j → get_or a j 0 ≡ get_or b j 0

module _ (w h k : ℕ) (p : 0 < w) (l : k < 4 * w * h) where
  -- a place next to a byte's pixel is read
  reads_near : (x y : ℕ) → Near 1 w (column w k) x → Near 1 h (row w k) y → Reads w h k (byte_at w x y 3)
  reads_near x y p q = record { x = x; y = y; near_column = p; near_row = q; is = refl }

  -- a byte reads its pixel's alpha
  pub reads_something : Reads w h k (byte_at w (column w k) (row w k) 3)
  reads_something =
      reads_near (column w k) (row w k)
      (record { low = omega arith; high = omega arith; inside = column_inside w h k p l })
      (record { low = omega arith; high = omega arith; inside = row_inside w h k p l })

  pub reads_inside : (j : ℕ) → Reads w h k j → j < 4 * w * h
  reads_inside j r = rw r.is (place_inside w h r.x r.y 3 r.near_column.inside r.near_row.inside (omega arith))

  module _ (a b : List ℕ) (agree : Alike w h k a b) where
    normal_alike : normal_at w h a (column w k) (row w k) ≡ normal_at w h b (column w k) (row w k)
    unfolding normal_at
    normal_alike =
        let ex =
        lean_ext w h (alpha_at w a) (alpha_at w b) (column w k) (row w k) (column_inside w h k p l) (row_inside w h k p l)
        (λ u v c₃ c₁ c₂ r₃ r₁ r₂. agree (byte_at w u v 3) (reads_near u v (record { low = c₁; high = c₂; inside = c₃ }) (record { low = r₁; high = r₂; inside = r₃ }))) in
        let ey =
        lean_ext h w (λ j i. alpha_at w a i j) (λ j i. alpha_at w b i j) (row w k) (column w k) (row_inside w h k p l) (column_inside w h k p l)
        (λ v u r₃ r₁ r₂ c₃ c₁ c₂. agree (byte_at w u v 3) (reads_near u v (record { low = c₁; high = c₂; inside = c₃ }) (record { low = r₁; high = r₂; inside = r₃ }))) in
        rw (ex, ey)

    factor_alike : (m : Lighting) → factor_at m w h a (column w k) (row w k) ≡ factor_at m w h b (column w k) (row w k)
    unfolding factor_at
    factor_alike m = let e : alpha_at w a (column w k) (row w k) ≡ alpha_at w b (column w k) (row w k) = agree _ reads_something in rw (normal_alike, e)

module _ (m : Lighting) (w h : ℕ) where
  length_either : (t : Bool) (n : ℕ) (f : ℕ → ℕ) → length (cond t (zeros n) (tabulate n f)) ≡ n
  length_either true n f = length_zeros n
  length_either false n f = length_tabulate n f

  byte_either : (t : Bool) (n : ℕ) (f : ℕ → ℕ) (k : ℕ) → k < n → get_or (cond t (zeros n) (tabulate n f)) k 0 ≡ cond t 0 (f k)
  byte_either true n f k l = get_d_zeros n k l
  byte_either false n f k l = get_d_tabulate n f k l

  pub length_lit : (s : List ℕ) → length (lit m w h s) ≡ 4 * w * h
  unfolding lit
  length_lit s = length_either (small w h) (4 * w * h) (lit_at m w h s)

  pub byte_lit : (s : List ℕ) (k : ℕ) → k < 4 * w * h → get_or (lit m w h s) k 0 ≡ cond (small w h) 0 (lit_at m w h s k)
  unfolding lit
  byte_lit s k l = byte_either (small w h) (4 * w * h) (lit_at m w h s) k l

  -- sheets that agree on what byte k reads give the same byte k
  pub reads_all : (a b : List ℕ) (k : ℕ) → 0 < w → k < 4 * w * h → Alike w h k a b → get_or (lit m w h a) k 0 ≡ get_or (lit m w h b) k 0
  reads_all a b k p l agree =
      byte_lit a k l ∙ (ap (λ f. cond (small w h) 0 (lit_channel m.reflection m.color f (k % 4))) (factor_alike w h k p l a b agree m) ∙ sym (byte_lit b k l))
