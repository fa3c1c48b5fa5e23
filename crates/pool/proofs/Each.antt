-- Numbers that are tested one after the other: all at once, and in a loop, where what holds of all is what holds of those that are left.
use Prim.Native.Nat.{ℕ, ◌+◌, ◌≤◌, ◌<◌, zero-le}
use mathlib.Core.Path.{◌≡◌, refl, sym, ◌∙◌}
use mathlib.Core.Bool.{Bool, true, false, cond, ◌&&◌}
use mathlib.Core.List.{List, [], ◌∷◌}
use native.Mathlib.Numerals.{add-one}
use native.Mathlib.Omega.{arith}
use lib.ListN.{length, drop, get_or, drop_of_length-le}
use lib.Seq.{drop-cons}
use lib.Ieee.{Float}
use Rattle.std.specs.List.{list_all}
use Rattle.sheet.proofs.Answers.{denied, allowed}
use Rattle.pool.specs.Pool.{all}

pub all_list : (p : Float → Bool) (l : List Float) → list_all p l ≡ all p l
unfolding all
all_list p [] = refl
all_list p (x ∷ l) = one (p x) (all_list p l)
  where
    one : (t : Bool) {a b : Bool} → a ≡ b → (t && a) ≡ cond t b false
    one true e = e
    one false e = refl

-- the first i numbers of l have passed the test p
pub record Testing (p : Float → Bool) (l : List Float) (i : ℕ) : Type 0 where
  pub within : i ≤ length l
  pub same : all p (drop i l) ≡ all p l

pub test_start : (p : Float → Bool) (l : List Float) → Testing p l 0
test_start p l = record { within = zero-le; same = refl }

-- number i is tested, with the result t
module _ {p : Float → Bool} {l : List Float} {i : ℕ} (r : Testing p l i) {t : Bool} (d : Float) where
  pub test_stops : i < length l → t ≡ p (get_or l i d) → t ≡ false → false ≡ all p l
  unfolding all
  test_stops h e f = let z : all p (drop i l) ≡ false = rw (drop-cons l i d h, denied e f) in sym z ∙ r.same

  pub test_next : i < length l → t ≡ p (get_or l i d) → t ≡ true → Testing p l (i + 1)
  unfolding all
  test_next h e f =
      let z : all p (drop (i + 1) l) ≡ all p (drop i l) = rw (add-one, drop-cons l i d h, allowed e f) in
      record { within = omega arith; same = z ∙ r.same }

pub test_done : {p : Float → Bool} {l : List Float} {i : ℕ} → Testing p l i → length l ≤ i → true ≡ all p l
unfolding all
test_done {p} {l} {i} r h = let z : all p (drop i l) ≡ true = rw (drop_of_length-le l h) in sym z ∙ r.same
