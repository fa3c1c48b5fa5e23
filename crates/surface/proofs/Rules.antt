-- The one definition of a normal gives the Rust's nine texts: `nx` and `ny` are what a text adds less what it takes away.
use Prim.Native.Nat.{ℕ, ◌+◌, ◌-◌, ◌*◌, ◌<◌}
use mathlib.Core.Path.{◌≡◌, refl}
use mathlib.Core.Bool.{Bool, true, false}
use mathlib.Core.List.{List}
use native.Mathlib.Omega.{arith}
use borrow.Author.Tests.{eq-eqb, ne_eqb, lt-ltb, le-ltb}
use lib.IntN.{ℤ, sub_ℕ}
use lib.Ieee.{Float}
use Rattle.floats.specs.Constants.{half}
use Rattle.surface.specs.declared.Normal.{Normal}
use Rattle.surface.specs.Surface.{alpha_at, weighted, behind, ahead, lean, turned, at_edge, quarter, third, two_thirds, lean_factor, normal_at}
use Rattle.surface.specs.Inner.Leans.{factor_of}

-- resvg's `Normal::new`
abbrev pub normal : (fx fy : Float) → (nx ny : ℤ) → Normal
normal fx fy nx ny = record { fx = fx; fy = fy; x = turned nx; y = turned ny }

-- place i of n: whether it is at an edge, the place ahead of it, and the weighted numbers round it
record Lies (n i : ℕ) (edge : Bool) (next : ℕ) (sum : (ℕ → ℕ) → ℕ) : Type 0 where
  edge_is : at_edge n i ≡ edge
  next_is : ahead n i ≡ next
  sum_is : (g : ℕ → ℕ) → weighted n g i ≡ sum g

first : (n : ℕ) → 1 < n → Lies n 0 true 1 (λ g. 2 * g 0 + g 1)
unfolding at_edge weighted
first n l = record { edge_is = refl; next_is = omega arith; sum_is = λ g. rw (lt-ltb 1 n l) (omega arith) }

module _ (n i : ℕ) (l : 0 < i) where
  inside : i + 1 < n → Lies n i false (i + 1) (λ g. g (i - 1) + 2 * g i + g (i + 1))
  unfolding at_edge weighted
  inside h =
      let z = ne_eqb i 0 (λ e. omega arith) in
      let o = ne_eqb (i + 1) n (λ e. omega arith) in
      record { edge_is = rw (z, o); next_is = omega arith; sum_is = λ g. rw (z, lt-ltb (i + 1) n h) }

  last : i + 1 ≡ n → Lies n i true i (λ g. g (i - 1) + 2 * g i)
  unfolding at_edge weighted
  last h =
      let z = ne_eqb i 0 (λ e. omega arith) in
      record { edge_is = rw (z, eq-eqb (i + 1) n h); next_is = omega arith; sum_is = λ g. rw (z, le-ltb (i + 1) n (omega arith)) (omega arith) }

lean_of : {n m i j : ℕ} {e d : Bool} {u v : ℕ} {S T : (ℕ → ℕ) → ℕ} → Lies n i e u S → Lies m j d v T → (f : ℕ → ℕ → ℕ) → lean n m f i j ≡ sub_ℕ (T (f u)) (T (f (behind i)))
unfolding lean
lean_of {n} {m} {i} {j} {e} {d} {u} p q f = rw (p.next_is, q.sum_is (f u), q.sum_is (f (behind i)))

factor_of_lem : {n m i j : ℕ} {e d : Bool} {u v : ℕ} {S T : (ℕ → ℕ) → ℕ} → Lies n i e u S → Lies m j d v T → lean_factor n m i j ≡ factor_of e d
unfolding lean_factor
factor_of_lem p q = rw (p.edge_is, q.edge_is)

module _ (w h : ℕ) (s : List ℕ) where
  rule : {x y : ℕ} {e d : Bool} {u v : ℕ} {S T : (ℕ → ℕ) → ℕ} → Lies w x e u S → Lies h y d v T → normal_at w h s x y ≡ normal (factor_of e d) (factor_of d e) (sub_ℕ (T (alpha_at w s u)) (T (alpha_at w s (behind x)))) (sub_ℕ (S (λ i. alpha_at w s i v)) (S (λ i. alpha_at w s i (behind y))))
  unfolding normal_at
  rule p q = rw (factor_of_lem p q, factor_of_lem q p, lean_of p q (alpha_at w s), lean_of q p (λ j i. alpha_at w s i j))

module _ (w h : ℕ) (s : List ℕ) (p : 1 < w) (q : 1 < h) where
  pub top_left : normal_at w h s 0 0 ≡ normal two_thirds two_thirds (sub_ℕ (2 * alpha_at w s 1 0 + alpha_at w s 1 1) (2 * alpha_at w s 0 0 + alpha_at w s 0 1)) (sub_ℕ (2 * alpha_at w s 0 1 + alpha_at w s 1 1) (2 * alpha_at w s 0 0 + alpha_at w s 1 0))
  top_left = rule w h s (first w p) (first h q)

  pub top_right : (x : ℕ) → x + 1 ≡ w → normal_at w h s x 0 ≡ normal two_thirds two_thirds (sub_ℕ (2 * alpha_at w s x 0 + alpha_at w s x 1) (2 * alpha_at w s (x - 1) 0 + alpha_at w s (x - 1) 1)) (sub_ℕ (alpha_at w s (x - 1) 1 + 2 * alpha_at w s x 1) (alpha_at w s (x - 1) 0 + 2 * alpha_at w s x 0))
  top_right x e = rule w h s (last w x (omega arith) e) (first h q)

  pub bottom_left : (y : ℕ) → y + 1 ≡ h → normal_at w h s 0 y ≡ normal two_thirds two_thirds (sub_ℕ (alpha_at w s 1 (y - 1) + 2 * alpha_at w s 1 y) (alpha_at w s 0 (y - 1) + 2 * alpha_at w s 0 y)) (sub_ℕ (2 * alpha_at w s 0 y + alpha_at w s 1 y) (2 * alpha_at w s 0 (y - 1) + alpha_at w s 1 (y - 1)))
  bottom_left y e = rule w h s (first w p) (last h y (omega arith) e)

  pub bottom_right : (x y : ℕ) → x + 1 ≡ w → y + 1 ≡ h → normal_at w h s x y ≡ normal two_thirds two_thirds (sub_ℕ (alpha_at w s x (y - 1) + 2 * alpha_at w s x y) (alpha_at w s (x - 1) (y - 1) + 2 * alpha_at w s (x - 1) y)) (sub_ℕ (alpha_at w s (x - 1) y + 2 * alpha_at w s x y) (alpha_at w s (x - 1) (y - 1) + 2 * alpha_at w s x (y - 1)))
  bottom_right x y e d = rule w h s (last w x (omega arith) e) (last h y (omega arith) d)

  pub top_row : (x : ℕ) → 0 < x → x + 1 < w → normal_at w h s x 0 ≡ normal third half (sub_ℕ (2 * alpha_at w s (x + 1) 0 + alpha_at w s (x + 1) 1) (2 * alpha_at w s (x - 1) 0 + alpha_at w s (x - 1) 1)) (sub_ℕ (alpha_at w s (x - 1) 1 + 2 * alpha_at w s x 1 + alpha_at w s (x + 1) 1) (alpha_at w s (x - 1) 0 + 2 * alpha_at w s x 0 + alpha_at w s (x + 1) 0))
  top_row x l r = rule w h s (inside w x l r) (first h q)

  pub bottom_row : (x y : ℕ) → 0 < x → x + 1 < w → y + 1 ≡ h → normal_at w h s x y ≡ normal third half (sub_ℕ (alpha_at w s (x + 1) (y - 1) + 2 * alpha_at w s (x + 1) y) (alpha_at w s (x - 1) (y - 1) + 2 * alpha_at w s (x - 1) y)) (sub_ℕ (alpha_at w s (x - 1) y + 2 * alpha_at w s x y + alpha_at w s (x + 1) y) (alpha_at w s (x - 1) (y - 1) + 2 * alpha_at w s x (y - 1) + alpha_at w s (x + 1) (y - 1)))
  bottom_row x y l r e = rule w h s (inside w x l r) (last h y (omega arith) e)

  pub left_column : (y : ℕ) → 0 < y → y + 1 < h → normal_at w h s 0 y ≡ normal half third (sub_ℕ (alpha_at w s 1 (y - 1) + 2 * alpha_at w s 1 y + alpha_at w s 1 (y + 1)) (alpha_at w s 0 (y - 1) + 2 * alpha_at w s 0 y + alpha_at w s 0 (y + 1))) (sub_ℕ (2 * alpha_at w s 0 (y + 1) + alpha_at w s 1 (y + 1)) (2 * alpha_at w s 0 (y - 1) + alpha_at w s 1 (y - 1)))
  left_column y l r = rule w h s (first w p) (inside h y l r)

  pub right_column : (x y : ℕ) → x + 1 ≡ w → 0 < y → y + 1 < h → normal_at w h s x y ≡ normal half third (sub_ℕ (alpha_at w s x (y - 1) + 2 * alpha_at w s x y + alpha_at w s x (y + 1)) (alpha_at w s (x - 1) (y - 1) + 2 * alpha_at w s (x - 1) y + alpha_at w s (x - 1) (y + 1))) (sub_ℕ (alpha_at w s (x - 1) (y + 1) + 2 * alpha_at w s x (y + 1)) (alpha_at w s (x - 1) (y - 1) + 2 * alpha_at w s x (y - 1)))
  right_column x y e l r = rule w h s (last w x (omega arith) e) (inside h y l r)

  pub interior : (x y : ℕ) → 0 < x → x + 1 < w → 0 < y → y + 1 < h → normal_at w h s x y ≡ normal quarter quarter (sub_ℕ (alpha_at w s (x + 1) (y - 1) + 2 * alpha_at w s (x + 1) y + alpha_at w s (x + 1) (y + 1)) (alpha_at w s (x - 1) (y - 1) + 2 * alpha_at w s (x - 1) y + alpha_at w s (x - 1) (y + 1))) (sub_ℕ (alpha_at w s (x - 1) (y + 1) + 2 * alpha_at w s x (y + 1) + alpha_at w s (x + 1) (y + 1)) (alpha_at w s (x - 1) (y - 1) + 2 * alpha_at w s x (y - 1) + alpha_at w s (x + 1) (y - 1)))
  interior x y l r m t = rule w h s (inside w x l r) (inside h y m t)
