-- Three exchanges bring the squares into falling order, and keep their sum.
use Rattle.std.proofs.Common.{◌≡◌, ℕ, ◌+◌, ◌*◌, ◌^◌, min, max, ap, ◌∙◌, arith}
use lib.Ieee.{Float, binary64}
use Rattle.floats.specs.Unit.{in_units, about_one}
use Rattle.floats.specs.Inner.Steps.{Falling, ExactSquare}
use Rattle.floats.proofs.NearOne.{one_unit, spread}
use Rattle.floats.proofs.unit.finite_triple.Goals as goal

abbrev U : Float → ℕ
U x = in_units binary64 x

module _ (a b c h l h' l' m n : ℕ) (p : h ≡ max a b) (q : l ≡ min a b) (r : h' ≡ max h c) (s : l' ≡ min h c) (t : m ≡ max l' l) (u : n ≡ min l' l) where
  total : h' + (m + n) ≡ a + b + c
  total = omega arith

module _ {X Y Z : ℕ} {a b c h l h' l' m n : Float} (x : ExactSquare X a) (y : ExactSquare Y b) (z : ExactSquare Z c) (f : Falling a b h l) (g : Falling h c h' l') (k : Falling l' l m n) where
  asked : about_one (2 ^ 1064) (U h' + (U m + U n)) ≡ about_one (2 ^ 288) (X + Y + Z)
  asked =
      one_unit (U h' + (U m + U n)) (X + Y + Z)
      (total _ _ _ _ _ _ _ _ _ f.hi_is f.lo_is g.hi_is g.lo_is k.hi_is k.lo_is
      ∙ ap (λ (w : ℕ). w + U b + U c) x.is
      ∙ ap (λ (w : ℕ). X * 2 ^ 776 + w + U c) y.is
      ∙ ap (λ (w : ℕ). X * 2 ^ 776 + Y * 2 ^ 776 + w) z.is
      ∙ spread X Y Z (2 ^ 776))

pub returns : goal.returns
returns c = c.about_one.ensures ∙ asked c.square.ensures c.square-2.ensures c.square-3.ensures c.falling-hi.ensures c.falling-hi-2.ensures c.falling-mid.ensures
