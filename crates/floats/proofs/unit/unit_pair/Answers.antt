-- `unit_pair` meets its contract: a third number 0 is finite and adds nothing. Assumes nothing.
use Rattle.std.proofs.Common.{◌≡◌, ℕ, ◌+◌, ◌^◌, Bool, true, false, ◌&&◌, refl, ap, ◌∙◌, arith}
use lib.Ieee.{Float, binary32, of_bits}
use lib.Ieee.Scale.{finite}
use Rattle.floats.specs.Unit.{squared, about_one, unit_pair, unit_triple}
use Rattle.floats.proofs.unit.unit_pair.Goals as goal

third-zero : (x y : Float) → unit_triple x y (of_bits binary32 0) ≡ unit_pair x y
unfolding unit_triple unit_pair of_bits
third-zero x y = ap (λ (n : ℕ). finite x && finite y && true && about_one (2 ^ 288) n) (plus-zero (squared x + squared y)) ∙ ap (λ (b : Bool). b && about_one (2 ^ 288) (squared x + squared y)) (and-true (finite x && finite y))
  where
    plus-zero : (n : ℕ) → n + 0 ≡ n
    plus-zero n = omega arith

    and-true : (p : Bool) → (p && true) ≡ p
    and-true true = refl
    and-true false = refl

pub returns : goal.returns
returns c = c.unit_triple.ensures ∙ third-zero c.args.x c.args.y
