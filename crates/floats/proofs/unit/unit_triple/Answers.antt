-- `unit_triple` meets its contract: a number that is not finite makes the conjunction false, and else the exact test is left. Assumes nothing.
use Rattle.std.proofs.Common.{◌≡◌, ◌+◌, ◌^◌, Bool, true, false, ◌&&◌, sym, refl, ap, ◌∙◌}
use lib.Ieee.{Float}
use lib.Ieee.Scale.{finite}
use Rattle.floats.specs.Unit.{squared, about_one, unit_triple}
use Rattle.floats.proofs.unit.unit_triple.Goals as goal

abbrev Test : Float → Float → Float → Bool
Test x y z = about_one (2 ^ 288) (squared x + squared y + squared z)

-- the answer, by what is found of each number
answer : (x y z : Float) (p q r : Bool) → finite x ≡ p → finite y ≡ q → finite z ≡ r → unit_triple x y z ≡ (p && q && r && Test x y z)
unfolding unit_triple
answer x y z p q r a b c = ap (λ (s : Bool). s && finite y && finite z && Test x y z) a ∙ ap (λ (s : Bool). p && s && finite z && Test x y z) b ∙ ap (λ (s : Bool). p && q && s && Test x y z) c

pub returns-then-not-is_finite : goal.returns-then-not-is_finite
returns-then-not-is_finite c =
    let a = c.args in
    sym (answer a.x a.y a.z false (finite a.y) (finite a.z) (sym c.is_finite.ensures ∙ c.if-not-is_finite.true) refl refl)

pub returns-then-not-is_finite-2 : goal.returns-then-not-is_finite-2
returns-then-not-is_finite-2 c =
    let a = c.args in
    sym (answer a.x a.y a.z true false (finite a.z) (sym c.is_finite.ensures ∙ c.if-not-is_finite.false) (sym c.is_finite-2.ensures ∙ c.if-not-is_finite-2.true) refl)

pub returns-then-not-is_finite-3 : goal.returns-then-not-is_finite-3
returns-then-not-is_finite-3 c =
    let a = c.args in
    sym (answer a.x a.y a.z true true false (sym c.is_finite.ensures ∙ c.if-not-is_finite.false) (sym c.is_finite-2.ensures ∙ c.if-not-is_finite-2.false) (sym c.is_finite-3.ensures ∙ c.if-not-is_finite-3.true))

pub returns : goal.returns
returns c =
    let a = c.args in
    c.finite_triple.ensures ∙ sym (answer a.x a.y a.z true true true (sym c.is_finite.ensures ∙ c.if-not-is_finite.false) (sym c.is_finite-2.ensures ∙ c.if-not-is_finite-2.false) (sym c.is_finite-3.ensures ∙ c.if-not-is_finite-3.false))
