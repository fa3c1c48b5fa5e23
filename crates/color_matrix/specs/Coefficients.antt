-- The nine numbers of Saturate and HueRotate, in the Rust's order.
use Rattle.std.specs.Prelude.{cond, List, [], ◌∷◌, Float}
use Rattle.std.specs.Float.{binary32}
use Rattle.std.specs.Float.Ieee.{of_bits, lt}
use Rattle.floats.specs.Constants.{c0}
use Rattle.floats.specs.Operators.{◌⊕◌, ◌⊖◌, ◌⊗◌}

-- 0.213, 0.787 and so on
abbrev pub p213 : Float
p213 = of_bits binary32 0x3e5a1cac

abbrev pub p787 : Float
p787 = of_bits binary32 0x3f4978d5

abbrev pub p715 : Float
p715 = of_bits binary32 0x3f370a3d

abbrev pub p072 : Float
p072 = of_bits binary32 0x3d9374bc

abbrev pub p285 : Float
p285 = of_bits binary32 0x3e91eb85

abbrev pub p928 : Float
p928 = of_bits binary32 0x3f6d9168

abbrev pub p143 : Float
p143 = of_bits binary32 0x3e126e98

abbrev pub p140 : Float
p140 = of_bits binary32 0x3e0f5c29

abbrev pub p283 : Float
p283 = of_bits binary32 0x3e90e560

-- the larger of v and 0
abbrev pub at_least_zero : Float → Float
at_least_zero v = cond (lt c0 v) v c0

-- of v, at least 0
abbrev pub saturation : Float → List Float
saturation v =
    p213 ⊕ p787 ⊗ v ∷
    p715 ⊖ p715 ⊗ v ∷
    p072 ⊖ p072 ⊗ v ∷
    p213 ⊖ p213 ⊗ v ∷
    p715 ⊕ p285 ⊗ v ∷
    p072 ⊖ p072 ⊗ v ∷
    p213 ⊖ p213 ⊗ v ∷
    p715 ⊖ p715 ⊗ v ∷
    p072 ⊕ p928 ⊗ v ∷
    []

-- of a cosine and a sine
abbrev pub rotation : Float → Float → List Float
rotation c s =
    p213 ⊕ p787 ⊗ c ⊖ p213 ⊗ s ∷
    p715 ⊖ p715 ⊗ c ⊖ p715 ⊗ s ∷
    p072 ⊖ p072 ⊗ c ⊕ p928 ⊗ s ∷
    p213 ⊖ p213 ⊗ c ⊕ p143 ⊗ s ∷
    p715 ⊕ p285 ⊗ c ⊕ p140 ⊗ s ∷
    p072 ⊖ p072 ⊗ c ⊖ p283 ⊗ s ∷
    p213 ⊖ p213 ⊗ c ⊖ p787 ⊗ s ∷
    p715 ⊖ p715 ⊗ c ⊕ p715 ⊗ s ∷
    p072 ⊕ p928 ⊗ c ⊕ p072 ⊗ s ∷
    []
