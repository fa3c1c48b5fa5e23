-- Every number is asked, in order.
use mathlib.Core.Path.{◌≡◌, refl, ◌∙◌}
use mathlib.Core.Bool.{Bool, true, false, cond, ◌&&◌}
use mathlib.Core.List.{[], ◌∷◌}
use lib.Ieee.Scale.{finite}
use Rattle.std.proofs.lemmas.Iterator.{YieldsList-from_slice}
use Rattle.std.proofs.lemmas.Iterator.Search.{all_from_yields_List}
use Rattle.sheet.proofs.Answers.{tests}
use Rattle.turbulence.specs.Turbulence.{all_finite}
use Rattle.turbulence.proofs.all_finite.Goals as goal

in_pairs : (a b c d e f : Bool) → (a && (b && (c && (d && (e && (f && true)))))) ≡ cond (a && b) (cond (c && d) (e && f) false) false
in_pairs true true true true true true = refl
in_pairs true true true true true false = refl
in_pairs true true true true false f = refl
in_pairs true true true false e f = refl
in_pairs true true false d e f = refl
in_pairs true false c d e f = refl
in_pairs false b c d e f = refl

pub returns : goal.returns
unfolding all_finite
returns c =
    let t = c.args.t in
    all_from_yields_List finite _ _ _ c.all.ensures.ran (YieldsList-from_slice (t.offset_x ∷ t.offset_y ∷ t.sx ∷ t.sy ∷ t.base_frequency_x ∷ t.base_frequency_y ∷ []) cc) (λ x b q k. search tests)
    ∙ in_pairs (finite t.offset_x) (finite t.offset_y) (finite t.sx) (finite t.sy) (finite t.base_frequency_x) (finite t.base_frequency_y)
