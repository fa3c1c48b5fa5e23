-- The byte's shift is held.
use Rattle.std.proofs.Common.{◌≡◌, ℕ, ◌<◌, List, get_or, pos, sym, subst, ap, ◌∙◌}
use lib.Ieee.{Float, nan, binary32, of_int}
use Rattle.floats.specs.Operators.{◌⊕◌}
use Rattle.displacement_map.specs.DisplacementMap.{channel_number, place}
use Rattle.displacement_map.specs.Inner.Moving.{Shifts, Small}
use Rattle.displacement_map.proofs.Bytes.{channel_few}
use Rattle.displacement_map.proofs.Distance.{place_small}
use Rattle.displacement_map.proofs.axis.Axis.place.Goals as goal

held : (s scale : Float) (shifts : List Float) (i b c : ℕ) → Shifts s scale shifts → b ≡ c → c < 256 → of_int binary32 (pos i) ⊕ get_or shifts b nan ≡ place s scale i c
unfolding place
held s scale shifts i b c all e few =
    ap (λ (j : ℕ). of_int binary32 (pos i) ⊕ get_or shifts j nan) e ∙ ap (λ (t : Float). of_int binary32 (pos i) ⊕ t) (all c few)

pub returns : goal.returns
returns c =
    let few = channel_few (channel_number c.args.self.now.selector) c.args.pixel.number in
    let value = held _ _ _ c.args.i _ _ c.args.self.now.shifted c.selected.ensures few in
    record { small = subst (λ (z : Float). Small z) (sym value) (place_small c.args.i _ _ _ c.requires few c.args.self.now.canvas c.args.self.now.range); value = value }
