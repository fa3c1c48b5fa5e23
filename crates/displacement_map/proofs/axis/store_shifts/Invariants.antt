-- Each turn stores the shift of one more byte.
use Rattle.std.proofs.Common.{◌≡◌, ℕ, ◌<◌, length, get_or}
use lib.Ieee.{nan}
use Rattle.displacement_map.specs.DisplacementMap.{shift}
use Rattle.displacement_map.proofs.axis.store_shifts.Given as goal

abbrev pub invariant-loop-i : goal.invariant-loop-i
invariant-loop-i l = (length l.values ≡ 256) × ((c : ℕ) → c < l.i → get_or l.values c nan ≡ shift l.fn.s l.fn.scale c)
