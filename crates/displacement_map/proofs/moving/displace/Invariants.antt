-- Each turn stores one more row.
use Rattle.std.proofs.Common.{◌≡◌, ℕ, ◌*◌, ◌<◌, length, get_or}
use Rattle.displacement_map.specs.Inner.Rows.{moved_at}
use Rattle.displacement_map.proofs.moving.displace.Given as goal

abbrev pub invariant-loop-y : goal.invariant-loop-y
invariant-loop-y l = record {
  same : length l.dest ≡ length l.initial.dest;
  stored : (k : ℕ) → k < 4 * (l.y * l.picture.width) → get_or l.dest k 0 ≡ moved_at l.columns l.rows l.picture l.map k;
}
