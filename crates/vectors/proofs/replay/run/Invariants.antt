-- The buffers keep their lengths, and each case ends past its start.
use Rattle.std.proofs.Common.{length, ◌-◌, ◌≡◌}
use Rattle.vectors.proofs.replay.run.Given as goal

abbrev pub invariant-loop-words : goal.invariant-loop-words
invariant-loop-words l = (length l.a ≡ 20480) × (length l.b ≡ 20480) × (length l.c ≡ 20480)

abbrev pub decreases-loop-words : goal.decreases-loop-words
decreases-loop-words l = length l.list - l.words.at
