-- Each run ends past its start.
use Rattle.std.proofs.Common.{length, ◌-◌}
use Rattle.recipes.proofs.replay.run.Given as goal

abbrev pub decreases-loop-words : goal.decreases-loop-words
decreases-loop-words l = length l.list - l.words.at
