-- What a channel's number names across the C boundary; one that names no channel is out of range.
use Rattle.std.specs.Prelude.{ℕ, zero, suc, cond, List, ltb, Float}
use Rattle.sheet.specs.Answer.{Answer, Done, refusal, and_then}
use Rattle.sheet.specs.Contract.{Lent, was}
use Rattle.displacement_map.specs.declared.ColorChannel.{ColorChannel}
use Rattle.displacement_map.specs.declared.ColorChannel.TheVariants.{R, G, B, A}
use Rattle.displacement_map.specs.DisplacementMap.{answer, displaced}
use Rattle.nuprikhen.specs.declared.nup_answer.{nup_answer}
use Rattle.nuprikhen.specs.Called.{Called}

-- 0 is R, 1 is G, 2 is B, 3 is A
abbrev pub channel_of : ℕ → ColorChannel
channel_of zero = R
channel_of (suc zero) = G
channel_of (suc (suc zero)) = B
channel_of (suc (suc (suc n))) = A

-- the number is 0 to 3
unfoldable pub named_channel : ℕ → Answer
named_channel n = cond (ltb 3 n) (refusal 5) Done

-- both numbers are 0 to 3
unfoldable pub named_channels : ℕ → ℕ → Answer
named_channels x y = cond (ltb 3 x) (refusal 5) (cond (ltb 3 y) (refusal 5) Done)

-- the two numbers, whose test is `named`, are tested with the ranges, the last of the tests
unfoldable pub displacement_answer : Answer → Float → Float → Float → ℕ → ℕ → List ℕ → List ℕ → List ℕ → Answer
displacement_answer named sx sy scale w h src map dest = and_then (answer sx sy scale w h src map dest) named

-- the contract, by the two numbers: what the call told, and the destination
abbrev pub Displaced : (x y : ℕ) → Float → Float → Float → ℕ → ℕ → Lent ℕ → Lent ℕ → nup_answer → Lent ℕ → Type 0
Displaced x y sx sy scale w h src map r dest =
    Called (displacement_answer (named_channels x y) sx sy scale w h (was src) (was map) (was dest)) r
    (displaced (channel_of x) (channel_of y) sx sy scale w h (was src) (was map)) dest
