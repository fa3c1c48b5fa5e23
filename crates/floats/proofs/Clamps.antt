-- A clamped value, by the two tests. Assumes nothing.
use Rattle.std.proofs.Common.{Bool, true, false, cond, not, T}
use lib.Ieee.{Float, of_bits, lt}
use Rattle.floats.specs.Inner.Steps.{clamped}
use Rattle.floats.proofs.Fractions.{nought}

pub by_clamp : (P : Float → Type 0) (x top : Float) → (T (lt nought x) → T (lt x top) → P x) → (T (lt nought x) → T (not (lt x top)) → P top) → (T (not (lt nought x)) → P nought) → P (clamped x top)
unfolding of_bits
by_clamp P x top mid high low = go (lt nought x) (lt x top) mid high low
  where
    go : (p q : Bool) → (T p → T q → P x) → (T p → T (not q) → P top) → (T (not p) → P nought) → P (cond p (cond q x top) nought)
    go true true a b c = a tt tt
    go true false a b c = b tt tt
    go false q a b c = c tt
