-- The places before the line's own, those, and the places after them, side by side.
use Prim.Native.Nat.{◌+◌, ◌-◌, ◌*◌, zero-le}
use native.Mathlib.Omega.{arith}
use Rattle.convolve_matrix.proofs.Widening.{own_places, numbers_stored, widened_join, widened_own}
use Rattle.convolve_matrix.proofs.rows.widen.Goals as goal

pub returns : goal.returns
returns c =
    let lo = c.own-own.result.start in
    let hi = c.own-own.result.end in
    let o = own_places c.args.side.target c.args.side.places c.args.x c.args.end c.requires.places.0 c.requires.line.1 c.own-own.ensures.start c.own-own.ensures.end in
    let same = c.widen_places.ensures.same in
    let stored = numbers_stored c.args.line.now (4 * (c.args.x + lo - c.args.side.target)) (4 * lo) (4 * (hi - lo)) _ _ c.widen_places.new.row c.to_numbers.new.numbers (omega arith) (omega arith) (omega arith) (omega arith) (omega arith) c.to_numbers.ensures in
    let own = widened_own _ _ _ _ _ o stored in
    widened_join _ _ _ _ _ zero-le o.within (widened_join _ _ _ _ _ zero-le o.ordered c.widen_places.ensures own) c.widen_places-2.ensures
