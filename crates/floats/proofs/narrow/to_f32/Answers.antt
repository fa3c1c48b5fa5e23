-- `to_f32` meets its contract: the sign is put back on the rounded size. Assumes nothing.
use Rattle.std.proofs.Common.{ℕ, ◌+◌, ◌*◌, ◌/◌, ◌<◌, ◌≤◌, arith}
use lib.Ieee.{Float, binary64, of_bits, to_bits}
use Rattle.floats.proofs.Tests.{T_true}
use Rattle.floats.proofs.Ordered.{equals_itself}
use Rattle.floats.proofs.NarrowedSign.{no_nan_pattern, one_sign, with_sign, signed_ok, nan_same}
use Rattle.floats.proofs.narrow.to_f32.Goals as goal

pub narrowed-size-requires : goal.narrowed-size-requires
narrowed-size-requires c = no_nan_pattern c.args.x (T_true c.well_formed.0.1) (equals_itself c.args.x (T_true c.if-x.true))

-- the sign and the size, as numbers, and what the pattern is made by
abbrev sign : Float → ℕ
sign x = to_bits binary64 x / 9223372036854775808

module _ (s m : ℕ) (a : s ≤ 1) (b : m ≤ 2139095040) where
  sign_fits : s < 4294967296
  sign_fits = omega arith

  top_fits : s * 2147483648 < 4294967296
  top_fits = omega arith

  sum_fits : s * 2147483648 + m < 4294967296
  sum_fits = omega arith

pub overflow_cast-sign : goal.overflow_cast-sign
overflow_cast-sign c =
    let size = c.narrowed-size in
    record { fits = sign_fits (sign c.args.x) size.result (one_sign c.args.x (T_true c.well_formed.0.1) size.result size.ensures.is size.ensures.small) size.ensures.small }

pub overflow_mul-sign : goal.overflow_mul-sign
overflow_mul-sign c =
    let size = c.narrowed-size in
    record { fits = top_fits (sign c.args.x) size.result (one_sign c.args.x (T_true c.well_formed.0.1) size.result size.ensures.is size.ensures.small) size.ensures.small }

pub overflow_add-result : goal.overflow_add-result
overflow_add-result c =
    let size = c.narrowed-size in
    record { fits = sum_fits (sign c.args.x) size.result (one_sign c.args.x (T_true c.well_formed.0.1) size.result size.ensures.is size.ensures.small) size.ensures.small }

pub float_from_bits-result : goal.float_from_bits-result
float_from_bits-result c =
    let size = c.narrowed-size in
    signed_ok (sign c.args.x) size.result (one_sign c.args.x (T_true c.well_formed.0.1) size.result size.ensures.is size.ensures.small) size.ensures.small

pub returns-then-x : goal.returns-then-x
returns-then-x c = with_sign c.args.x (T_true c.well_formed.0.1) c.narrowed-size.result c.narrowed-size.ensures.is c.narrowed-size.ensures.small

pub returns-else-x : goal.returns-else-x
unfolding of_bits
returns-else-x c = nan_same c.args.x c.if-x.false
