-- A group is the last, or has others above it, which the call reads.
use Rattle.std.proofs.Common.{◌+◌, ◌-◌, ◌<◌, arith, rules}
use Rattle.number.proofs.Places.{at_end, last_value, last_wrong, one_value, above_wrong, above_zero, above_value, small_number}
use Rattle.number.proofs.groups.+groups_at.Goals as goal

pub returns-then-message-at : goal.returns-then-message-at
returns-then-message-at t c = at_end _ _ _ c.if-message-at.true

pub returns-then-byte-lt16 : goal.returns-then-byte-lt16
returns-then-byte-lt16 t c = last_value _ _ _ c.if-message-at.false _ c.from-byte.ensures c.if-more-eq0.true c.if-byte-lt16.true

pub returns-then-more-eq0 : goal.returns-then-more-eq0
returns-then-more-eq0 t c = last_wrong _ _ _ c.if-message-at.false _ c.from-byte.ensures c.if-more-eq0.true c.if-byte-lt16.false

pub returns-then-byte-lt128 : goal.returns-then-byte-lt128
returns-then-byte-lt128 t c = one_value _ _ _ c.if-message-at.false _ c.from-byte.ensures c.if-more-eq0.false c.if-byte-lt128.true

pub overflow_mul-result : goal.overflow_mul-result
overflow_mul-result t c =
    let z = small_number c.args.message.now (λ i. omega (arith, c.type_inv.message i)) (c.args.at + 1) (c.args.more - 1) c.in-Ok.n c.in-Ok.end (omega arith) (cc (c.groups_at.ensures, c.in-Ok.is)) in
    search rules

pub overflow_add-result : goal.overflow_add-result
overflow_add-result t c =
    let z = small_number c.args.message.now (λ i. omega (arith, c.type_inv.message i)) (c.args.at + 1) (c.args.more - 1) c.in-Ok.n c.in-Ok.end (omega arith) (cc (c.groups_at.ensures, c.in-Ok.is)) in
    let y : c.from-byte.result < 256 = rw c.from-byte.ensures (omega (arith, c.type_inv.message c.args.at)) in
    search rules

pub returns-in-Err : goal.returns-in-Err
returns-in-Err t c = above_wrong _ _ _ c.if-message-at.false _ c.from-byte.ensures c.if-more-eq0.false c.if-byte-lt128.false c.in-Err.field-0 (cc (c.groups_at.ensures, c.in-Err.is))

pub returns-then-n-eq0 : goal.returns-then-n-eq0
returns-then-n-eq0 t c = above_zero _ _ _ c.if-message-at.false _ c.from-byte.ensures c.if-more-eq0.false c.if-byte-lt128.false c.in-Ok.n c.in-Ok.end (cc (c.groups_at.ensures, c.in-Ok.is)) c.if-n-eq0.true

pub returns-else-n-eq0 : goal.returns-else-n-eq0
returns-else-n-eq0 t c = above_value _ _ _ c.if-message-at.false _ c.from-byte.ensures c.if-more-eq0.false c.if-byte-lt128.false c.in-Ok.n c.in-Ok.end (cc (c.groups_at.ensures, c.in-Ok.is)) c.if-n-eq0.false
