-- A number is one group, or its lowest before the others, which the call stores.
use Rattle.number.proofs.Places.{groups_one, higher, put_first}
use Rattle.std.proofs.Common.{refl}
use Rattle.number.proofs.groups.+put_groups.Goals as goal

pub returns-then-n-lt128 : goal.returns-then-n-lt128
returns-then-n-lt128 t c = rw (groups_one _ _ c.if-n-lt128.true) (record { stored = c.put_byte.ensures; ends = refl })

pub returns : goal.returns
returns t c =
    let h = higher c.args.more c.args.n c.requires.n_bound c.if-n-lt128.false in
    rw h.form (put_first _ (rw c.put_byte-2.ensures at c.put_groups.ensures))
