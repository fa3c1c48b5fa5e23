-- What a `?` passes on.
use Rattle.std.specs.Prelude.{◌≡◌, Result, Ok, Err, IsErrAnd}
use Rattle.std.proofs.Common.{ap}

pub passed_on : {T E : Type 0} (r : Result T E) (w : E) → IsErrAnd r (λ e. e ≡ w) → r ≡ Err w
passed_on (Ok x) w h = absurd h
passed_on (Err e) w h = ap Err h
