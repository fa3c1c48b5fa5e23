-- None leaves out the places whose column lies outside; the others read every place.
use mathlib.Core.Logic.{⊎_elim}
use Rattle.convolve_matrix.proofs.Edging.{span_none, span_all, read_duplicate, read_wrap}
use Rattle.convolve_matrix.proofs.edge.Side.span.Goals as goal

pub returns-in-None : goal.returns-in-None
returns-in-None c = rw (c.in-None.is, c.own.ensures.start, c.own.ensures.end) (span_none _ _ _ _)

pub returns-in-Duplicate : goal.returns-in-Duplicate
returns-in-Duplicate c =
    ⊎_elim (λ e. rw e (span_all _ _ _ _ _ (read_duplicate _ _))) (λ e. rw e (span_all _ _ _ _ _ (read_wrap _ _))) c.in-Duplicate.is
