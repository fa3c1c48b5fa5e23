-- Only None leaves a place out.
use borrow.Author.Rules.{rules}
use borrow.Author.Tests.{lt-leb}
use mathlib.Core.Path.{sym}
use mathlib.Core.Logic.{⊎_elim}
use Rattle.convolve_matrix.proofs.Edging.{read_low, read_high, read_duplicate, read_wrap}
use Rattle.convolve_matrix.proofs.edge.Side.is_read.Goals as goal

pub returns-then-self-at : goal.returns-then-self-at
returns-then-self-at c = rw c.in-None.is (read_high c.args.self.target c.args.self.places c.args.at (search rules))

pub returns-else-self-at : goal.returns-else-self-at
returns-else-self-at c =
    rw (c.in-None.is, lt-leb c.args.self.target c.args.at (search rules)) (read_low _ c.args.self.places _ (search rules))

pub returns-in-Duplicate : goal.returns-in-Duplicate
returns-in-Duplicate c =
    ⊎_elim (λ e. rw e (sym (read_duplicate _ _ _))) (λ e. rw e (sym (read_wrap _ _ _))) c.in-Duplicate.is
