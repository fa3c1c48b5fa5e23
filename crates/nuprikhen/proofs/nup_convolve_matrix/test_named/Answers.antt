-- The tests come in the definition's order.
use Rattle.sheet.proofs.Answers.{tests}
use Rattle.nuprikhen.specs.Convolving.{named_edge}
use Rattle.nuprikhen.proofs.Naming.{edge_unnamed}
use Rattle.nuprikhen.proofs.nup_convolve_matrix.test_named.Goals as goal

pub returns-then-is_err : goal.returns-then-is_err
unfolding named_edge
returns-then-is_err c =
    let unnamed = edge_unnamed c.args.edge in
    search tests

pub returns-then-preserve-gt1 : goal.returns-then-preserve-gt1
unfolding named_edge
returns-then-preserve-gt1 c =
    let unnamed = edge_unnamed c.args.edge in
    search tests

pub returns : goal.returns
unfolding named_edge
returns c =
    let unnamed = edge_unnamed c.args.edge in
    search tests
