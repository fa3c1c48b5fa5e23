-- The tests come in the definition's order, and what passes them is convolved from a copy.
use mathlib.Core.Path.{refl, sym, ap, ◌∙◌}
use mathlib.Core.List.{List}
use Prim.Native.Nat.{ℕ}
use lib.ListN.{length}
use lib.Ieee.{Float}
use Rattle.pool.specs.Pool.{numbers_of}
use Rattle.sheet.specs.Tabulate.{zeros}
use Rattle.sheet.proofs.Answers.{first_err, second_err, both_ok, sheets_sized, sheets_first}
use Rattle.sheet.proofs.Contracts.{filtered_refused, filtered_done, holds_refused, holds_done}
use Rattle.sheet.proofs.Tabulated.{copied_all}
use Rattle.convolve_matrix.specs.ConvolveMatrix.{answer, convolved_by}
use Rattle.convolve_matrix.proofs.Tested.{kernel_told}
use Rattle.convolve_matrix.proofs.apply.Goals as goal

pub returns-in_err-test : goal.returns-in_err-test
unfolding answer
returns-in_err-test c =
    let e = first_err _ c.test.ensures c.in_err-test.was in
    record { filtered = filtered_refused e c.from_residual.ensures.1 refl; cleared = holds_refused e refl }

pub returns-in_err-test-2 : goal.returns-in_err-test-2
unfolding answer
returns-in_err-test-2 c =
    let e = second_err c.test.ensures c.in_ok-test.was c.test-2.ensures c.in_err-test-2.was in
    record { filtered = filtered_refused e c.from_residual-in_err-test-2.ensures.1 refl; cleared = holds_refused e refl }

pub invariant_of-convolution : goal.invariant_of-convolution
invariant_of-convolution c =
    let t = sym c.test.ensures ∙ c.in_ok-test.was in
    let first = sheets_first c.args.width c.args.height _ _ t in
    let second = sheets_first c.args.width c.args.height _ _ first.1 in
    let copied = c.copy.ensures ∙ copied_all _ _ (first.0 ∙ sym second.0) in
    record {
      fits = rw c.part.ensures (kernel_told c.args.matrix c.args.pool.now (sym c.test-2.ensures ∙ c.in_ok-test-2.was));
      sized = sheets_sized c.args.width c.args.height _ t;
      whole = ap length copied ∙ first.0;
    }

pub convolve_into-requires : goal.convolve_into-requires
convolve_into-requires c = (sheets_first c.args.width c.args.height _ _ (sym c.test.ensures ∙ c.in_ok-test.was)).0

pub returns : goal.returns
unfolding answer
returns c =
    let t = sym c.test.ensures ∙ c.in_ok-test.was in
    let first = sheets_first c.args.width c.args.height _ _ t in
    let second = sheets_first c.args.width c.args.height _ _ first.1 in
    let copied = c.copy.ensures ∙ copied_all _ _ (first.0 ∙ sym second.0) in
    let done = both_ok c.test.ensures c.in_ok-test.was c.test-2.ensures c.in_ok-test-2.was in
    record {
      filtered = filtered_done done (c.convolve_into.ensures
          ∙ (ap (λ (kernel : List Float). convolved_by c.args.matrix kernel c.args.width c.args.height c.copy.new.dst) c.part.ensures
          ∙ ap (λ (s : List ℕ). convolved_by c.args.matrix (numbers_of c.args.matrix.matrix c.args.pool.now) c.args.width c.args.height s) copied));
      cleared = holds_done done (c.clear.ensures ∙ ap zeros (ap length copied ∙ (first.0 ∙ sym second.0)));
    }
