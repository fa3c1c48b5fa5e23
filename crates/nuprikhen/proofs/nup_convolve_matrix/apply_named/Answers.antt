-- Numbers that name a case change no answer, and any others are refused after the tests.
use mathlib.Core.Path.{refl, sym}
use Rattle.sheet.proofs.Contracts.{filtered_refused, holds_refused}
use Rattle.convolve_matrix.specs.ConvolveMatrix.{answer}
use Rattle.nuprikhen.specs.Convolving.{convolve_answer}
use Rattle.nuprikhen.proofs.Calls.{holds_as, filtered_as}
use Rattle.nuprikhen.proofs.Naming.{then_named, first_stands, second_stands, third_stands}
use Rattle.nuprikhen.proofs.nup_convolve_matrix.apply_named.Goals as goal

pub returns-in_err-test : goal.returns-in_err-test
unfolding convolve_answer answer
returns-in_err-test c =
    let e = first_stands _ _ c.test.ensures c.in_err-test.was in
    record { filtered = filtered_refused e c.from_residual.ensures.1 refl; cleared = holds_refused e refl }

pub returns-in_err-test-2 : goal.returns-in_err-test-2
unfolding convolve_answer answer
returns-in_err-test-2 c =
    let e = second_stands _ c.test.ensures c.in_ok-test.was c.test-in-Err.ensures c.in_err-test-2.was in
    record { filtered = filtered_refused e c.from_residual-in_err-test-2.ensures.1 refl; cleared = holds_refused e refl }

pub returns-in-Err : goal.returns-in-Err
unfolding convolve_answer answer
returns-in-Err c =
    let e = third_stands c.test.ensures c.in_ok-test.was c.test-in-Err.ensures c.in_ok-test-2.was c.in-Err.is in
    record { filtered = record { answered = sym e; held = holds_refused e refl }; cleared = holds_refused e refl }

pub returns : goal.returns
unfolding convolve_answer
returns c =
    let e = then_named _ _ c.in_default.is in
    record { filtered = filtered_as refl refl e refl c.apply.ensures.filtered; cleared = holds_as refl refl e refl c.apply.ensures.cleared }
