-- A code, then the fields that it calls for.
use mathlib.Core.Path.{refl}
use native.Mathlib.Omega.{arith}
use Rattle.message.proofs.Results.{passed_on}
use Rattle.message.proofs.Taking.{here, on, nothing, ill_taken, plain_takes, code_taken, no_code, unknown_code, not_a_code}
use Rattle.message.proofs.reading.step.Goals as goal

pub returns-in_err-number-clause-taken : goal.returns-in_err-number-clause-taken
returns-in_err-number-clause-taken c = ill_taken (passed_on _ _ c.from_residual.ensures.1) (no_code _ c.args.reader.now (nothing c.args.reader.now c.number.new.self c.number.ensures.same c.number.ensures.number c.in_err-number.was))

pub returns-in-1-clause-taken : goal.returns-in-1-clause-taken
returns-in-1-clause-taken c =
    let o = on c.args.reader.now c.number.new.self c.number.ensures.same c.number.ensures.number c.in_ok-number.was in
    let r = c.requires in
    code_taken 1 refl c.args.reader.now c.number.new.self (here c.args.reader.now c.number.new.self c.number.ensures.same c.number.ensures.number c.in_ok-number.was) c.in-1.is (plain_takes 1 c.morphology.ensures.taken (omega arith))

pub color_matrix-requires : goal.color_matrix-requires
color_matrix-requires c =
    let o = on c.args.reader.now c.number.new.self c.number.ensures.same c.number.ensures.number c.in_ok-number.was in
    let r = c.requires in
    omega arith

pub returns-in-2-clause-taken : goal.returns-in-2-clause-taken
returns-in-2-clause-taken c = code_taken 2 refl c.args.reader.now c.number.new.self (here c.args.reader.now c.number.new.self c.number.ensures.same c.number.ensures.number c.in_ok-number.was) c.in-2.is c.color_matrix.ensures.taken

pub component_transfer-requires : goal.component_transfer-requires
component_transfer-requires c =
    let o = on c.args.reader.now c.number.new.self c.number.ensures.same c.number.ensures.number c.in_ok-number.was in
    let r = c.requires in
    omega arith

pub returns-in-3-clause-taken : goal.returns-in-3-clause-taken
returns-in-3-clause-taken c = code_taken 3 refl c.args.reader.now c.number.new.self (here c.args.reader.now c.number.new.self c.number.ensures.same c.number.ensures.number c.in_ok-number.was) c.in-3.is c.component_transfer.ensures.taken

pub returns-in-4-clause-taken : goal.returns-in-4-clause-taken
returns-in-4-clause-taken c =
    let o = on c.args.reader.now c.number.new.self c.number.ensures.same c.number.ensures.number c.in_ok-number.was in
    let r = c.requires in
    code_taken 4 refl c.args.reader.now c.number.new.self (here c.args.reader.now c.number.new.self c.number.ensures.same c.number.ensures.number c.in_ok-number.was) c.in-4.is (plain_takes 4 c.arithmetic.ensures.taken (omega arith))

pub convolve_matrix-requires : goal.convolve_matrix-requires
convolve_matrix-requires c =
    let o = on c.args.reader.now c.number.new.self c.number.ensures.same c.number.ensures.number c.in_ok-number.was in
    let r = c.requires in
    omega arith

pub returns-in-5-clause-taken : goal.returns-in-5-clause-taken
returns-in-5-clause-taken c = code_taken 5 refl c.args.reader.now c.number.new.self (here c.args.reader.now c.number.new.self c.number.ensures.same c.number.ensures.number c.in_ok-number.was) c.in-5.is c.convolve_matrix.ensures.taken

pub returns-in-6-clause-taken : goal.returns-in-6-clause-taken
returns-in-6-clause-taken c =
    let o = on c.args.reader.now c.number.new.self c.number.ensures.same c.number.ensures.number c.in_ok-number.was in
    let r = c.requires in
    code_taken 6 refl c.args.reader.now c.number.new.self (here c.args.reader.now c.number.new.self c.number.ensures.same c.number.ensures.number c.in_ok-number.was) c.in-6.is (plain_takes 6 c.displacement_map.ensures.taken (omega arith))

pub returns-in-7-clause-taken : goal.returns-in-7-clause-taken
returns-in-7-clause-taken c =
    let o = on c.args.reader.now c.number.new.self c.number.ensures.same c.number.ensures.number c.in_ok-number.was in
    let r = c.requires in
    code_taken 7 refl c.args.reader.now c.number.new.self (here c.args.reader.now c.number.new.self c.number.ensures.same c.number.ensures.number c.in_ok-number.was) c.in-7.is (plain_takes 7 c.turbulence.ensures.taken (omega arith))

pub returns-in-8-clause-taken : goal.returns-in-8-clause-taken
returns-in-8-clause-taken c =
    let o = on c.args.reader.now c.number.new.self c.number.ensures.same c.number.ensures.number c.in_ok-number.was in
    let r = c.requires in
    code_taken 8 refl c.args.reader.now c.number.new.self (here c.args.reader.now c.number.new.self c.number.ensures.same c.number.ensures.number c.in_ok-number.was) c.in-8.is (plain_takes 8 c.diffuse_lighting.ensures.taken (omega arith))

pub returns-in-9-clause-taken : goal.returns-in-9-clause-taken
returns-in-9-clause-taken c =
    let o = on c.args.reader.now c.number.new.self c.number.ensures.same c.number.ensures.number c.in_ok-number.was in
    let r = c.requires in
    code_taken 9 refl c.args.reader.now c.number.new.self (here c.args.reader.now c.number.new.self c.number.ensures.same c.number.ensures.number c.in_ok-number.was) c.in-9.is (plain_takes 9 c.specular_lighting.ensures.taken (omega arith))

pub returns-in_default-clause-taken : goal.returns-in_default-clause-taken
returns-in_default-clause-taken c =
    ill_taken refl (unknown_code _ c.args.reader.now c.number.new.self (here c.args.reader.now c.number.new.self c.number.ensures.same c.number.ensures.number c.in_ok-number.was) (not_a_code c.in_ok-number.field-0 (λ i l h e. absurd (omega arith))))
