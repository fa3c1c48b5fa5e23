-- Two numbers, then the four functions.
use mathlib.Core.Path.{refl}
use native.Mathlib.Omega.{arith}
use Rattle.message.specs.Steps.{function}
use Rattle.message.specs.Inner.Reading.{firsts}
use Rattle.message.proofs.Results.{passed_on}
use Rattle.message.proofs.Taking.{ill_taken, field_wrong, fields_wrong, head_wrong, tail_wrong}
use Rattle.message.proofs.Forms.{functions, transfer_form}
use Rattle.message.proofs.listed.component_transfer.Goals as goal

pub returns-in_err-input-clause-taken : goal.returns-in_err-input-clause-taken
returns-in_err-input-clause-taken c =
    ill_taken (passed_on _ _ c.from_residual.ensures.1) (head_wrong 3 refl _ _ (c.row.ensures.row.ill _ c.in_err-input.was))

pub function-requires : goal.function-requires
function-requires c =
    let f = (c.row.ensures.row.well _ c.in_ok-input.was).1 in
    let r = c.requires in
    omega arith

pub function-requires-2 : goal.function-requires-2
function-requires-2 c = (c.function.ensures.taken.well _ c.in_ok-red.was).took.room

pub function-requires-3 : goal.function-requires-3
function-requires-3 c = (c.function-2.ensures.taken.well _ c.in_ok-green.was).took.room

pub function-requires-4 : goal.function-requires-4
function-requires-4 c = (c.function-3.ensures.taken.well _ c.in_ok-blue.was).took.room

pub returns-in_err-red-clause-taken : goal.returns-in_err-red-clause-taken
unfolding firsts
returns-in_err-red-clause-taken c =
    ill_taken (passed_on _ _ c.from_residual-in_err-red.ensures.1)
    (tail_wrong 3 refl _ _ c.row.new.reader (c.row.ensures.row.well _ c.in_ok-input.was).0 (field_wrong function (functions 3) _ (c.function.ensures.taken.ill _ c.in_err-red.was)))

pub returns-in_err-green-clause-taken : goal.returns-in_err-green-clause-taken
unfolding firsts
returns-in_err-green-clause-taken c =
    let red = c.function.ensures.taken.well _ c.in_ok-red.was in
    ill_taken (passed_on _ _ c.from_residual-in_err-green.ensures.1)
    (tail_wrong 3 refl _ _ c.row.new.reader (c.row.ensures.row.well _ c.in_ok-input.was).0
    (fields_wrong function (functions 3) _ red.took (field_wrong function (functions 2) _ (c.function-2.ensures.taken.ill _ c.in_err-green.was))))

pub returns-in_err-blue-clause-taken : goal.returns-in_err-blue-clause-taken
unfolding firsts
returns-in_err-blue-clause-taken c =
    let red = c.function.ensures.taken.well _ c.in_ok-red.was in
    let green = c.function-2.ensures.taken.well _ c.in_ok-green.was in
    ill_taken (passed_on _ _ c.from_residual-in_err-blue.ensures.1)
    (tail_wrong 3 refl _ _ c.row.new.reader (c.row.ensures.row.well _ c.in_ok-input.was).0
    (fields_wrong function (functions 3) _ red.took (fields_wrong function (functions 2) _ green.took (field_wrong function (functions 1) _ (c.function-3.ensures.taken.ill _ c.in_err-blue.was)))))

pub returns-in_err-alpha-clause-taken : goal.returns-in_err-alpha-clause-taken
unfolding firsts
returns-in_err-alpha-clause-taken c =
    let red = c.function.ensures.taken.well _ c.in_ok-red.was in
    let green = c.function-2.ensures.taken.well _ c.in_ok-green.was in
    let blue = c.function-3.ensures.taken.well _ c.in_ok-blue.was in
    ill_taken (passed_on _ _ c.from_residual-in_err-alpha.ensures.1)
    (tail_wrong 3 refl _ _ c.row.new.reader (c.row.ensures.row.well _ c.in_ok-input.was).0
    (fields_wrong function (functions 3) _ red.took (fields_wrong function (functions 2) _ green.took (fields_wrong function (functions 1) _ blue.took (field_wrong function (functions 0) _ (c.function-4.ensures.taken.ill _ c.in_err-alpha.was))))))

pub returns-clause-taken : goal.returns-clause-taken
unfolding firsts
returns-clause-taken c =
    transfer_form _ c.row.new.reader (c.row.ensures.row.well _ c.in_ok-input.was).0 c.function.new.reader c.function-2.new.reader c.function-3.new.reader
    (c.function.ensures.taken.well _ c.in_ok-red.was) (c.function-2.ensures.taken.well _ c.in_ok-green.was) (c.function-3.ensures.taken.well _ c.in_ok-blue.was) (c.function-4.ensures.taken.well _ c.in_ok-alpha.was)
