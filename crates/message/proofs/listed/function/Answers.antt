-- By the kinds of a transfer function.
use mathlib.Core.Path.{refl, ap}
use mathlib.Core.List.{[]}
use native.Mathlib.Omega.{arith}
use Rattle.message.specs.Fields.{read_shape}
use Rattle.message.specs.Steps.{function_shapes}
use Rattle.message.specs.Inner.Reading.{firsts}
use Rattle.message.proofs.Results.{passed_on}
use Rattle.message.proofs.Taking.{here, on, nothing, well_taken, ill_taken}
use Rattle.message.proofs.Choosing.{no_kind, unknown_kind, kind_wrong, kind_took, none_shape, two_wrong, two_shape}
use Rattle.component_transfer.specs.declared.TransferFunction.TheVariants.{Table, Discrete}
use Rattle.message.proofs.listed.function.Goals as goal

pub returns-in_err-number-clause-taken : goal.returns-in_err-number-clause-taken
returns-in_err-number-clause-taken c =
    ill_taken (passed_on _ _ c.from_residual.ensures.1) (no_kind function_shapes c.args.reader.now (nothing c.args.reader.now c.number.new.self c.number.ensures.same c.number.ensures.number c.in_err-number.was))

pub numbers-requires : goal.numbers-requires
numbers-requires c =
    let o = on c.args.reader.now c.number.new.self c.number.ensures.same c.number.ensures.number c.in_ok-number.was in
    let r = c.requires in
    omega arith

pub returns-in_err-numbers-in-1-clause-taken : goal.returns-in_err-numbers-in-1-clause-taken
unfolding read_shape
returns-in_err-numbers-in-1-clause-taken c =
    ill_taken (passed_on _ _ c.from_residual-in_err-numbers-in-1.ensures.1) (kind_wrong function_shapes c.args.reader.now c.number.new.self (here c.args.reader.now c.number.new.self c.number.ensures.same c.number.ensures.number c.in_ok-number.was) 1 c.in-1.is (omega arith) (c.numbers.ensures.taken.ill _ c.in_err-numbers-in-1.was))

pub returns-in_ok-numbers-in-1-clause-taken : goal.returns-in_ok-numbers-in-1-clause-taken
unfolding read_shape
returns-in_ok-numbers-in-1-clause-taken c =
    let w = c.numbers.ensures.taken.well _ c.in_ok-numbers-in-1.was in
    well_taken _ (record {
      value = (1, w.value);
      list = w.list;
      took = kind_took function_shapes c.args.reader.now c.number.new.self (here c.args.reader.now c.number.new.self c.number.ensures.same c.number.ensures.number c.in_ok-number.was) 1 c.in-1.is (omega arith) w.took;
      fits = (ap Table w.fits.1, w.fits.0);
    })

pub numbers-requires-in-2 : goal.numbers-requires-in-2
numbers-requires-in-2 c =
    let o = on c.args.reader.now c.number.new.self c.number.ensures.same c.number.ensures.number c.in_ok-number.was in
    let r = c.requires in
    omega arith

pub returns-in_err-numbers-in-2-clause-taken : goal.returns-in_err-numbers-in-2-clause-taken
unfolding read_shape
returns-in_err-numbers-in-2-clause-taken c =
    ill_taken (passed_on _ _ c.from_residual-in_err-numbers-in-2.ensures.1) (kind_wrong function_shapes c.args.reader.now c.number.new.self (here c.args.reader.now c.number.new.self c.number.ensures.same c.number.ensures.number c.in_ok-number.was) 2 c.in-2.is (omega arith) (c.numbers-in-2.ensures.taken.ill _ c.in_err-numbers-in-2.was))

pub returns-in_ok-numbers-in-2-clause-taken : goal.returns-in_ok-numbers-in-2-clause-taken
unfolding read_shape
returns-in_ok-numbers-in-2-clause-taken c =
    let w = c.numbers-in-2.ensures.taken.well _ c.in_ok-numbers-in-2.was in
    well_taken _ (record {
      value = (2, w.value);
      list = w.list;
      took = kind_took function_shapes c.args.reader.now c.number.new.self (here c.args.reader.now c.number.new.self c.number.ensures.same c.number.ensures.number c.in_ok-number.was) 2 c.in-2.is (omega arith) w.took;
      fits = (ap Discrete w.fits.1, w.fits.0);
    })

pub returns-in_err-slope-in-3-clause-taken : goal.returns-in_err-slope-in-3-clause-taken
returns-in_err-slope-in-3-clause-taken c =
    ill_taken (passed_on _ _ c.from_residual-in_err-slope-in-3.ensures.1) (kind_wrong function_shapes c.args.reader.now c.number.new.self (here c.args.reader.now c.number.new.self c.number.ensures.same c.number.ensures.number c.in_ok-number.was) 3 c.in-3.is (omega arith) (two_wrong c.number.new.self (c.row.ensures.row.ill _ c.in_err-slope-in-3.was)))

pub returns-in_ok-slope-in-3-clause-taken : goal.returns-in_ok-slope-in-3-clause-taken
unfolding firsts
returns-in_ok-slope-in-3-clause-taken c =
    let o = on c.args.reader.now c.number.new.self c.number.ensures.same c.number.ensures.number c.in_ok-number.was in
    let r = c.requires in
    let w = c.row.ensures.row.well _ c.in_ok-slope-in-3.was in
    let f = w.1 in
    well_taken _ (record {
      value = (3, _);
      list = [];
      took = kind_took function_shapes c.args.reader.now c.number.new.self (here c.args.reader.now c.number.new.self c.number.ensures.same c.number.ensures.number c.in_ok-number.was) 3 c.in-3.is (omega arith) (two_shape c.number.new.self c.row.new.reader w.0 (omega arith));
      fits = (rw (c.float_of.ensures, c.float_of-in-3.ensures), refl);
    })

pub returns-in-0-clause-taken : goal.returns-in-0-clause-taken
returns-in-0-clause-taken c =
    let o = on c.args.reader.now c.number.new.self c.number.ensures.same c.number.ensures.number c.in_ok-number.was in
    let r = c.requires in
    well_taken _ (record {
      value = (0, tt);
      list = [];
      took = kind_took function_shapes c.args.reader.now c.number.new.self (here c.args.reader.now c.number.new.self c.number.ensures.same c.number.ensures.number c.in_ok-number.was) 0 c.in-0.is (omega arith) (none_shape c.number.new.self (omega arith));
      fits = (refl, refl);
    })

pub returns-in_default-clause-taken : goal.returns-in_default-clause-taken
returns-in_default-clause-taken c =
    ill_taken refl (unknown_kind function_shapes c.args.reader.now c.number.new.self (here c.args.reader.now c.number.new.self c.number.ensures.same c.number.ensures.number c.in_ok-number.was) (omega arith))
