-- By the kinds of a colour matrix.
use mathlib.Core.Path.{refl, ap}
use mathlib.Core.List.{[]}
use native.Mathlib.Omega.{arith}
use Rattle.message.specs.Fields.{read_shape}
use Rattle.message.specs.Steps.{matrix_shapes}
use Rattle.message.specs.Inner.Reading.{firsts}
use Rattle.message.proofs.Results.{passed_on}
use Rattle.message.proofs.Taking.{here, on, nothing, well_taken, ill_taken}
use Rattle.message.proofs.Choosing.{no_kind, unknown_kind, kind_wrong, kind_took, none_shape, one_wrong, two_wrong, one_shape, two_shape}
use Rattle.color_matrix.specs.declared.ColorMatrix.TheVariants.{Matrix}
use Rattle.message.proofs.listed.matrix.Goals as goal

pub returns-in_err-number-clause-taken : goal.returns-in_err-number-clause-taken
returns-in_err-number-clause-taken c =
    ill_taken (passed_on _ _ c.from_residual.ensures.1) (no_kind matrix_shapes c.args.reader.now (nothing c.args.reader.now c.number.new.self c.number.ensures.same c.number.ensures.number c.in_err-number.was))

pub numbers-requires : goal.numbers-requires
numbers-requires c =
    let o = on c.args.reader.now c.number.new.self c.number.ensures.same c.number.ensures.number c.in_ok-number.was in
    let r = c.requires in
    omega arith

pub returns-in_err-numbers-in-0-clause-taken : goal.returns-in_err-numbers-in-0-clause-taken
unfolding read_shape
returns-in_err-numbers-in-0-clause-taken c =
    ill_taken (passed_on _ _ c.from_residual-in_err-numbers-in-0.ensures.1) (kind_wrong matrix_shapes c.args.reader.now c.number.new.self (here c.args.reader.now c.number.new.self c.number.ensures.same c.number.ensures.number c.in_ok-number.was) 0 c.in-0.is (omega arith) (c.numbers.ensures.taken.ill _ c.in_err-numbers-in-0.was))

pub returns-in_ok-numbers-in-0-clause-taken : goal.returns-in_ok-numbers-in-0-clause-taken
unfolding read_shape
returns-in_ok-numbers-in-0-clause-taken c =
    let w = c.numbers.ensures.taken.well _ c.in_ok-numbers-in-0.was in
    well_taken _ (record {
      value = (0, w.value);
      list = w.list;
      took = kind_took matrix_shapes c.args.reader.now c.number.new.self (here c.args.reader.now c.number.new.self c.number.ensures.same c.number.ensures.number c.in_ok-number.was) 0 c.in-0.is (omega arith) w.took;
      fits = (ap Matrix w.fits.1, w.fits.0);
    })

pub returns-in_err-value-in-1-clause-taken : goal.returns-in_err-value-in-1-clause-taken
returns-in_err-value-in-1-clause-taken c =
    ill_taken (passed_on _ _ c.from_residual-in_err-value-in-1.ensures.1) (kind_wrong matrix_shapes c.args.reader.now c.number.new.self (here c.args.reader.now c.number.new.self c.number.ensures.same c.number.ensures.number c.in_ok-number.was) 1 c.in-1.is (omega arith) (one_wrong c.number.new.self (c.row.ensures.row.ill _ c.in_err-value-in-1.was)))

pub returns-in_ok-value-in-1-clause-taken : goal.returns-in_ok-value-in-1-clause-taken
unfolding firsts
returns-in_ok-value-in-1-clause-taken c =
    let o = on c.args.reader.now c.number.new.self c.number.ensures.same c.number.ensures.number c.in_ok-number.was in
    let r = c.requires in
    let w = c.row.ensures.row.well _ c.in_ok-value-in-1.was in
    let f = w.1 in
    well_taken _ (record {
      value = (1, _);
      list = [];
      took = kind_took matrix_shapes c.args.reader.now c.number.new.self (here c.args.reader.now c.number.new.self c.number.ensures.same c.number.ensures.number c.in_ok-number.was) 1 c.in-1.is (omega arith) (one_shape c.number.new.self c.row.new.reader w.0 (omega arith));
      fits = (rw (c.float_of.ensures), refl);
    })

pub returns-in_err-cosine-in-2-clause-taken : goal.returns-in_err-cosine-in-2-clause-taken
returns-in_err-cosine-in-2-clause-taken c =
    ill_taken (passed_on _ _ c.from_residual-in_err-cosine-in-2.ensures.1) (kind_wrong matrix_shapes c.args.reader.now c.number.new.self (here c.args.reader.now c.number.new.self c.number.ensures.same c.number.ensures.number c.in_ok-number.was) 2 c.in-2.is (omega arith) (two_wrong c.number.new.self (c.row-in-2.ensures.row.ill _ c.in_err-cosine-in-2.was)))

pub returns-in_ok-cosine-in-2-clause-taken : goal.returns-in_ok-cosine-in-2-clause-taken
unfolding firsts
returns-in_ok-cosine-in-2-clause-taken c =
    let o = on c.args.reader.now c.number.new.self c.number.ensures.same c.number.ensures.number c.in_ok-number.was in
    let r = c.requires in
    let w = c.row-in-2.ensures.row.well _ c.in_ok-cosine-in-2.was in
    let f = w.1 in
    well_taken _ (record {
      value = (2, _);
      list = [];
      took = kind_took matrix_shapes c.args.reader.now c.number.new.self (here c.args.reader.now c.number.new.self c.number.ensures.same c.number.ensures.number c.in_ok-number.was) 2 c.in-2.is (omega arith) (two_shape c.number.new.self c.row-in-2.new.reader w.0 (omega arith));
      fits = (rw (c.float_of-in-2.ensures, c.float_of-in-2-2.ensures), refl);
    })

pub returns-in-3-clause-taken : goal.returns-in-3-clause-taken
returns-in-3-clause-taken c =
    let o = on c.args.reader.now c.number.new.self c.number.ensures.same c.number.ensures.number c.in_ok-number.was in
    let r = c.requires in
    well_taken _ (record {
      value = (3, tt);
      list = [];
      took = kind_took matrix_shapes c.args.reader.now c.number.new.self (here c.args.reader.now c.number.new.self c.number.ensures.same c.number.ensures.number c.in_ok-number.was) 3 c.in-3.is (omega arith) (none_shape c.number.new.self (omega arith));
      fits = (refl, refl);
    })

pub returns-in_default-clause-taken : goal.returns-in_default-clause-taken
returns-in_default-clause-taken c =
    ill_taken refl (unknown_kind matrix_shapes c.args.reader.now c.number.new.self (here c.args.reader.now c.number.new.self c.number.ensures.same c.number.ensures.number c.in_ok-number.was) (omega arith))
