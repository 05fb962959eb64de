-- The half's bytes are unpacked and compiled.
use native.Mathlib.Omega.{arith}
use Rattle.role_counting.proofs.RowLaws.{bytes_within, unpacked_rows}
use Rattle.role_counting.proofs.row_units.U8RowUnit.compile_half.Goals as goal

pub overflow_mul-from : goal.overflow_mul-from
overflow_mul-from c = omega (arith, bytes_within c.args.rows.now _ _ c.requires.0 c.requires.1, c.requires.0, c.well_formed.0.1)

pub overflow_mul-to : goal.overflow_mul-to
overflow_mul-to c = omega (arith, bytes_within c.args.rows.now _ _ c.requires.0 c.requires.1, c.well_formed.0.1)

pub slice_bounds-unpack_words-end : goal.slice_bounds-unpack_words-end
slice_bounds-unpack_words-end c = bytes_within c.args.rows.now _ _ c.requires.0 c.requires.1

pub returns : goal.returns
returns c =
    let compiles = c.compile_known.ensures in
    rw (c.unpack_words.ensures, unpacked_rows c.args.rows.now c.args.from c.args.to c.requires.0 c.requires.1) at compiles
