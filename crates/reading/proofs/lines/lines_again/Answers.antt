use mathlib.Core.Path.{sym}
use native.Mathlib.Omega.{arith}
use lib.Seq.{length-take-le}
use Rattle.reading.proofs.AgainLaws.{place_fits, done_fits, refused_again, printed_again}
use Rattle.reading.proofs.lines.lines_again.Goals as goal

pub slice_bounds-code-end : goal.slice_bounds-code-end
slice_bounds-code-end c = (done_fits _ _ c.code_room-code.ensures c.read_code-answer.ensures c.read_code-answer.auto.code c.in-Done.is).0

pub slice_bounds-code_lines-end : goal.slice_bounds-code_lines-end
slice_bounds-code_lines-end c =
    let fits = done_fits _ _ c.code_room-code.ensures c.read_code-answer.ensures c.read_code-answer.auto.code c.in-Done.is in
    sym (length-take-le _ _ fits.0)

pub code_lines-requires : goal.code_lines-requires
code_lines-requires c =
    let fits = done_fits _ _ c.code_room-code.ensures c.read_code-answer.ensures c.read_code-answer.auto.code c.in-Done.is in
    omega (arith, length-take-le _ _ fits.0, fits.1)

pub returns-in-Done : goal.returns-in-Done
returns-in-Done c = printed_again _ _ c.code_room-code.ensures c.read_code-answer.ensures c.in-Done.is c.code_lines.ensures

pub overflow_cast-place : goal.overflow_cast-place
overflow_cast-place c = omega (arith, c.place-place.ensures, place_fits _ _ c.code_room-code.ensures c.read_code-answer.ensures c.requires)

pub returns-in_default : goal.returns-in_default
returns-in_default c =
    refused_again _ _ c.code_room-code.ensures c.read_code-answer.ensures c.number-number.ensures.0 c.place-place.ensures c.in_default.not-Done
    c.refused.ensures
