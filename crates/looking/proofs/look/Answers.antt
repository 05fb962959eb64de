-- Each check's answer, in the checks' order.
use native.Mathlib.Omega.{arith}
use Rattle.terms.proofs.TableLaws.{used_rows_lem}
use Rattle.looking.proofs.LookLaws.{look-ways, checked_used}
use Rattle.looking.proofs.look.Goals as goal

pub returns-then-not-lengths_fit : goal.returns-then-not-lengths_fit
returns-then-not-lengths_fit c = search look-ways

pub returns-in-Err : goal.returns-in-Err
returns-in-Err c = search look-ways

pub returns-then-not-valid : goal.returns-then-not-valid
returns-then-not-valid c = search look-ways

pub returns-in-Some : goal.returns-in-Some
returns-in-Some c = search look-ways

pub returns-in-None : goal.returns-in-None
returns-in-None c = search look-ways

pub overflow_cast-used : goal.overflow_cast-used
overflow_cast-used c =
    let counted = checked_used c.args.rows.now _ c.first_bad_row.ensures c.in-Ok.is in
    omega (arith, counted.1, used_rows_lem c.args.rows.now, c.lengths_fit.ensures.few_rows c.if-not-lengths_fit.false)

pub overflow_cast-counted : goal.overflow_cast-counted
overflow_cast-counted c = omega (arith, used_rows_lem c.args.rows.now, c.used_rows-counted.ensures, c.lengths_fit.ensures.few_rows c.if-not-lengths_fit.false)
