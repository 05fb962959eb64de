-- Each check's answer, in the checks' order.
use native.Mathlib.Omega.{arith}
use Rattle.std.proofs.lemmas.Grind.{common_steps}
use Rattle.terms.proofs.TableLaws.{used_rows_lem}
use Rattle.turns.proofs.CheckLaws.{look-ways}
use Rattle.turns.proofs.checks.look.Goals as goal

pub returns-then-not-round_fits : goal.returns-then-not-round_fits
returns-then-not-round_fits c = search look-ways

pub overflow_cast-used : goal.overflow_cast-used
overflow_cast-used c = grind (arith, common_steps, used_rows_lem c.args.terms.now)

pub returns-in-Err : goal.returns-in-Err
returns-in-Err c = search look-ways

pub returns-then-not-record_fits : goal.returns-then-not-record_fits
returns-then-not-record_fits c = search look-ways

pub returns-in-Some : goal.returns-in-Some
returns-in-Some c = search look-ways

pub returns : goal.returns
returns c = search look-ways
