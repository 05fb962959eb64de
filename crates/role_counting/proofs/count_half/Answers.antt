-- A half that has room is compiled, and its words are counted.
use mathlib.Core.Path.{sym, ap}
use native.Mathlib.Omega.{arith}
use Rattle.role_counting.specs.Counted.{set_env, half_counted}
use Rattle.role_counting.proofs.CountLaws.{half_counted_lem}
use Rattle.role_counting.proofs.RowLaws.{half_limit, between_long}
use Rattle.role_counting.proofs.count_half.Goals as goal

pub returns-then-to-from-gt-MOST_PATTERN_ROWS : goal.returns-then-to-from-gt-MOST_PATTERN_ROWS
returns-then-to-from-gt-MOST_PATTERN_ROWS g c =
    let a = c.args in
    let rows = g.R.RowUnit.rows_of a.rows.now in
    let e = set_env a.set in
    let many = between_long rows a.from a.to c.requires.0 c.requires.1 in
    sym (ap (half_counted e) (half_limit a.create _ a.kinds.now e (omega (arith, c.if-to-from-gt-MOST_PATTERN_ROWS.true, many))))

pub returns : goal.returns
returns g c = half_counted_lem _ _ _ _ _ _ c.compile_half.ensures
