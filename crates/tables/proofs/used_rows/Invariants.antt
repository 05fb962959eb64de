-- The invariant: none of the rows passed is zero.
use Rattle.terms.proofs.FinderLaws.{Absent}
use Rattle.tables.proofs.used_rows.Given as goal

abbrev pub invariant-loop-row : goal.invariant-loop-row
invariant-loop-row l = Absent l.rows l.row 0
