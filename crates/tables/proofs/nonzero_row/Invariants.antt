-- The invariant: the rows passed leave the same answer.
use mathlib.Core.Path.{◌≡◌}
use Rattle.terms.specs.Rules.{nonzero_row}
use Rattle.tables.proofs.nonzero_row.Given as goal

abbrev pub invariant-loop-row : goal.invariant-loop-row
invariant-loop-row l = nonzero_row l.rows l.from ≡ nonzero_row l.rows l.row
