-- The invariant: the search over all rows is the search over those that are left.
use mathlib.Core.Path.{◌≡◌}
use Rattle.terms.specs.Finder.{equal_row}
use Rattle.finder.proofs.equal_row.Given as goal

abbrev pub invariant-loop-row : goal.invariant-loop-row
invariant-loop-row l = equal_row l.rows l.used l.word ≡ equal_row l.rows l.row l.word
