-- The invariant: none of the rows passed repeats an earlier one.
use Rattle.chains.proofs.DistinctLaws.{Passed}
use Rattle.chains.proofs.distinct_by_search.Given as goal

abbrev pub invariant-loop-row : goal.invariant-loop-row
invariant-loop-row l = Passed l.rows l.used l.row
