-- The invariant: none of the rows passed repeats an earlier one, and each is on its chain.
use mathlib.Core.Path.{◌≡◌}
use lib.ListN.{length}
use Rattle.chains.specs.Chains.{Headed, Linked}
use Rattle.chains.proofs.DistinctLaws.{Passed}
use Rattle.chains.proofs.distinct_by_chains.Given as goal

abbrev pub invariant-loop-row : goal.invariant-loop-row
invariant-loop-row l =
    (length l.newest ≡ 4096) × (length l.older ≡ 4096) × Passed l.rows l.used l.row × Headed l.rows l.newest l.row × Linked l.rows l.older l.row
