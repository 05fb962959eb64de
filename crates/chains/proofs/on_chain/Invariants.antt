-- The invariant: the earlier rows that equal the word lie at the row come to or before it.
use Prim.Native.Nat.{◌≤◌}
use Rattle.chains.proofs.ChainLaws.{Ahead}
use Rattle.chains.proofs.on_chain.Given as goal

abbrev pub invariant-loop-at : goal.invariant-loop-at
invariant-loop-at l = (l.before ≤ l.row) × Ahead l.rows l.row l.word l.before l.at

abbrev pub decreases-loop-at : goal.decreases-loop-at
decreases-loop-at l = l.before
