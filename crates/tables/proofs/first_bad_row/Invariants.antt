-- The invariant: none of the used rows passed is bad.
use Prim.Native.Nat.{◌≤◌}
use lib.ListN.{length}
use Rattle.word.proofs.ScanLaws.{Left}
use Rattle.terms.specs.Rules.{bad_term_row}
use Rattle.tables.proofs.first_bad_row.Given as goal

abbrev pub invariant-loop-row : goal.invariant-loop-row
invariant-loop-row l = (l.distinct ≤ l.used) × (l.used ≤ length l.rows) × Left (bad_term_row l.rows l.counter) l.rows l.row
