-- The invariant: each part passed is below the row.
use Rattle.tables.proofs.RuleLaws.{Below}
use Rattle.tables.proofs.parts_below.Given as goal

abbrev pub invariant-loop-slot : goal.invariant-loop-slot
invariant-loop-slot l = Below l.row l.word l.slot
