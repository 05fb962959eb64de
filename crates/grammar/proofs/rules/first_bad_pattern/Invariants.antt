use Rattle.patterns.proofs.CheckLaws.{Good}
use Rattle.grammar.proofs.rules.first_bad_pattern.Given as goal

abbrev pub invariant-loop-place : goal.invariant-loop-place
invariant-loop-place l = Good l.rows l.marks l.place
