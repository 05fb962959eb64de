use mathlib.Core.Bool.{not}
use Rattle.word.proofs.ScanLaws.{Left}
use Rattle.grammar.proofs.rules.first_unnamed.Given as goal

abbrev pub invariant-loop-place : goal.invariant-loop-place
invariant-loop-place l = Left (λ at mark. not mark) l.others l.place
