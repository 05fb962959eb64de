use lib.ListN.{get_or}
use Rattle.code.proofs.ReadLaws.{GoodBefore}
use Rattle.operands.proofs.first_bad_word.Given as goal

abbrev pub invariant-loop-place : goal.invariant-loop-place
invariant-loop-place l = GoodBefore (λ n. get_or l.kinds n 0) l.code l.place
