use lib.ListN.{get_or}
use Rattle.turns.proofs.WordLaws.{GoodBefore}
use Rattle.turns.proofs.words.first_bad_round_word.Given as goal

abbrev pub invariant-loop-place : goal.invariant-loop-place
invariant-loop-place l = GoodBefore (λ n. get_or l.kinds n 0) l.code l.place
