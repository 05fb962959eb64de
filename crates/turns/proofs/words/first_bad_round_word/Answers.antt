use Rattle.turns.proofs.WordLaws.{checking}
use Rattle.turns.proofs.words.first_bad_round_word.Goals as goal

pub loop-place-init : goal.loop-place-init
loop-place-init c = search checking

pub returns-then-not-good_round_word : goal.returns-then-not-good_round_word
returns-then-not-good_round_word c = search checking

pub loop-place-preserved : goal.loop-place-preserved
loop-place-preserved c = search checking

pub returns : goal.returns
returns c = search checking
