use Rattle.code.proofs.ReadLaws.{judging}
use Rattle.operands.proofs.good_word.Goals as goal

pub returns-then-word_of-word : goal.returns-then-word_of-word
returns-then-word_of-word c = search judging

pub returns-else-word_of-word : goal.returns-else-word_of-word
returns-else-word_of-word c = search judging

pub returns-in-None : goal.returns-in-None
returns-in-None c = search judging
