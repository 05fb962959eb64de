use Rattle.word.proofs.ByteLaws.{number_word}
use Rattle.word.proofs.word_at.Goals as goal

pub returns : goal.returns
returns c =
    cc (number_word c.args.bytes.now c.args.at c.requires)
