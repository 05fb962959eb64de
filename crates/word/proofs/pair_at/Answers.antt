use Rattle.word.proofs.ByteLaws.{number_pair}
use Rattle.word.proofs.pair_at.Goals as goal

pub returns : goal.returns
returns c =
    cc (number_pair c.args.bytes.now c.args.at c.requires)
