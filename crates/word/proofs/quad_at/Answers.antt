use Rattle.word.proofs.ByteLaws.{number_split}
use Rattle.word.proofs.quad_at.Goals as goal

pub returns : goal.returns
returns c =
    cc (number_split 2 2 c.args.bytes.now c.args.at c.requires)
