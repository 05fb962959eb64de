use Rattle.word.specs.Bytes.{elements}
use Rattle.read_lending.proofs.BytesLaws.{packs}
use Rattle.read_lending.proofs.pack.Goals as goal

pub returns : goal.returns
returns c =
    packs c.args.words.now (elements 4 c.args.code.now) c.deliver-left.ensures
