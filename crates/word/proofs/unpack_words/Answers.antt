use Rattle.word.proofs.ByteLaws.{unpacking}
use Rattle.word.proofs.unpack_words.Goals as goal

pub loop-place-init : goal.loop-place-init
loop-place-init c = search unpacking

pub loop-place-preserved : goal.loop-place-preserved
loop-place-preserved c = search unpacking

pub returns : goal.returns
returns c = search unpacking
