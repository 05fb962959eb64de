use Rattle.word.proofs.ByteLaws.{packing}
use Rattle.word.proofs.pack_words.Goals as goal

pub loop-place-init : goal.loop-place-init
loop-place-init c = search packing

pub loop-place-preserved : goal.loop-place-preserved
loop-place-preserved c = search packing

pub returns : goal.returns
returns c = search packing
