use Rattle.word.proofs.ByteLaws.{sets_split}
use Rattle.word.proofs.put_word.Goals as goal

pub returns : goal.returns
returns c =
    let given = c.args in
    cc (sets_split 4 4 given.value given.bytes.now given.at)
