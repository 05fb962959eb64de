use Rattle.code_reading.proofs.DeliverLaws.{fill_short, fill_fits}
use Rattle.code_reading.proofs.fill.Goals as goal

pub returns-then-code-words : goal.returns-then-code-words
returns-then-code-words c = fill_short c.args.words.now c.args.code.now c.if-code-words.true

pub returns : goal.returns
returns c =
    fill_fits c.args.words.now c.args.code.now c.if-code-words.false c.copy.ensures
