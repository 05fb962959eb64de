use Rattle.text.specs.Lines.{decimal}
use Rattle.text.proofs.put_decimal.Goals as goal

pub returns : goal.returns
unfolding decimal
returns c = c.put_digits.ensures
