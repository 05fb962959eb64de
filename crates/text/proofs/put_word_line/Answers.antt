use Rattle.text.proofs.LineLaws.{ways}
use Rattle.text.proofs.put_word_line.Goals as goal

pub returns : goal.returns
returns c = search ways
