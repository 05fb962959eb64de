use Rattle.printing.proofs.LineLaws.{ways}
use Rattle.printing.proofs.code_line.Goals as goal

pub returns : goal.returns
returns c = search ways
