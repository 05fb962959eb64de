use Rattle.printing.proofs.RanLaws.{ways}
use Rattle.printing.proofs.end_line.Goals as goal

pub returns : goal.returns
returns c = search ways
