use Rattle.printing.proofs.LineLaws.{ways}
use Rattle.printing.proofs.cell_line.Goals as goal

pub returns-then-cell-eq-UNSET : goal.returns-then-cell-eq-UNSET
returns-then-cell-eq-UNSET c = search ways

pub returns : goal.returns
returns c = search ways
