use Rattle.stores.specs.Valid.{declared}
use Rattle.stores.proofs.cells.declares.Goals as goal

pub returns : goal.returns
unfolding declared
returns c = rw (c.kinds_fit.ensures, c.all_declared.ensures)
