use Rattle.calls.specs.Half.{declared_known}
use Rattle.compiler.proofs.looking.declares.Goals as goal

pub returns : goal.returns
unfolding declared_known
returns c = rw (c.kinds_fit.ensures, c.all_declared.ensures)
