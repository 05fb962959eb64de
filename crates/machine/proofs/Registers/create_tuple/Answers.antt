-- `machine::Registers::create_tuple` meets its contract: after i turns the first i cells are gathered.
use Rattle.machine.proofs.TupleLaws.{create-tuple-ways}
use Rattle.machine.proofs.Registers.create_tuple.Goals as goal

pub returns-in_err-cell : goal.returns-in_err-cell
returns-in_err-cell c = search (create-tuple-ways, c.in_err-cell.ensures)

pub returns-in_default : goal.returns-in_default
returns-in_default c = search create-tuple-ways

pub returns : goal.returns
returns c = search create-tuple-ways
