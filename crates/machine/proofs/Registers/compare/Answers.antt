-- `machine::Registers::compare` meets its contract: each way out is a step of the table.
use Rattle.machine.proofs.MovingLaws.{match-ways}
use Rattle.machine.proofs.Registers.compare.Goals as goal

pub returns-in_err-row : goal.returns-in_err-row
returns-in_err-row c = search (match-ways, c.in_err-row.ensures)

pub returns-in_err-other : goal.returns-in_err-other
returns-in_err-other c = search (match-ways, c.in_ok-row.ensures, c.in_err-other.ensures)

pub returns-in_err-same : goal.returns-in_err-same
returns-in_err-same c = search (match-ways, c.in_ok-row.ensures, c.in_ok-other.ensures, c.in_err-same.ensures)

pub returns : goal.returns
returns c = search (match-ways, c.in_ok-row.ensures, c.in_ok-other.ensures, c.in_ok-same.ensures)
